use Rattle.std.specs.Prelude.{ℕ, ◌≡◌, length, true, false, Option, Some, None}
use Rattle.xe_base.specs.declared.access.Access.{Access}
use Rattle.xe_base.specs.declared.access.Answer.{Answer}
use Rattle.xe_base.specs.declared.access.Answer.TheVariants.{Val, No}
use Rattle.xe_base.specs.declared.access.Made.{Made}
use Rattle.xe_base.specs.declared.access.Space.{Space}
use Rattle.xe_base.specs.declared.access.Space.TheVariants.{Mem, Port, Msr, Cpuid}
use Rattle.xe_ctx.specs.declared.report.Outcome.{Outcome}
use Rattle.xe_ctx.specs.declared.report.Outcome.TheVariants as outcomes
use Rattle.xe_ctx.specs.declared.report.Report.{Report}
use Rattle.xe_ctx.specs.declared.stop.EventKind.{EventKind}
use Rattle.xe_ctx.specs.declared.stop.EventKind.TheVariants.{Int, Int3, Into}
use Rattle.xe_ctx.specs.declared.stop.Handoff.{Handoff}
use Rattle.xe_ctx.specs.declared.stop.Handoff.TheVariants.{CallGate, TaskGate, Tss, TaskReturn, Vm86, Entry, Fetch}
use Rattle.x86emu_c.specs.declared.access.X86emuAccess.{X86emuAccess}
use Rattle.x86emu_c.specs.declared.access.X86emuMade.{X86emuMade}
use Rattle.x86emu_c.specs.declared.report.X86emuReport.{X86emuReport}

-- How C is told of accesses and of a run. The numbers stand in the header under their names.

abbrev pub space_number : Space → ℕ
space_number Mem = 0
space_number Port = 1
space_number Msr = 2
space_number Cpuid = 3

pub record ToldAccess (a : Access) (c : X86emuAccess) : Type 0 where
  pub address_ : c.address ≡ a.address
  pub value_ : c.value ≡ a.value
  pub space_ : c.space ≡ space_number a.space
  pub size_ : c.size ≡ a.size
  pub write_ : c.write ≡ a.write

abbrev pub ToldAnswer : Answer → X86emuMade → Type 0
ToldAnswer (Val v) c = (c.answered ≡ true) × (c.answer ≡ v)
ToldAnswer No c = c.answered ≡ false

pub record ToldMade (m : Made) (c : X86emuMade) : Type 0 where
  pub access_ : ToldAccess m.access c.access
  pub answer_ : ToldAnswer m.answer c

abbrev pub event_number : EventKind → ℕ
event_number Int = 0
event_number Int3 = 1
event_number Into = 2

abbrev pub handoff_number : Handoff → ℕ
handoff_number (CallGate sel) = 0
handoff_number (TaskGate sel) = 1
handoff_number (Tss sel) = 2
handoff_number TaskReturn = 3
handoff_number (Vm86 sel) = 4
handoff_number (Entry pa) = 5
handoff_number (Fetch pa) = 6

abbrev pub handoff_value : Handoff → ℕ
handoff_value (CallGate sel) = sel
handoff_value (TaskGate sel) = sel
handoff_value (Tss sel) = sel
handoff_value TaskReturn = 0
handoff_value (Vm86 sel) = sel
handoff_value (Entry pa) = pa
handoff_value (Fetch pa) = pa

-- an error code, where there is one
abbrev pub ToldCode : Option ℕ → X86emuReport → Type 0
ToldCode (Some code) r = (r.has_code ≡ true) × (r.code ≡ code)
ToldCode None r = r.has_code ≡ false

-- the address of a page fault, where there is one
abbrev pub ToldAddress : Option ℕ → X86emuReport → Type 0
ToldAddress (Some cr2) r = (r.has_cr2 ≡ true) × (r.value ≡ cr2)
ToldAddress None r = r.has_cr2 ≡ false

-- the access of the step, where it hasn't ended
abbrev pub ToldWanted : Option Access → X86emuReport → Type 0
ToldWanted (Some a) r = (r.has_wanted ≡ true) × ToldAccess a r.wanted
ToldWanted None r = r.has_wanted ≡ false

-- how a run ended
abbrev pub ToldEnd : Outcome → X86emuReport → Type 0
ToldEnd (outcomes.Done more retire) r = (r.end ≡ 1) × (r.more ≡ more) × (r.retire ≡ retire)
ToldEnd (outcomes.Pending a) r = (r.end ≡ 2) × ToldAccess a r.access
ToldEnd (outcomes.Fault f) r = (r.end ≡ 3) × (r.vector ≡ f.vector) × ToldCode f.code r × ToldAddress f.cr2 r
ToldEnd (outcomes.Intercept e) r = (r.end ≡ 4) × (r.code ≡ e.code) × (r.info1 ≡ e.info1) × (r.info2 ≡ e.info2)
ToldEnd (outcomes.Event kind vector next) r = (r.end ≡ 5) × (r.kind ≡ event_number kind) × (r.vector ≡ vector) × (r.value ≡ next)
ToldEnd (outcomes.Handoff h) r = (r.end ≡ 6) × (r.kind ≡ handoff_number h) × (r.value ≡ handoff_value h)
ToldEnd outcomes.Unhandled r = r.end ≡ 7
ToldEnd (outcomes.BusFault a) r = (r.end ≡ 8) × ToldAccess a r.access
ToldEnd (outcomes.Diverged at kept wanted) r = (r.end ≡ 9) × (r.at ≡ at) × ToldAccess kept r.access × ToldWanted wanted r

-- the report of a run: how it ended, how many steps finished, and how many accesses the last step made
pub record Told (l : Report) (r : X86emuReport) : Type 0 where
  pub ended : ToldEnd l.outcome r
  pub elements_ : r.elements ≡ l.elements
  pub accesses_ : r.accesses ≡ length l.accesses.items
