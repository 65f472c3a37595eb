use Rattle.std.specs.Prelude.{ℕ, List, [], ◌∷◌, ◌++◌, Bool, Option, Some, None, if◌then◌else◌}
use Rattle.std.specs.FinSet.{empty}
use Rattle.xe_base.specs.Access.{answers_to}
use Rattle.xe_base.specs.Ram.{Area, put_bytes}
use Rattle.xe_base.specs.Reset.{reset_state}
use Rattle.xe_base.specs.declared.access.Access.{Access}
use Rattle.xe_base.specs.declared.access.Answer.{Answer}
use Rattle.xe_base.specs.declared.access.Made.{Made}
use Rattle.xe_base.specs.declared.cpu.Cpu.{Cpu}
use Rattle.xe_icpt.specs.SvmSet.{Svm, has_msr}
use Rattle.xe_ctx.specs.Kept.{Kept, nothing}
use Rattle.xe_ctx.specs.Machine.{state_of}
use Rattle.xe_ctx.specs.Recorded.{kept_of}
use Rattle.xe_ctx.specs.State.{State}
use Rattle.xe_ctx.specs.declared.report.Outcome.TheVariants.{Unhandled}
use Rattle.xe_ctx.specs.declared.report.Report.{Report}
use Rattle.x86emu_c.specs.declared.emulator.Emulator.{Emulator}
use Rattle.x86emu_c.specs.declared.handle.Handle.{Handle}

-- What a machine of C's is: the registers and the RAM; what a suspended step keeps, with the access that awaits its answer; what is
-- intercepted; an answer that came and that no step has taken yet, with the access that it is for; and the report of the last run.
pub record Emulated : Type 0 where
  pub state : State
  pub kept : Kept
  pub intercepts : Svm
  pub posted : Option Made
  pub report : Report

abbrev pub seen : Emulator → Emulated
seen e = record { state = state_of e.machine; kept = kept_of e.suspended; intercepts = e.intercepts; posted = e.mailbox.post; report = e.report }

abbrev pub inside : List Emulator → Option Emulated
inside [] = None
inside (x ∷ xs) = Some (seen x)

-- the machine in C's struct
abbrev pub machine_in : Handle → Option Emulated
machine_in h = if h.live then inside h.held.values else None

-- a report of nothing
abbrev pub blank : Report
blank = record { row = None; finished = None; elements = 0; accesses = record { items = [] }; outcome = Unhandled }

-- a machine that has just been made
abbrev pub fresh : List Area → Emulated
fresh ram = record { state = record { cpu = reset_state; ram = ram }; kept = nothing; intercepts = record { names = 0; ports = empty; msrs = [] }; posted = None; report = blank }

-- ---- what the calls answer, and what they leave

-- 6 where the registers break a rule
abbrev pub cpu_status : Option ℕ → ℕ
cpu_status None = 0
cpu_status (Some rule) = 6

-- 7 where an access awaits its answer
abbrev pub if_idle : Option Access → ℕ → ℕ
if_idle None status = status
if_idle (Some a) status = 7

abbrev pub with_cpu : Emulated → Cpu → Emulated
with_cpu e cpu = record e { state = record e.state { cpu = cpu } }

-- 8 where a byte isn't RAM
abbrev pub hole_status : Option ℕ → ℕ
hole_status None = 0
hole_status (Some pa) = 8

abbrev pub with_bytes : Emulated → ℕ → List ℕ → Emulated
with_bytes e pa bytes = record e { state = record e.state { ram = put_bytes e.state.ram pa bytes } }

-- 9 where no access awaits an answer, 10 where it has one already, 11 where it can't have this one
abbrev pub answer_status : Option Access → Option Made → Answer → ℕ
answer_status None posted r = 9
answer_status (Some a) (Some m) r = 10
answer_status (Some a) None r = if answers_to a r then 0 else 11

abbrev pub posting : Emulated → Access → Answer → Emulated
posting e a r = record e { posted = Some (record { access = a; answer = r }) }

abbrev pub abandoned : Emulated → Emulated
abandoned e = record e { kept = nothing; posted = None }

abbrev pub with_intercepts : Emulated → Svm → Emulated
with_intercepts e set = record e { intercepts = set }

-- the first rule that is broken, 0 where none is
abbrev pub rule_of : Option ℕ → ℕ
rule_of None = 0
rule_of (Some rule) = rule

-- the MSR with its direction is in the list
abbrev pub with_msr : Svm → ℕ → Bool → Svm
with_msr set number write = if has_msr set.msrs number write then set else record set { msrs = set.msrs ++ record { number = number; write = write } ∷ [] }
