use Rattle.std.specs.Prelude.{ℕ, ◌≡◌, ◌≤◌, List, slice_get, All, false, Option, Some, None, IsSome, if◌then◌else◌}
use Rattle.xe_base.specs.Access.{IsWellMade}
use Rattle.xe_base.specs.State.{Valid}
use Rattle.xe_base.specs.declared.access.Made.{Made}
use Rattle.xe_icpt.specs.SvmSet.{svm_hit}
use Rattle.xe_ctx.specs.Supply.{answers, answers_alone}
use Rattle.xe_core.specs.Call.{Tells, Led, Stands, Fits, divergence, before_last}
use Rattle.xe_core.specs.Emulate.{steps_of}
use Rattle.xe_core.specs.Step.{is_done, is_diverged}
use Rattle.xe_core.specs.Turn.{Steps, after_steps}
use Rattle.x86emu_c.specs.Emulated.{Emulated}
use Rattle.x86emu_c.specs.Told.{Told, ToldMade}
use Rattle.x86emu_c.specs.declared.access.X86emuMade.{X86emuMade}
use Rattle.x86emu_c.specs.declared.report.X86emuReport.{X86emuReport}

-- the steps of a machine with what it intercepts
abbrev pub steps_with : Emulated → Steps
steps_with e = steps_of (svm_hit e.intercepts)

-- What a run of at most n steps tells and leaves: each clause is the library's, of the machine in C's struct.
pub record Ran (n : ℕ) (old new : Emulated) : Type 0 where
  -- the record's answers come first among those of the accesses, and with these answers the turn comes to the report, the state and the
  -- record; where the record belongs to another step, that is told
  pub tells : Tells (divergence (steps_with old old.state) old.kept) (steps_with old) n old.state old.kept new.report new.state new.kept
  pub few : new.report.elements ≤ n
  -- a run that goes on with a suspended step makes no other
  pub alone : IsSome old.kept.asked → new.report.elements ≡ (if is_done new.report.outcome then 1 else 0)
  -- the machine is as after the steps that finished
  pub stays_ : new.state ≡ after_steps (steps_with old) new.report.elements old.state (answers_alone (answers new.report.accesses.items))
  pub valid : Valid new.state.cpu
  pub well_made : All IsWellMade new.report.accesses.items
  -- each step but the last finished, left elements to be done and made no access
  pub led : Led (steps_with old) n old.state old.kept new.report new.state new.kept
  -- the last step stands at the access that awaits its answer
  pub stands : Stands new.report.outcome (steps_with old (before_last (steps_with old) old.state new.report)) new.report.row new.report.accesses.items
  -- a record that belonged to the step leaves one that belongs to the step that comes next
  pub fitting : Fits (steps_with old old.state) old.kept → is_diverged new.report.outcome ≡ false
  pub fits_ : is_diverged new.report.outcome ≡ false → Fits (steps_with old new.state) new.kept
  pub same : new.intercepts ≡ old.intercepts

-- a run of the machine in C's struct: what C is told is the library's report
pub record HasRun (n : ℕ) (old : Emulated) (told : X86emuReport) (left : Option Emulated) : Type 0 where
  pub new : Emulated
  pub new_is : left ≡ Some new
  pub ran : Ran n old new
  pub told_ : Told new.report told
  -- an answer that came is gone, but where it belongs to another step
  pub taken : is_diverged new.report.outcome ≡ false → new.posted ≡ None

-- one of the accesses, as C is told of it
abbrev pub ToldOne : Option Made → X86emuMade → Type 0
ToldOne (Some m) c = ToldMade m c
ToldOne None c = Unit {0}

abbrev pub IsMade : List Made → ℕ → X86emuMade → Type 0
IsMade made index c = ToldOne (slice_get made index) c
