use Rattle.std.specs.Prelude.{ℕ, ◌≤◌, List, length, Option, Result, Ok, Err, if◌then◌else◌}
use Rattle.xe_base.specs.Access.{IsWellFormed}
use Rattle.xe_base.specs.Ram.{Area}
use Rattle.xe_base.specs.State.{code_size_of}
use Rattle.xe_base.specs.declared.access.Made.{Made}
use Rattle.xe_base.specs.declared.cpu.CodeSize.{CodeSize}
use Rattle.xe_base.specs.declared.cpu.Cpu.{Cpu}
use Rattle.xe_icpt.specs.declared.exit.Exit.{Exit}
use Rattle.xe_icpt.specs.declared.point.Point.{Point}
use Rattle.xe_opmap.specs.Encoding.{decode_part, finished}
use Rattle.xe_opmap.specs.declared.insn.Decoded.{Decoded}
use Rattle.xe_opmap.specs.declared.insn.Decoded.TheVariants.{Insn as Spelled, Invalid, Outside, More}
use Rattle.xe_opmap.specs.declared.insn.Insn.{Insn}
use Rattle.xe_ctx.specs.Ending.{Ending, stop_of}
use Rattle.xe_ctx.specs.Fetch.{avail}
use Rattle.xe_ctx.specs.State.{State}
use Rattle.xe_core.specs.Step.{Stepped, step, outcome_of, undefined_opcode, is_done}
use Rattle.xe_ctx.specs.Supply.{Supply}
use Rattle.xe_ctx.specs.declared.report.Outcome.{Outcome}
use Rattle.xe_ctx.specs.declared.report.Outcome.TheVariants.{Pending, BusFault, Unhandled}
use Rattle.xe_core.specs.Rows.{table}
use Rattle.xe_core.specs.Turn.{Steps}

-- what bytes begin with, by the opcode maps
abbrev pub decoding : CodeSize → List ℕ → Decoded
decoding size bytes = finished (decode_part size bytes)

-- one step over the instruction table, with these intercepts and these answers
abbrev pub step_of : State → (Point → Option Exit) → Supply → Stepped
step_of = step table decoding

-- the same from any state
abbrev pub steps_of : (Point → Option Exit) → Steps
steps_of hits s = step_of s hits

-- ---- the instruction at CS:RIP

-- the instruction, or how the step ends without one
abbrev pub decided : Ending → Decoded → Result Insn Outcome
decided reason (Spelled insn) = Ok insn
decided reason (Invalid n) = Err (outcome_of (stop_of undefined_opcode))
decided reason Outside = Err Unhandled
decided reason More = Err (outcome_of (stop_of reason))

unfoldable pub fetched : State → Result Insn Outcome
fetched s = decided (avail s).reason (decoding (code_size_of s.cpu) (avail s).bytes)

-- ---- a step that was tried

-- the state that it comes to: its registers and its RAM where it finished, else that before
abbrev pub after_by : Outcome → State → Cpu → List Area → State
after_by outcome before cpu ram = if is_done outcome then record { cpu = cpu; ram = ram } else before

-- what a step that is given up owes to its record: the access that it stands at is well formed, and there is room for those made
abbrev pub Keepable : Outcome → List Made → Type 0
Keepable (Pending a) made = IsWellFormed a × (length made ≤ 255)
Keepable (BusFault a) made = IsWellFormed a × (length made ≤ 255)
Keepable _ made = Unit {0}
