use Rattle.std.specs.Prelude.{ℕ, ◌+◌, List, [], Bool, true, false, if◌then◌else◌, None, Option, Some}
use Rattle.xe_base.specs.Bits.{bit}
use Rattle.xe_base.specs.Exceptions.{plain_exception, invalid_opcode}
use Rattle.xe_base.specs.State.{code_size_of}
use Rattle.xe_base.specs.declared.access.Access.{Access}
use Rattle.xe_base.specs.declared.access.Made.{Made}
use Rattle.xe_base.specs.declared.cpu.CodeSize.{CodeSize}
use Rattle.xe_base.specs.declared.cpu.Cpu.{Cpu}
use Rattle.xe_icpt.specs.declared.exit.Exit.{Exit}
use Rattle.xe_icpt.specs.declared.point.Point.{Point}
use Rattle.xe_opmap.specs.declared.insn.Decoded.{Decoded}
use Rattle.xe_opmap.specs.declared.insn.Decoded.TheVariants.{Insn as Spelled, Invalid, Outside, More}
use Rattle.xe_opmap.specs.declared.insn.Insn.{Insn}
use Rattle.xe_opmap.specs.declared.row.Row.{Row}
use Rattle.xe_ctx.specs.Accept.{accepted}
use Rattle.xe_ctx.specs.Ending.{Ending, Raises, stop_of}
use Rattle.xe_ctx.specs.Fetch.{avail}
use Rattle.xe_ctx.specs.Part.{Ran, Gave, Waits, begins}
use Rattle.xe_ctx.specs.Part.{Ends as Ended_by}
use Rattle.xe_ctx.specs.Run.{run}
use Rattle.xe_ctx.specs.State.{State}
use Rattle.xe_ctx.specs.Supply.{Supply, Lack}
use Rattle.xe_ctx.specs.Tree.{Tree}
use Rattle.xe_ctx.specs.declared.report.Outcome.{Outcome}
use Rattle.xe_ctx.specs.declared.report.Outcome.TheVariants as outcomes
use Rattle.xe_ctx.specs.declared.stop.Finish.{Finish}
use Rattle.xe_ctx.specs.declared.stop.Stop.{Stop}
use Rattle.xe_ctx.specs.declared.stop.Stop.TheVariants as stops

-- One step: the bytes at CS:RIP are fetched and decoded, the instruction's requests are done in turn, and their end is the step's.

-- TF of the flags
abbrev pub tf : Cpu → Bool
tf cpu = bit cpu.rflags 8

-- what a step's retirement brings with it: 8 more where TF was 1 when it began
abbrev pub retired : Cpu → ℕ → ℕ
retired cpu retire = if tf cpu then retire + 8 else retire

-- a stop as a report tells it
abbrev pub outcome_of : Stop → Outcome
outcome_of (stops.Pending a) = outcomes.Pending a
outcome_of (stops.BusFault a) = outcomes.BusFault a
outcome_of (stops.Diverged d) = outcomes.Diverged d.at d.kept d.wanted
outcome_of (stops.Fault f) = outcomes.Fault f
outcome_of (stops.Intercept e) = outcomes.Intercept e
outcome_of (stops.Event e) = outcomes.Event e.kind e.vector e.next
outcome_of (stops.Handoff h) = outcomes.Handoff h

-- a step that ended: its row, how, the state then, the accesses made, and the answers left
pub record Ended : Type 0 where
  pub row : Option Row
  pub outcome : Outcome
  pub state : State
  pub made : List Made
  pub rest : Supply

-- a step that stands at an access without an answer: its row, the access and why it has none, the accesses made before it, and the
-- answers left
pub record Wanted : Type 0 where
  pub row : Option Row
  pub access : Access
  pub lack : Lack
  pub made : List Made
  pub rest : Supply

-- what a step comes to with its answers
pub data Stepped : Type 0 where
  Ends : Ended → Stepped
  Wants : Wanted → Stepped

-- a step that ended before its instruction was begun
abbrev pub early : State → Option Row → Outcome → Supply → Stepped
early s row outcome supply = Ends (record { row = row; outcome = outcome; state = s; made = []; rest = supply })

-- Registers and RAM take effect where the instruction finishes; at every other end the state is that before the step.
abbrev pub concluded : State → Row → Ran Finish → Stepped
concluded s row (Gave f v rest) = Ends (record { row = Some row; outcome = outcomes.Done f.more (retired s.cpu f.retire); state = record { cpu = f.cpu; ram = v.work }; made = v.made; rest = rest })
concluded s row (Waits a lack v rest) = Wants (record { row = Some row; access = a; lack = lack; made = v.made; rest = rest })
concluded s row (Ended_by e v rest) = Ends (record { row = Some row; outcome = outcome_of (stop_of e); state = s; made = v.made; rest = rest })

-- #UD (SDM volume 3, "Interrupt 6 - Invalid Opcode Exception")
abbrev pub undefined_opcode : Ending
undefined_opcode = Raises (plain_exception invalid_opcode)

-- what each instruction asks for, in a state of the registers
abbrev pub Table : Type 0
Table = Insn → Cpu → Tree Finish

abbrev pub executed : Tree Finish → Insn → State → (Point → Option Exit) → Supply → Stepped
executed tree insn s hits supply = concluded s insn.row (run tree (accepted insn.len (begins s hits)) supply)

-- what follows the decoding; where the bytes end too early, the reason why the next can't be had decides
abbrev pub stepped : Table → State → (Point → Option Exit) → Supply → Ending → Decoded → Stepped
stepped table s hits supply reason (Spelled insn) = executed (table insn s.cpu) insn s hits supply
stepped table s hits supply reason (Invalid n) = early s None (outcome_of (stop_of undefined_opcode)) supply
stepped table s hits supply reason Outside = early s None outcomes.Unhandled supply
stepped table s hits supply reason More = early s None (outcome_of (stop_of reason)) supply

-- one step from a state over a table of instructions, by a decoder, with these intercepts and these answers
unfoldable pub step : Table → (CodeSize → List ℕ → Decoded) → State → (Point → Option Exit) → Supply → Stepped
step table decode s hits supply = stepped table s hits supply (avail s).reason (decode (code_size_of s.cpu) (avail s).bytes)

-- a step finished
abbrev pub is_done : Outcome → Bool
is_done (outcomes.Done more retire) = true
is_done _ = false

-- the record belongs to another step
abbrev pub is_diverged : Outcome → Bool
is_diverged (outcomes.Diverged at kept wanted) = true
is_diverged _ = false
