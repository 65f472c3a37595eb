use Rattle.std.specs.Prelude.{ℕ, ◌≡◌, List, [], ◌∷◌, false, Option, Some, None}
use Rattle.xe_base.specs.Reset.{reset_state}
use Rattle.xe_base.specs.declared.access.Answer.TheVariants.{Val}
use Rattle.xe_base.specs.declared.access.Made.{Made}
use Rattle.xe_base.specs.declared.access.Space.TheVariants.{Port}
use Rattle.xe_base.specs.declared.cpu.Cpu.{Cpu}
use Rattle.xe_icpt.specs.declared.exit.Exit.{Exit}
use Rattle.xe_icpt.specs.declared.point.Point.{Point}
use Rattle.xe_opmap.specs.declared.row.Row.{Row}
use Rattle.xe_opmap.specs.declared.row.Row.TheVariants.{Mov, In, Hlt}
use Rattle.xe_ctx.specs.State.{State}
use Rattle.xe_core.specs.Call.{Call, one_call}
use Rattle.xe_ctx.specs.Kept.{Kept, nothing}
use Rattle.xe_ctx.specs.Tape.{Tape, Item, Gives, Waits, empty_tape, fed}
use Rattle.xe_ctx.specs.declared.report.Outcome.{Outcome}
use Rattle.xe_ctx.specs.declared.report.Outcome.TheVariants.{Done, Pending, Diverged}
use Rattle.xe_core.specs.Emulate.{steps_of}
use Rattle.xe_sys.specs.Port.{port_read}

-- the registers at start, but for RIP and RAX
abbrev pub registers : ℕ → ℕ → Cpu
registers rip rax = record reset_state { rip = rip; gpr = rax ∷ 0 ∷ 0 ∷ 0 ∷ 0 ∷ 0 ∷ 0 ∷ 0 ∷ 0 ∷ 0 ∷ 0 ∷ 0 ∷ 0 ∷ 0 ∷ 0 ∷ 0 ∷ [] }

-- MOV AX, 41h; IN AL, 60h; HLT at 7C00h
abbrev pub boot : ℕ → ℕ → State
boot rip rax = record { cpu = registers rip rax; ram = record { start = 0x7C00; bytes = 0xB8 ∷ 0x41 ∷ 0 ∷ 0xE4 ∷ 0x60 ∷ 0xF4 ∷ [] } ∷ [] }

-- the keyboard's port
abbrev pub keyboard : List Item → Tape
keyboard items = fed empty_tape (record { space = Port; write = false; address = 0x60 }) items

abbrev pub nothing_hit : Point → Option Exit
nothing_hit = λ _. None

abbrev pub read_key : ℕ → Made
read_key value = record { access = port_read 0x60 1; answer = Val value }

-- how a call ended: its row, its end, the state then, the accesses made, and what is kept
pub record Told : Type 0 where
  pub row : Option Row
  pub outcome : Outcome
  pub state : State
  pub made : List Made
  pub kept : Kept

abbrev pub told : Call → Told
told c = record { row = c.row; outcome = c.outcome; state = c.state; made = c.accesses; kept = c.kept }

abbrev pub called_at : State → Kept → List Item → Told
called_at s kept items = told (one_call (steps_of nothing_hit) 1 s kept (keyboard items))

-- what a step keeps that waits for the keyboard
abbrev pub asking : Kept
asking = record { answers = []; asked = Some (port_read 0x60 1) }

-- a few calls of the definition, computed: MOV; IN from a keyboard that is ready, from one that isn't yet, and resumed; HLT; and HLT with
-- the record of the IN
pub record WorkedSteps : Type 0 where
  pub mov : called_at (boot 0x7C00 0) nothing (Gives (Val 0x5A) ∷ []) ≡ record { row = Some Mov; outcome = Done false 0; state = boot 0x7C03 0x41; made = []; kept = nothing }
  pub input : called_at (boot 0x7C03 0x41) nothing (Gives (Val 0x5A) ∷ []) ≡ record { row = Some In; outcome = Done false 0; state = boot 0x7C05 0x5A; made = read_key 0x5A ∷ []; kept = nothing }
  pub waits : called_at (boot 0x7C03 0x41) nothing (Waits ∷ Gives (Val 0x5A) ∷ []) ≡ record { row = Some In; outcome = Pending (port_read 0x60 1); state = boot 0x7C03 0x41; made = []; kept = asking }
  pub resumed : called_at (boot 0x7C03 0x41) asking (Gives (Val 0x5A) ∷ []) ≡ record { row = Some In; outcome = Done false 0; state = boot 0x7C05 0x5A; made = read_key 0x5A ∷ []; kept = nothing }
  pub hlt : called_at (boot 0x7C05 0x5A) nothing [] ≡ record { row = Some Hlt; outcome = Done false 4; state = boot 0x7C06 0x5A; made = []; kept = nothing }
  pub diverges : called_at (boot 0x7C05 0x5A) asking [] ≡ record { row = Some Hlt; outcome = Diverged 0 (port_read 0x60 1) None; state = boot 0x7C05 0x5A; made = []; kept = asking }
