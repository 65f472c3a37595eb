use Rattle.std.specs.Prelude.{ℕ, None, Some}
use Rattle.xe_base.specs.declared.access.Fault.{Fault}
use Rattle.xe_base.specs.declared.cpu.Mode.{Mode}
use Rattle.xe_base.specs.declared.cpu.Mode.TheVariants.{Real, Protected, Compat, Long}

-- Exceptions by their vectors (SDM volume 3, "Exception and Interrupt Vectors").

-- #DE
abbrev pub divide_error : ℕ
divide_error = 0

-- #UD
abbrev pub invalid_opcode : ℕ
invalid_opcode = 6

-- #NP
abbrev pub segment_not_present : ℕ
segment_not_present = 11

-- #SS
abbrev pub stack_fault : ℕ
stack_fault = 12

-- #GP
abbrev pub general_protection : ℕ
general_protection = 13

-- #PF
abbrev pub page_fault : ℕ
page_fault = 14

-- an exception that never has an error code: #DE and #UD
unfoldable pub plain_exception : ℕ → Fault
plain_exception vector = record { vector = vector; code = None; cr2 = None }

-- an exception that has this error code; in real mode none has one (SDM volume 3, "Exceptions in Real-Address Mode")
unfoldable pub exception : Mode → ℕ → ℕ → Fault
exception Real vector code = plain_exception vector
exception Protected vector code = record { vector = vector; code = Some code; cr2 = None }
exception Compat vector code = record { vector = vector; code = Some code; cr2 = None }
exception Long vector code = record { vector = vector; code = Some code; cr2 = None }
