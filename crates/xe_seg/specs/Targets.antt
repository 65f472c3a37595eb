use Rattle.std.specs.Prelude.{ℕ, Bool, nat_le, Result, Ok, Err, if◌then◌else◌}
use Rattle.xe_base.specs.State.{is_long, is_canonical}
use Rattle.xe_base.specs.declared.access.Fault.{Fault}
use Rattle.xe_base.specs.declared.cpu.Cpu.{Cpu}
use Rattle.xe_base.specs.declared.segment.Seg.{Seg}
use Rattle.xe_seg.specs.Accesses.{protection_fault}

-- The check of the place that a jump, a call or a return goes to (SDM volume 2, "JMP", "CALL" and "RET").

-- an offset that code can go on at, with this code segment loaded: where the mode is then 64-bit mode a canonical one, elsewhere one
-- within the segment's limit
abbrev pub is_target : Cpu → Seg → ℕ → Bool
is_target cpu cs offset = if is_long (record cpu { cs = cs }) then is_canonical cpu offset else nat_le offset cs.limit

-- any other is #GP(0), in the mode that the jump starts in
unfoldable pub target : Cpu → Seg → ℕ → Result (Unit {0}) Fault
target cpu cs offset = if is_target cpu cs offset then Ok tt else Err (protection_fault cpu)
