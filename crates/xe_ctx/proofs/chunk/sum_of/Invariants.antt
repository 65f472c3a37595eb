use Rattle.std.proofs.Common.{◌≡◌, ◌≤◌, drop, length}
use Rattle.xe_base.specs.Bytes.{num}
use Rattle.xe_ctx.proofs.chunk.sum_of.Given as goal

abbrev pub invariant-down : goal.invariant-down
invariant-down l = record { in_range : l.at ≤ length l.bytes; is : l.number ≡ num (drop l.at l.bytes) }

abbrev pub decreases-down : goal.decreases-down
decreases-down l = l.at
