use Rattle.std.proofs.Common.{◌≡◌, ◌≤◌}
use Rattle.xe_mem.specs.Flat.{flat_down}
use Rattle.xe_mem.proofs.moves.move_down.Given as goal

abbrev pub decreases-loop-left : goal.decreases-loop-left
decreases-loop-left l = l.left

abbrev pub invariant-loop-left : goal.invariant-loop-left
invariant-loop-left l = record {
  few : l.left ≤ l.count;
  moves : flat_down l.bytes l.to l.from l.unit l.left ≡ flat_down l.fn.bytes l.to l.from l.unit l.count;
}
