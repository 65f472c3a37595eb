use Rattle.std.proofs.Common.{◌≡◌, ◌≤◌, ◌<◌, ◌*◌, ◌-◌, length, take}
use Rattle.xe_mem.specs.Flat.{repeated}
use Rattle.xe_mem.proofs.moves.repeat.Given as goal

abbrev pub decreases-loop-done : goal.decreases-loop-done
decreases-loop-done l = l.count - l.done

abbrev pub invariant-loop-done : goal.invariant-loop-done
invariant-loop-done l = record {
  size : length l.out ≡ length l.unit * l.count;
  some : 0 < l.done;
  few : l.done ≤ l.count;
  filled : take (length l.unit * l.done) l.out ≡ repeated l.unit l.done;
}
