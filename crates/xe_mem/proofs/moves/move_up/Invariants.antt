use Rattle.std.proofs.Common.{◌≡◌, ◌+◌, ◌*◌, ◌-◌}
use Rattle.xe_mem.specs.Flat.{flat_up}
use Rattle.xe_mem.proofs.moves.move_up.Given as goal

abbrev pub invariant-loop-k : goal.invariant-loop-k
invariant-loop-k l = flat_up l.bytes (l.to + l.unit * l.k) (l.from + l.unit * l.k) l.unit (l.count - l.k) ≡ flat_up l.fn.bytes l.to l.from l.unit l.count
