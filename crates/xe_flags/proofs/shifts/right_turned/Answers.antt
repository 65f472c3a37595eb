use Rattle.std.proofs.Math.Nat.{mod-eq_of_lt}
use Rattle.xe_flags.proofs.shifts.right_turned.Goals as goal

pub returns : goal.returns
returns g c = let f = mod-eq_of_lt c.turned.ensures.bound in cc
