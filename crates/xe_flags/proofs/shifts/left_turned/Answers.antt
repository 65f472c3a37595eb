use Rattle.std.proofs.Common.{◌%◌, arith}
use Rattle.std.proofs.Math.Nat.{mod-eq_of_lt}
use Rattle.xe_base.proofs.WidthLaws.{sizes}
use Rattle.xe_flags.proofs.ShiftLaws.{left_is}
use Rattle.xe_flags.proofs.shifts.left_turned.Goals as goal

pub returns : goal.returns
returns g c =
    let s = sizes g.row.W c.get-number.ensures.width in
    let e = left_is g.row.W c.args.a (c.args.k % g.row.W) (omega (arith, s.least)) in
    let f = mod-eq_of_lt c.turned.ensures.bound in
    cc
