use Rattle.std.proofs.Common.{◌≤◌, ◌^◌, arith, lit≤}
use Rattle.std.proofs.Math.Nat.{pow-le-pow_right}
use Rattle.xe_flags.proofs.ShiftLaws.{turned_is, turned_lt}
use Rattle.xe_flags.proofs.shifts.turned.Goals as goal

pub overflow_add-result : goal.overflow_add-result
overflow_add-result c =
    let e = turned_is c.args.bits c.args.number c.args.k c.requires.bits c.requires.k in
    let f = turned_lt c.args.bits c.args.number c.args.k c.requires.number c.requires.k in
    let g : 2 ^ c.args.bits ≤ 2 ^ 65 = pow-le-pow_right (lit≤ tt) c.requires.bits in
    omega arith

pub returns-clause-value : goal.returns-clause-value
returns-clause-value c = turned_is c.args.bits c.args.number c.args.k c.requires.bits c.requires.k

pub returns-clause-bound : goal.returns-clause-bound
returns-clause-bound c =
    let e = turned_is c.args.bits c.args.number c.args.k c.requires.bits c.requires.k in
    rw e (turned_lt c.args.bits c.args.number c.args.k c.requires.number c.requires.k)
