use Rattle.std.proofs.Common.{arith}
use Rattle.std.specs.Int.{from_bool}
use Rattle.xe_flags.proofs.ArithmeticLaws.{from_bool-le, sum_is}
use Rattle.xe_flags.proofs.arithmetic.sum.Goals as goal

pub returns-clause-status : goal.returns-clause-status
returns-clause-status g c =
    let e = sum_is g.row.W c.args.a c.args.b (from_bool c.args.carry) c.get.ensures.width (omega arith) (omega arith) (from_bool-le _) c.low-word.result (cc) in
    cc
