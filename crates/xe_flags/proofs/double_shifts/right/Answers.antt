use Rattle.std.proofs.Common.{arith}
use Rattle.xe_flags.proofs.DoubleLaws.{right_is, right_out}
use Rattle.xe_flags.proofs.double_shifts.right.Goals as goal

pub returns-clause-word : goal.returns-clause-word
returns-clause-word g c =
    let e = right_is g.row.W c.args.a c.args.b c.get.ensures.width (omega arith) (omega arith) c.args.k c.requires.high in
    cc

pub returns-clause-carry : goal.returns-clause-carry
returns-clause-carry g c =
    let e = right_out g.row.W c.args.a c.args.b c.get.ensures.width (omega arith) (omega arith) c.args.k c.requires.high in
    cc
