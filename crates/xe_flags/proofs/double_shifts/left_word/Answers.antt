use Rattle.std.proofs.Common.{arith}
use Rattle.xe_flags.proofs.DoubleLaws.{left_is}
use Rattle.xe_flags.proofs.double_shifts.left_word.Goals as goal

pub returns-clause-value : goal.returns-clause-value
returns-clause-value g c =
    let e = left_is g.row.W c.args.a c.args.b c.get.ensures.width (omega arith) (omega arith) c.args.k c.requires in
    cc
