use Rattle.std.proofs.Common.{arith}
use Rattle.xe_base.proofs.WidthLaws.{sizes}
use Rattle.xe_flags.proofs.DoubleLaws.{left_out}
use Rattle.xe_flags.proofs.double_shifts.left.Goals as goal

pub returns-clause-carry : goal.returns-clause-carry
returns-clause-carry g c =
    let s = sizes g.row.W c.left_word.ensures.width in
    let e = left_out g.row.W c.args.a c.args.b c.args.k (omega (arith, s.least)) c.requires.low in
    cc
