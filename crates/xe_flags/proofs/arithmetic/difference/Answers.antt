use Rattle.std.proofs.Common.{◌≡◌, ◌<◌, arith}
use Rattle.std.specs.Int.{from_bool}
use Rattle.std.proofs.lemmas.Nat.{one_shl}
use Rattle.xe_base.proofs.WidthLaws.{sizes}
use Rattle.xe_flags.proofs.ArithmeticLaws.{from_bool-le, difference_is, borrow_is}
use Rattle.xe_flags.specs.Arithmetic.{difference_word}
use Rattle.xe_flags.proofs.arithmetic.difference.Goals as goal

word_is : (g : _) (c : goal.After-is_negative-5 g) → c.low-word.result ≡ difference_word g.row.W c.args.a c.args.b (from_bool c.args.borrow)
word_is g c =
    let small : g.row.W < 128 = omega (arith, sizes g.row.W c.get.ensures.width) in
    let shifted = one_shl g.row.W 128 small in
    let e = difference_is g.row.W c.args.a c.args.b (from_bool c.args.borrow) c.get.ensures.width (omega arith) (omega arith) (from_bool-le _) in
    cc

pub returns-clause-word : goal.returns-clause-word
returns-clause-word g c = word_is g c

pub returns-clause-status : goal.returns-clause-status
returns-clause-status g c =
    let small : g.row.W < 128 = omega (arith, sizes g.row.W c.get.ensures.width) in
    let shifted = one_shl g.row.W 128 small in
    let e = borrow_is g.row.W c.args.a c.args.b (from_bool c.args.borrow) c.get.ensures.width (omega arith) (omega arith) (from_bool-le _) c.low-word.result (word_is g c) in
    cc
