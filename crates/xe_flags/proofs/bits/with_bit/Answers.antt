use Rattle.std.proofs.Common.{arith}
use Rattle.std.proofs.Math.Nat.{mod-eq_of_lt}
use Rattle.xe_base.proofs.WidthLaws.{sizes}
use Rattle.xe_flags.proofs.BitLaws.{with_bit_is, with_bit_lt}
use Rattle.xe_flags.proofs.bits.with_bit.Goals as goal

pub overflow_add-value : goal.overflow_add-value
overflow_add-value g c =
    let s = sizes g.row.W c.get-value.ensures.width in
    let e = with_bit_is g.row.W c.get-value.result c.args.at c.args.on c.get-value.ensures.width c.requires in
    let f = with_bit_lt g.row.W c.get-value.result c.args.at c.args.on c.get-value.ensures.bound c.requires in
    omega (arith, s.fits)

pub returns : goal.returns
returns g c =
    let e = with_bit_is g.row.W c.get-value.result c.args.at c.args.on c.get-value.ensures.width c.requires in
    let f = mod-eq_of_lt (with_bit_lt g.row.W c.get-value.result c.args.at c.args.on c.get-value.ensures.bound c.requires) in
    cc
