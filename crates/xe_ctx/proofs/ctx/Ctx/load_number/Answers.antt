use Rattle.std.proofs.Common.{◌∙◌, ap, arith}
use Rattle.xe_base.specs.Bytes.{num}
use Rattle.xe_ctx.proofs.Cut.{most-one}
use Rattle.xe_ctx.proofs.Numbers.{number_ends, number_loaded}
use Rattle.xe_ctx.proofs.ctx.Ctx.load_number.Goals as goal

pub read_number-requires-clause-accesses : goal.read_number-requires-clause-accesses
read_number-requires-clause-accesses g c =
    let one = most-one c.in_ok-pa.pa c.args.n c.requires.size c.requires.small in
    omega (arith, c.in_ok-pa.ensures.accesses, c.requires.accesses)

pub returns-then-n-room-clause-accesses : goal.returns-then-n-room-clause-accesses
returns-then-n-room-clause-accesses g c =
    let one = most-one c.in_ok-pa.pa c.args.n c.requires.size c.requires.small in
    omega (arith, c.in_ok-pa.ensures.accesses, c.read_number.ensures.accesses)

pub returns-then-n-room-clause-part : goal.returns-then-n-room-clause-part
returns-then-n-room-clause-part g c = number_loaded _ _ _ c.if-n-room.true _ c.in_ok-pa.ensures.part (c.read_number.ensures.part 0)

pub returns-clause-part : goal.returns-clause-part
returns-clause-part g c = number_ends c.in_ok-bytes.ensures.part (c.number_of.ensures.is ∙ ap num c.as_slice.ensures.value)
