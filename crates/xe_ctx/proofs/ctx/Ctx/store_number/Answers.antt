use Rattle.std.proofs.Common.{arith}
use Rattle.xe_ctx.proofs.Cut.{most-one}
use Rattle.xe_ctx.proofs.Stores.{number_stored}
use Rattle.xe_ctx.proofs.ctx.Ctx.store_number.Goals as goal

pub write_number-requires-clause-accesses : goal.write_number-requires-clause-accesses
write_number-requires-clause-accesses g c =
    let one = most-one c.in_ok-pa.pa c.args.n c.requires.size c.requires.small in
    omega (arith, c.in_ok-pa.ensures.accesses, c.requires.accesses)

pub returns-then-n-room-clause-accesses : goal.returns-then-n-room-clause-accesses
returns-then-n-room-clause-accesses g c =
    let one = most-one c.in_ok-pa.pa c.args.n c.requires.size c.requires.small in
    omega (arith, c.in_ok-pa.ensures.accesses, c.write_number.ensures.accesses)

pub returns-then-n-room-clause-part : goal.returns-then-n-room-clause-part
returns-then-n-room-clause-part g c = number_stored _ _ _ _ c.if-n-room.true _ c.in_ok-pa.ensures.part c.write_number.ensures.part
