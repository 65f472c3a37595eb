use Rattle.std.proofs.Common.{arith, length, ◌∙◌}
use Rattle.xe_ctx.proofs.Cut.{most-one}
use Rattle.xe_ctx.proofs.Stores.{store-room, store_last}
use Rattle.xe_ctx.proofs.ctx.Ctx.store_at.Goals as goal

pub write_piece-requires-clause-accesses : goal.write_piece-requires-clause-accesses
write_piece-requires-clause-accesses g c =
    let one = most-one c.in_ok-pa.pa (length c.args.bytes.now) c.requires.size c.requires.small in
    omega (arith, c.in_ok-pa.ensures.accesses, c.requires.accesses)

pub returns-then-bytes-room-clause-accesses : goal.returns-then-bytes-room-clause-accesses
returns-then-bytes-room-clause-accesses g c =
    let one = most-one c.in_ok-pa.pa (length c.args.bytes.now) c.requires.size c.requires.small in
    omega (arith, c.in_ok-pa.ensures.accesses, c.write_piece.ensures.accesses)

pub write_piece-requires-2-clause-accesses : goal.write_piece-requires-2-clause-accesses
write_piece-requires-2-clause-accesses g c =
    let two = store-room c.args.kind c.args.la c.args.bytes.now _ _ c.requires.size c.requires.small c.if-bytes-room.false c.in_ok-first.ensures.page (c.in_ok-second.ensures.page ∙ c.next_page-next.ensures.aligned) in
    omega (arith, two, c.in_ok-first.ensures.accesses, c.in_ok-second.ensures.accesses, c.requires.accesses)

pub returns-in_err-write_piece-clause-accesses : goal.returns-in_err-write_piece-clause-accesses
returns-in_err-write_piece-clause-accesses g c =
    let two = store-room c.args.kind c.args.la c.args.bytes.now _ _ c.requires.size c.requires.small c.if-bytes-room.false c.in_ok-first.ensures.page (c.in_ok-second.ensures.page ∙ c.next_page-next.ensures.aligned) in
    omega (arith, two, c.in_ok-first.ensures.accesses, c.in_ok-second.ensures.accesses, c.write_piece-2.ensures.accesses)

pub write_piece-requires-3-clause-accesses : goal.write_piece-requires-3-clause-accesses
write_piece-requires-3-clause-accesses g c =
    let two = store-room c.args.kind c.args.la c.args.bytes.now _ _ c.requires.size c.requires.small c.if-bytes-room.false c.in_ok-first.ensures.page (c.in_ok-second.ensures.page ∙ c.next_page-next.ensures.aligned) in
    omega (arith, two, c.in_ok-first.ensures.accesses, c.in_ok-second.ensures.accesses, c.in_ok-write_piece.ensures.accesses, c.requires.accesses)

pub returns-clause-accesses : goal.returns-clause-accesses
returns-clause-accesses g c =
    let two = store-room c.args.kind c.args.la c.args.bytes.now _ _ c.requires.size c.requires.small c.if-bytes-room.false c.in_ok-first.ensures.page (c.in_ok-second.ensures.page ∙ c.next_page-next.ensures.aligned) in
    omega (arith, two, c.in_ok-first.ensures.accesses, c.in_ok-second.ensures.accesses, c.in_ok-write_piece.ensures.accesses, c.write_piece-3.ensures.accesses)

pub returns-clause-part : goal.returns-clause-part
returns-clause-part g c = store_last _ _ _ c.if-bytes-room.false c.next_page-next.ensures.value c.in_ok-first.ensures.part c.in_ok-second.ensures.part c.in_ok-write_piece.ensures.part _ c.write_piece-3.ensures.part
