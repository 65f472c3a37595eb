use Rattle.std.proofs.Common.{arith, ◌∙◌}
use Rattle.xe_ctx.proofs.Cut.{most-one}
use Rattle.xe_ctx.proofs.Pieces.{two-room, load_two}
use Rattle.xe_ctx.proofs.ctx.Ctx.load_at.Goals as goal

pub read_piece-requires-clause-accesses : goal.read_piece-requires-clause-accesses
read_piece-requires-clause-accesses g c =
    let one = most-one c.in_ok-pa.pa c.args.n c.requires.size c.requires.small in
    omega (arith, c.in_ok-pa.ensures.accesses, c.requires.accesses)

pub returns-then-n-room-clause-accesses : goal.returns-then-n-room-clause-accesses
returns-then-n-room-clause-accesses g c =
    let one = most-one c.in_ok-pa.pa c.args.n c.requires.size c.requires.small in
    omega (arith, c.in_ok-pa.ensures.accesses, c.read_piece.ensures.accesses)

pub read_piece-requires-2-clause-accesses : goal.read_piece-requires-2-clause-accesses
read_piece-requires-2-clause-accesses g c =
    let two = two-room _ _ c.args.la c.args.n c.requires.size c.requires.small c.if-n-room.false c.in_ok-low.ensures.page (c.in_ok-high.ensures.page ∙ c.next_page-next.ensures.aligned) in
    omega (arith, two, c.in_ok-low.ensures.accesses, c.in_ok-high.ensures.accesses, c.requires.accesses)

pub returns-in_err-bytes-clause-accesses : goal.returns-in_err-bytes-clause-accesses
returns-in_err-bytes-clause-accesses g c =
    let two = two-room _ _ c.args.la c.args.n c.requires.size c.requires.small c.if-n-room.false c.in_ok-low.ensures.page (c.in_ok-high.ensures.page ∙ c.next_page-next.ensures.aligned) in
    omega (arith, two, c.in_ok-low.ensures.accesses, c.in_ok-high.ensures.accesses, c.read_piece-2.ensures.accesses)

pub read_piece-requires-3-clause-accesses : goal.read_piece-requires-3-clause-accesses
read_piece-requires-3-clause-accesses g c =
    let two = two-room _ _ c.args.la c.args.n c.requires.size c.requires.small c.if-n-room.false c.in_ok-low.ensures.page (c.in_ok-high.ensures.page ∙ c.next_page-next.ensures.aligned) in
    omega (arith, two, c.in_ok-low.ensures.accesses, c.in_ok-high.ensures.accesses, c.in_ok-bytes.ensures.accesses, c.requires.accesses)

pub returns-in_err-rest-clause-accesses : goal.returns-in_err-rest-clause-accesses
returns-in_err-rest-clause-accesses g c =
    let two = two-room _ _ c.args.la c.args.n c.requires.size c.requires.small c.if-n-room.false c.in_ok-low.ensures.page (c.in_ok-high.ensures.page ∙ c.next_page-next.ensures.aligned) in
    omega (arith, two, c.in_ok-low.ensures.accesses, c.in_ok-high.ensures.accesses, c.in_ok-bytes.ensures.accesses, c.read_piece-3.ensures.accesses)

pub returns-clause-accesses : goal.returns-clause-accesses
returns-clause-accesses g c =
    let two = two-room _ _ c.args.la c.args.n c.requires.size c.requires.small c.if-n-room.false c.in_ok-low.ensures.page (c.in_ok-high.ensures.page ∙ c.next_page-next.ensures.aligned) in
    omega (arith, two, c.in_ok-low.ensures.accesses, c.in_ok-high.ensures.accesses, c.in_ok-bytes.ensures.accesses, c.read_piece-3.ensures.accesses)

pub returns-clause-part : goal.returns-clause-part
returns-clause-part g c = rw (c.append.ensures, c.as_slice.ensures.value) (load_two _ _ _ c.if-n-room.false c.next_page-next.ensures.value c.in_ok-low.ensures.part c.in_ok-high.ensures.part (c.in_ok-bytes.ensures.part 0) (c.in_ok-rest.ensures.part _))
