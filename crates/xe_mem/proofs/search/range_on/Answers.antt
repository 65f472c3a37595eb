use Rattle.std.proofs.Common.{arith}
use Rattle.xe_mem.proofs.SearchLaws.{gap-reached}
use Rattle.xe_mem.proofs.search.range_on.Goals as goal

pub overflow_sub-gap_at : goal.overflow_sub-gap_at
overflow_sub-gap_at c = rw c.gap_at.ensures (gap-reached c.args.regions.now c.args.pa)

pub returns : goal.returns
returns c =
    let r = gap-reached c.args.regions.now c.args.pa in
    (omega (arith, r, c.gap_at.ensures, c.if-n-gap_at.false), c.place_at.ensures)
