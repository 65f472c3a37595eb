use Rattle.std.proofs.Common.{arith}
use Rattle.std.proofs.lemmas.Grind.{common_steps}
use Rattle.xe_base.proofs.Bytes.{fits-64}
use Rattle.xe_ctx.proofs.Cut.{size-small}
use Rattle.xe_ctx.proofs.ctx.Ctx.write_chunk.Goals as goal

pub overflow_cast-value : goal.overflow_cast-value
overflow_cast-value g c =
    let inside = c.requires.within.inside in
    let small = size-small c.args.c.size c.requires.within.size in
    let f = fits-64 _ _ c.number_of-value.ensures.below (grind (arith, common_steps)) in
    omega arith
