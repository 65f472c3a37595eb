use Rattle.std.proofs.Common.{◌<◌, ◌∙◌, length}
use Rattle.xe_ctx.specs.Chunks.{chunks}
use Rattle.xe_ctx.proofs.Cut.{chunk-within}
use Rattle.xe_ctx.proofs.ctx.Ctx.write_devices.Goals as goal

pub write_chunk-requires-clause-within : goal.write_chunk-requires-clause-within
write_chunk-requires-clause-within g c =
    let e = c.as_slice-c-items.ensures.value ∙ c.chunks_of-chunks.ensures in
    let inside : c.loop-c.c-index < length (chunks c.args.pa (length c.args.bytes.now)) = rw (← e) c.loop-c-test.true in
    rw e (chunk-within c.args.pa (length c.args.bytes.now) c.loop-c.c-index _ inside)
