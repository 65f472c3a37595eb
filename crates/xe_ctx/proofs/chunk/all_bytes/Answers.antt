use Rattle.xe_ctx.proofs.Numbers.{front_bytes}
use Rattle.xe_ctx.proofs.chunk.all_bytes.Goals as goal

pub returns : goal.returns
returns c = λ n h. front_bytes n c.args.number _ h c.to_le_bytes.ensures
