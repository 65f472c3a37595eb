use Rattle.xe_ctx.proofs.Numbers.{size-small}
use Rattle.xe_ctx.proofs.ctx.Ctx.store.Goals as goal

pub store_number-requires-clause-small : goal.store_number-requires-clause-small
store_number-requires-clause-small g c = size-small _ c.requires.size
