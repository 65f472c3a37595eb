use Rattle.xe_ctx.proofs.Holes.{hole-are}
use Rattle.xe_ctx.proofs.machine.Machine.poke.Goals as goal

pub store-requires : goal.store-requires
store-requires c = hole-are _ _ _ c.in_ok-check.ensures.ok
