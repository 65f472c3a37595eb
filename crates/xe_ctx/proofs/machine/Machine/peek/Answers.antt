use Rattle.xe_ctx.proofs.Holes.{hole-are}
use Rattle.xe_ctx.proofs.machine.Machine.peek.Goals as goal

pub load-requires : goal.load-requires
load-requires c = hole-are _ _ _ c.in_ok-check.ensures.ok
