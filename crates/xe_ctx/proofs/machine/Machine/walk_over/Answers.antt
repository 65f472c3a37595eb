use Rattle.xe_ctx.proofs.Walks.{walk-entries}
use Rattle.xe_ctx.proofs.machine.Machine.walk_over.Goals as goal

pub returns-clause-ram : goal.returns-clause-ram
returns-clause-ram c = walk-entries _ _ _ _ _ _ c.translate.ensures.is c.translate.ensures.places
