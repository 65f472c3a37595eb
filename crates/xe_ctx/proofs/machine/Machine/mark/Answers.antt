use Rattle.xe_ctx.proofs.Walks.{marked-by}
use Rattle.xe_ctx.proofs.machine.Machine.mark.Goals as goal

pub returns-clause-work : goal.returns-clause-work
returns-clause-work c = marked-by _ _ _ _ _ _ _ c.cpu.ensures.value c.limiting-entries.ensures c.mark_each.ensures.work
