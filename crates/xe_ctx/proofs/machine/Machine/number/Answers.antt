use Rattle.xe_ctx.proofs.Work.{present-some, present-none}
use Rattle.xe_ctx.proofs.machine.Machine.number.Goals as goal

pub returns-clause-ram : goal.returns-clause-ram
returns-clause-ram c = present-some c.number_at.result _ _ _ c.number_at.ensures.present.0

pub returns-clause-none : goal.returns-clause-none
returns-clause-none c = present-none c.number_at.result _ _ _ c.number_at.ensures.present.1
