use Rattle.std.proofs.Common.{◌∙◌, ap}
use Rattle.xe_ctx.specs.Work.{expand}
use Rattle.xe_ctx.proofs.Changes.{expand-none}
use Rattle.xe_ctx.proofs.machine.Machine.begin_step.Goals as goal

pub returns-clause-cells : goal.returns-clause-cells
returns-clause-cells c = ap expand c.clear.ensures ∙ expand-none
