use Rattle.xe_ctx.proofs.Work.{are-from}
use Rattle.xe_ctx.proofs.machine.Machine.write.Goals as goal

pub returns-clause-cells : goal.returns-clause-cells
returns-clause-cells c = c.push_bytes.ensures.in_ram _ (are-from _ _ _ c.requires.ram) c.requires.cells
