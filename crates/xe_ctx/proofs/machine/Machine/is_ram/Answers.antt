use Rattle.xe_ctx.proofs.Work.{are_ram-same}
use Rattle.xe_ctx.proofs.machine.Machine.is_ram.Goals as goal

pub returns : goal.returns
returns c = are_ram-same _ _ _ _ c.is_ram.ensures.0 c.is_ram.ensures.1
