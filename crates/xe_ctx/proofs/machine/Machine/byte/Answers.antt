use Rattle.xe_ctx.proofs.Walks.{byte-is}
use Rattle.xe_ctx.proofs.machine.Machine.byte.Goals as goal

pub returns : goal.returns
returns c = byte-is _ _ _ _ _ c.as_slice.ensures.value c.load_patched.ensures
