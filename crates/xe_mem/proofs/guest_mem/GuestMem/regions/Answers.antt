use Rattle.std.proofs.Common.{◌∙◌, sym}
use Rattle.xe_mem.proofs.FlatLaws.{regions-view}
use Rattle.xe_mem.proofs.guest_mem.GuestMem.regions.Goals as goal

pub returns-clause-value : goal.returns-clause-value
returns-clause-value c = c.as_slice.ensures.value ∙ sym (regions-view _ _ _ c.self.invariant.whole c.self.view_is)
