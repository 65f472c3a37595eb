use Rattle.xe_mem.proofs.LayoutLaws.{is-ram}
use Rattle.xe_mem.proofs.guest_mem.GuestMem.is_ram.Goals as goal

pub returns : goal.returns
returns c = is-ram c.args.self.now c.args.pa c.first_gap.result c.args.n c.first_gap.ensures.gap
