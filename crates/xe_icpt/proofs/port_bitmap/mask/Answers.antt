use Rattle.xe_icpt.proofs.PortLaws.{mask-bits}
use Rattle.xe_icpt.proofs.port_bitmap.mask.Goals as goal

pub returns : goal.returns
returns c = λ i h. mask-bits c.args.from c.args.to i c.requires.order c.requires.within h
