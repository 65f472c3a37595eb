use Rattle.x86emu_c.proofs.Sizes.{fits-all, fits-some}
use Rattle.x86emu_c.proofs.obey.fits.Goals as goal

pub returns-then-size-ge8 : goal.returns-then-size-ge8
returns-then-size-ge8 c = fits-all c.args.value c.args.size c.ranges.value.fits c.if-size-ge8.true

pub returns : goal.returns
returns c = rw c.from.ensures (fits-some c.args.value c.args.size)
