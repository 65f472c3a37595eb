use Rattle.xe_opmap.proofs.TableLaws.{low_entry, high_entry}
use Rattle.xe_opmap.proofs.lookup.entry.Goals as goal

pub returns-then-op-lt256 : goal.returns-then-op-lt256
returns-then-op-lt256 c = low_entry c.args.op c.if-op-lt256.true

pub returns-else-op-lt256 : goal.returns-else-op-lt256
returns-else-op-lt256 c = high_entry c.args.op c.if-op-lt256.false
