use Rattle.xe_seg.proofs.LoadLaws.{loads_keep_rules}
use Rattle.xe_seg.proofs.laws.loads_keep_the_rules_of_segments.Goals as goal

pub returns : goal.returns
returns c = loads_keep_rules
