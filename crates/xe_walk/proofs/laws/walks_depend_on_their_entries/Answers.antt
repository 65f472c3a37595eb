use Rattle.xe_walk.proofs.Dependence.{depends_on_entries_alone}
use Rattle.xe_walk.proofs.laws.walks_depend_on_their_entries.Goals as goal

pub returns : goal.returns
returns c = depends_on_entries_alone
