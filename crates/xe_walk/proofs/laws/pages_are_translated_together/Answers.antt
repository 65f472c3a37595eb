use Rattle.xe_walk.proofs.Together.{translates_pages_together}
use Rattle.xe_walk.proofs.laws.pages_are_translated_together.Goals as goal

pub returns : goal.returns
returns c = translates_pages_together
