use Rattle.xe_walk.proofs.UsedLaws.{uses_as_page_size_says}
use Rattle.xe_walk.proofs.laws.page_sizes_tell_entries.Goals as goal

pub returns : goal.returns
returns c = uses_as_page_size_says
