use Rattle.xe_base.proofs.WidthLaws.{low_mask}
use Rattle.xe_base.proofs.word.Word.low.Goals as goal

pub returns : goal.returns
returns g c = low_mask _ _ c.requires
