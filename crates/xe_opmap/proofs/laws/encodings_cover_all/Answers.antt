use Rattle.xe_opmap.proofs.RelationLaws.{cover}
use Rattle.xe_opmap.proofs.laws.encodings_cover_all.Goals as goal

pub returns : goal.returns
returns c = cover
