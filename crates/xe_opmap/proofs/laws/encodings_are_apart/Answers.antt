use Rattle.xe_opmap.proofs.RelationLaws.{apart}
use Rattle.xe_opmap.proofs.laws.encodings_are_apart.Goals as goal

pub returns : goal.returns
returns c = λ size xs ys. apart size xs ys
