use Rattle.xe_scene.specs.Scene.{nothing}
use Rattle.xe_scene.proofs.FirstLaws.{first_bad, bad_first}
use Rattle.xe_scene.proofs.laws.first_bad.Goals as goal

pub returns-clause-refused : goal.returns-clause-refused
returns-clause-refused c = λ lines bad h. first_bad lines 0 nothing bad h

pub returns-clause-only : goal.returns-clause-only
returns-clause-only c = λ lines bad f. bad_first lines 0 nothing bad f
