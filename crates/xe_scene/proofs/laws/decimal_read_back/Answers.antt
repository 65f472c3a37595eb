use Rattle.xe_scene.proofs.ReadBackLaws.{decimal_read_back, decimal_only}
use Rattle.xe_scene.proofs.laws.decimal_read_back.Goals as goal

pub returns-clause-read : goal.returns-clause-read
returns-clause-read c = λ n h. decimal_read_back n h

pub returns-clause-only : goal.returns-clause-only
returns-clause-only c = λ word n h e. decimal_only word n h e
