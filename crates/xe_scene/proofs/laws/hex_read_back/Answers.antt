use Rattle.xe_scene.proofs.ReadBackLaws.{hex_read_back, hex_above, hex_numeral, hex_only}
use Rattle.xe_scene.proofs.laws.hex_read_back.Goals as goal

pub returns-clause-value : goal.returns-clause-value
returns-clause-value c = λ most word n. (hex_only most word n, hex_numeral most word n)

pub returns-clause-read : goal.returns-clause-read
returns-clause-read c = λ most n upper le h. hex_read_back most n upper le h

pub returns-clause-above : goal.returns-clause-above
returns-clause-above c = λ most n upper lt h. hex_above most n upper lt h
