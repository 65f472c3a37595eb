use Rattle.xe_modrm.proofs.OperandLaws.{got_is_parts, parts_are_got, more_goes_on}
use Rattle.xe_modrm.proofs.laws.operands_have_parts.Goals as goal

pub returns-clause-got : goal.returns-clause-got
returns-clause-got c = got_is_parts

pub returns-clause-parts : goal.returns-clause-parts
returns-clause-parts c = parts_are_got

pub returns-clause-more : goal.returns-clause-more
returns-clause-more c = more_goes_on
