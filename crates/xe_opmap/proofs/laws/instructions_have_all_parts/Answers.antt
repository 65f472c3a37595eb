use Rattle.xe_opmap.proofs.AllPartsLaws.{all_parts, spelled_from_all}
use Rattle.xe_opmap.proofs.laws.instructions_have_all_parts.Goals as goal

pub returns-clause-to : goal.returns-clause-to
returns-clause-to c = all_parts

pub returns-clause-from : goal.returns-clause-from
returns-clause-from c = spelled_from_all
