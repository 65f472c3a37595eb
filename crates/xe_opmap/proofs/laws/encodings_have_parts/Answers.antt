use Rattle.xe_opmap.proofs.PartsLaws.{reads_from_parts, parts_from_reads}
use Rattle.xe_opmap.proofs.laws.encodings_have_parts.Goals as goal

pub returns-clause-from : goal.returns-clause-from
returns-clause-from c = reads_from_parts

pub returns-clause-to : goal.returns-clause-to
returns-clause-to c = parts_from_reads
