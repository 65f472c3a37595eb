use Rattle.xe_run.proofs.RowLaws.{name_is_short}
use Rattle.xe_run.proofs.end_text.row_name.Goals as goal

pub returns-clause-short : goal.returns-clause-short
returns-clause-short c = rw (c.as_bytes.ensures.value, c.row_name.ensures) (name_is_short c.args.row)
