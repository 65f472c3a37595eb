use Rattle.xe_opmap.proofs.OutsideLaws.{outside_leaves, leaving_is_outside}
use Rattle.xe_opmap.proofs.laws.outside_is_where_the_table_ends.Goals as goal

pub returns-clause-to : goal.returns-clause-to
returns-clause-to c = outside_leaves

pub returns-clause-from : goal.returns-clause-from
returns-clause-from c = leaving_is_outside
