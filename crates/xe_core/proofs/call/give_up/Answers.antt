use Rattle.std.proofs.Common.{rules}
use Rattle.xe_core.proofs.call.give_up.Goals as goal

pub returns-clause-record : goal.returns-clause-record
returns-clause-record g c =
    let left = rw c.stop_by-stop.ensures.kept at c.end.ensures.record in
    search (rules, left, c.judged-outcome.ensures)
