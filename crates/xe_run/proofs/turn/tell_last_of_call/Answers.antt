use Rattle.std.proofs.Common.{drop, map}
use Rattle.xe_run.proofs.TextLaws.{text-snoc}
use Rattle.xe_run.proofs.ToldLaws.{writes_then, writes_fails}
use Rattle.xe_run.proofs.WorldLaws.{drop_within}
use Rattle.xe_run.specs.Drive.{call_event}
use Rattle.xe_run.proofs.turn.tell_last_of_call.Goals as goal

pub returns-in_err-print_accesses-clause-writes : goal.returns-in_err-print_accesses-clause-writes
returns-in_err-print_accesses-clause-writes g c =
    let behind = drop_within c.args.report.now.accesses.items c.args.kept c.min.result (rw c.as_slice-accesses.ensures.value at c.min.ensures) in
    rw (text-snoc (map call_event (drop c.args.kept c.args.report.now.accesses.items)) _, ← behind, ← c.as_slice-accesses.ensures.value) (writes_fails _ _ _ _ _ c.from_residual.ensures.0 c.in_err-print_accesses.ensures.writes)

pub returns-clause-writes : goal.returns-clause-writes
returns-clause-writes g c =
    let behind = drop_within c.args.report.now.accesses.items c.args.kept c.min.result (rw c.as_slice-accesses.ensures.value at c.min.ensures) in
    rw (text-snoc (map call_event (drop c.args.kept c.args.report.now.accesses.items)) _, ← behind, ← c.as_slice-accesses.ensures.value) (writes_then _ _ _ _ _ _ c.in_ok-print_accesses.ensures.writes c.tell_end.ensures.writes)
