use Rattle.std.proofs.Common.{map}
use Rattle.xe_run.proofs.TextLaws.{text-snoc}
use Rattle.xe_run.proofs.ToldLaws.{writes_then, writes_fails}
use Rattle.xe_run.specs.Drive.{io_event}
use Rattle.xe_run.specs.Reported.{with_waits}
use Rattle.xe_run.proofs.turn.tell_last_of_turn.Goals as goal

pub returns-in_err-print_waited-clause-writes : goal.returns-in_err-print_waited-clause-writes
returns-in_err-print_waited-clause-writes g c =
    rw (text-snoc (map io_event (with_waits c.args.report.now.accesses.items c.args.waits.now)) _, ← c.as_slice.ensures.value) (writes_fails _ _ _ _ _ c.from_residual.ensures.0 c.in_err-print_waited.ensures.writes)

pub returns-clause-writes : goal.returns-clause-writes
returns-clause-writes g c =
    rw (text-snoc (map io_event (with_waits c.args.report.now.accesses.items c.args.waits.now)) _, ← c.as_slice.ensures.value) (writes_then _ _ _ _ _ _ c.in_ok-print_waited.ensures.writes c.tell_end.ensures.writes)
