use Rattle.std.proofs.Common.{arith}
use Rattle.xe_run.proofs.ToldLaws.{progress_more, progress_ends, progress_fails}
use Rattle.xe_run.proofs.TextLaws.{events-drop, events-past}
use Rattle.xe_run.proofs.print.print_all.Goals as goal

pub returns-in_err-print-clause-writes : goal.returns-in_err-print-clause-writes
returns-in_err-print-clause-writes g c =
    progress_fails _ _ _ _ _ _ _ _ c.from_residual.ensures.0 c.loop-event.invariant.progress (events-drop c.args.events.now c.loop-event.event-index _ _ c.loop-event-test.true c.event-item.is) c.in_err-print.ensures.writes

pub loop-event-preserved : goal.loop-event-preserved
loop-event-preserved g c = record {
  progress = progress_more _ _ _ _ _ _ _ c.loop-event.invariant.progress (events-drop c.args.events.now c.loop-event.event-index _ _ c.loop-event-test.true c.event-item.is) c.in_ok-print.ensures.writes;
  count = omega (arith, c.loop-event.invariant.count, c.print.ensures.count);
}

pub returns-clause-writes : goal.returns-clause-writes
returns-clause-writes g c = progress_ends _ _ _ _ c.loop-event.invariant.progress (events-past c.args.events.now c.loop-event.event-index (omega arith))
