use Rattle.std.proofs.Common.{arith}
use Rattle.xe_run.proofs.ToldLaws.{progress_more, progress_ends, progress_fails}
use Rattle.xe_run.proofs.TextLaws.{accesses-drop, accesses-past}
use Rattle.xe_run.proofs.print.print_accesses.Goals as goal

pub returns-in_err-print-clause-writes : goal.returns-in_err-print-clause-writes
returns-in_err-print-clause-writes g c =
    progress_fails _ _ _ _ _ _ _ _ c.from_residual.ensures.0 c.loop-made.invariant.progress (accesses-drop c.args.accesses.now c.loop-made.made-index _ c.call_event.result c.loop-made-test.true c.call_event.ensures) c.in_err-print.ensures.writes

pub loop-made-preserved : goal.loop-made-preserved
loop-made-preserved g c = record {
  progress = progress_more _ _ _ _ _ _ _ c.loop-made.invariant.progress (accesses-drop c.args.accesses.now c.loop-made.made-index _ c.call_event.result c.loop-made-test.true c.call_event.ensures) c.in_ok-print.ensures.writes;
  count = omega (arith, c.loop-made.invariant.count, c.print.ensures.count);
}

pub returns-clause-writes : goal.returns-clause-writes
returns-clause-writes g c = progress_ends _ _ _ _ c.loop-made.invariant.progress (accesses-past c.args.accesses.now c.loop-made.made-index (omega arith))
