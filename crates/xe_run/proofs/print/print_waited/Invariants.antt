use Rattle.std.proofs.Common.{◌≤◌, drop, map}
use Rattle.xe_run.proofs.ToldLaws.{Progress}
use Rattle.xe_run.specs.Text.{text}
use Rattle.xe_run.specs.Drive.{io_event}
use Rattle.xe_run.specs.Reported.{with_waits, with_waits_from}
use Rattle.xe_run.proofs.print.print_waited.Given as goal

abbrev pub invariant-loop-at : goal.invariant-loop-at
invariant-loop-at g l = record {
  progress : Progress (g.K.Sink.written l.fn.out) (text (map io_event (with_waits l.accesses l.waits))) (g.K.Sink.written l.out) (text (map io_event (with_waits_from l.at (drop l.at l.accesses) l.waits)));
  count : g.K.Sink.faults l.fn.out ≤ g.K.Sink.faults l.out;
}
