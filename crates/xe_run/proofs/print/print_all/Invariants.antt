use Rattle.std.proofs.Common.{◌≤◌, drop}
use Rattle.xe_run.proofs.ToldLaws.{Progress}
use Rattle.xe_run.specs.Text.{text}
use Rattle.xe_run.proofs.print.print_all.Given as goal

abbrev pub invariant-loop-event : goal.invariant-loop-event
invariant-loop-event g l = record {
  progress : Progress (g.K.Sink.written l.fn.out) (text l.events) (g.K.Sink.written l.out) (text (drop l.event-index l.events));
  count : g.K.Sink.faults l.fn.out ≤ g.K.Sink.faults l.out;
}
