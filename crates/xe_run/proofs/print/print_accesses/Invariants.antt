use Rattle.std.proofs.Common.{◌≤◌, drop, map}
use Rattle.xe_run.proofs.ToldLaws.{Progress}
use Rattle.xe_run.specs.Text.{text}
use Rattle.xe_run.specs.Drive.{call_event}
use Rattle.xe_run.proofs.print.print_accesses.Given as goal

abbrev pub invariant-loop-made : goal.invariant-loop-made
invariant-loop-made g l = record {
  progress : Progress (g.K.Sink.written l.fn.out) (text (map call_event l.accesses)) (g.K.Sink.written l.out) (text (map call_event (drop l.made-index l.accesses)));
  count : g.K.Sink.faults l.fn.out ≤ g.K.Sink.faults l.out;
}
