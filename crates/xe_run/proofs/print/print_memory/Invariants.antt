use Rattle.std.proofs.Common.{◌-◌, ◌+◌, ◌/◌, ◌≤◌, length}
use Rattle.xe_run.proofs.ToldLaws.{Progress}
use Rattle.xe_run.proofs.TextLaws.{memory_rest}
use Rattle.xe_run.specs.Text.{text}
use Rattle.xe_run.specs.Drive.{memory_shown}
use Rattle.xe_run.proofs.print.print_memory.Given as goal

abbrev pub invariant-loop-line : goal.invariant-loop-line
invariant-loop-line g l = record {
  progress : Progress (g.K.Sink.written l.fn.out) (text (memory_shown l.pa l.bytes)) (g.K.Sink.written l.out) (memory_rest l.pa l.bytes l.line ((length l.bytes + 15) / 16 - l.line));
  count : g.K.Sink.faults l.fn.out ≤ g.K.Sink.faults l.out;
}
