use Rattle.std.proofs.Common.{◌≤◌, drop}
use Rattle.xe_run.proofs.ToldLaws.{Progress}
use Rattle.xe_run.specs.Text.{text}
use Rattle.xe_run.specs.Drive.{drive_from}
use Rattle.xe_run.specs.Driver.{world, HasRoomFor}
use Rattle.xe_run.proofs.driver.Driver.obey_all.Given as goal

abbrev pub invariant-loop-i : goal.invariant-loop-i
invariant-loop-i g l = record {
  progress : Progress (g.K.Sink.written l.fn.out) (text (drive_from (world l.fn.self) l.commands)) (g.K.Sink.written l.out) (text (drive_from (world l.self) (drop l.i l.commands)));
  room : HasRoomFor l.self (drop l.i l.commands);
  count : g.K.Sink.faults l.fn.out ≤ g.K.Sink.faults l.out;
}
