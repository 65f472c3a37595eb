use Rattle.std.proofs.Common.{◌≡◌, ◌+◌, ◌<◌, ◌≤◌, length, Option, true, false}
use Rattle.xe_opmap.specs.declared.row.Row.{Row}
use Rattle.xe_core.specs.Step.{is_done}
use Rattle.xe_ctx.specs.Machine.{state_of}
use Rattle.xe_ctx.specs.Recorded.{kept_of}
use Rattle.xe_scene.specs.Script.{tape_of, log_room}
use Rattle.xe_run.specs.Drive.{hits_of}
use Rattle.xe_run.specs.Driver.{world, SameRoom}
use Rattle.xe_run.specs.Reported.{is_pending}
use Rattle.xe_run.proofs.TurnLaws.{measure}
use Rattle.xe_run.proofs.WorldLaws.{Asked}
use Rattle.xe_run.proofs.driver.Driver.take_turn.Given as goal

abbrev pub invariant-asking : goal.invariant-asking
invariant-asking l = record {
  row_ : Option Row;
  asked : Asked l.most (world l.fn.self) (hits_of (world l.fn.self)) l.elements row_ l.self.waits.items l.self.report (state_of l.self.machine) (kept_of l.self.suspended) (tape_of l.self.bus);
  row_is : is_done l.self.report.outcome ≡ false → row_ ≡ l.finished;
  few : l.elements < 1000;
  pending_is : l.pending ≡ is_pending l.self.report.outcome;
  most : length l.self.report.accesses.items ≤ 256;
  log_ : is_pending l.self.report.outcome ≡ true → 256 ≤ log_room l.self.bus + length (kept_of l.self.suspended).answers;
  draft : l.self.draft ≡ l.fn.self.draft;
  icpt : l.self.icpt ≡ l.fn.self.icpt;
  batch : l.self.batch ≡ l.fn.self.batch;
  room : SameRoom l.fn.self l.self;
}

abbrev pub decreases-asking : goal.decreases-asking
decreases-asking l = measure (hits_of (world l.fn.self)) l.self.report (state_of l.self.machine) (kept_of l.self.suspended) (tape_of l.self.bus)
