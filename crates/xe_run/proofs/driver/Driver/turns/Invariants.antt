use Rattle.std.proofs.Common.{◌≡◌, ◌-◌, ◌≤◌}
use Rattle.xe_run.proofs.ToldLaws.{Progress}
use Rattle.xe_ctx.specs.Kept.{nothing}
use Rattle.xe_ctx.specs.Recorded.{kept_of}
use Rattle.xe_run.specs.Text.{text}
use Rattle.xe_run.specs.Drive.{turns_in}
use Rattle.xe_run.specs.Driver.{world, SameRoom}
use Rattle.xe_run.proofs.driver.Driver.turns.Given as goal

abbrev pub invariant-loop-round : goal.invariant-loop-round
invariant-loop-round g l = record {
  progress : Progress (g.K.Sink.written l.fn.out) (text (turns_in l.steps l.steps (world l.fn.self)).events) (g.K.Sink.written l.out) (text (turns_in (l.steps - l.round) l.left (world l.self)).events);
  after : (turns_in (l.steps - l.round) l.left (world l.self)).after ≡ (turns_in l.steps l.steps (world l.fn.self)).after;
  kept : kept_of l.self.suspended ≡ nothing;
  room : SameRoom l.fn.self l.self;
  count : g.K.Sink.faults l.fn.out ≤ g.K.Sink.faults l.out;
}
