use Rattle.std.proofs.Common.{arith}
use Rattle.xe_run.specs.Driver.{world}
use Rattle.xe_run.proofs.ToldLaws.{progress_more, progress_ends, progress_fails}
use Rattle.xe_run.proofs.DriveLaws.{drive-drop, drive-past, room-drop}
use Rattle.xe_run.proofs.driver.Driver.obey_all.Goals as goal

pub obey-requires-clause-room : goal.obey-requires-clause-room
obey-requires-clause-room g c = λ k. omega (arith, c.loop-i.invariant.room k, room-drop c.args.commands.now c.loop-i.i c.get.result.now k c.get.ensures.command)

pub returns-in_err-obey-clause-writes : goal.returns-in_err-obey-clause-writes
returns-in_err-obey-clause-writes g c =
    progress_fails _ _ _ _ _ _ _ _ c.from_residual.ensures.0 c.loop-i.invariant.progress (drive-drop c.args.commands.now c.loop-i.i (world c.loop-i.self) c.get.result.now c.get.ensures.command) c.in_err-obey.ensures.writes

pub loop-i-preserved : goal.loop-i-preserved
loop-i-preserved g c = record {
  progress = rw c.in_ok-obey.ensures.after (progress_more _ _ _ _ _ _ _ c.loop-i.invariant.progress (drive-drop c.args.commands.now c.loop-i.i (world c.loop-i.self) c.get.result.now c.get.ensures.command) c.in_ok-obey.ensures.writes);
  room = λ k. omega (arith, c.in_ok-obey.ensures.room k, c.loop-i.invariant.room k, room-drop c.args.commands.now c.loop-i.i c.get.result.now k c.get.ensures.command);
  count = omega (arith, c.loop-i.invariant.count, c.obey.ensures.count);
}

pub returns-clause-writes : goal.returns-clause-writes
returns-clause-writes g c = progress_ends _ _ _ _ c.loop-i.invariant.progress (drive-past c.args.commands.now c.loop-i.i (world c.loop-i.self) (omega arith))
