use Rattle.std.proofs.Common.{sym}
use Rattle.xe_ctx.proofs.Changes.{unchanged, run-are, run-put}
use Rattle.xe_ctx.proofs.machine.apply.Goals as goal

pub loop-run-init : goal.loop-run-init
loop-run-init c = unchanged c.args.mem.now

pub put-requires : goal.put-requires
put-requires c = run-are _ _ _ _ _ _ (sym c.run-item.is) c.requires c.loop-run-test.true c.loop-run.invariant

pub loop-run-preserved : goal.loop-run-preserved
loop-run-preserved c = run-put _ _ _ _ _ _ _ (sym c.run-item.is) c.loop-run-test.true c.put.ensures c.loop-run.invariant
