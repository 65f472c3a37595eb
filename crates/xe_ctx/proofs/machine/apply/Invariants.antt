use Rattle.std.proofs.Common.{◌≡◌, take}
use Rattle.xe_ctx.specs.Work.{patched, expand}
use Rattle.xe_ctx.proofs.machine.apply.Given as goal

abbrev pub invariant-loop-run : goal.invariant-loop-run
invariant-loop-run l = l.mem ≡ patched l.fn.mem (expand (take l.run-index l.runs))
