use Rattle.std.proofs.Common.{◌≡◌, take, length}
use Rattle.xe_base.specs.Ram.{bytes_of}
use Rattle.xe_ctx.specs.Work.{patched, expand}
use Rattle.xe_ctx.proofs.overlay.lay_over.Given as goal

abbrev pub invariant-loop-run : goal.invariant-loop-run
invariant-loop-run l = l.out ≡ bytes_of (patched l.mem (expand (take l.run-index l.runs))) l.pa (length l.fn.out)
