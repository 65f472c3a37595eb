use Rattle.std.proofs.Common.{◌≡◌, ◌∙◌, sym, ap, length}
use Rattle.xe_base.proofs.Ram.{length-bytes}
use Rattle.xe_ctx.proofs.Changes.{unchanged, run-laid, run-apart}
use Rattle.xe_ctx.proofs.overlay.lay_over.Goals as goal
use Rattle.xe_ctx.proofs.overlay.lay_over.Goals.{then-meets, else-meets}

pub loop-run-init : goal.loop-run-init
loop-run-init c = rw (← unchanged c.args.mem.now) c.requires.read

pub loop-run-preserved : goal.loop-run-preserved
loop-run-preserved c =
    let len : length c.loop-run.out ≡ length c.args.out.now = ap length c.loop-run.invariant ∙ length-bytes _ c.args.pa (length c.args.out.now) in
    elim c.if-meets.branch [
      | then-meets w ↦ w.out-is ∙ run-laid c.args.mem.now c.args.runs.now c.loop-run.run-index c.run-item.result c.run-item.result (sym c.run-item.is) c.args.pa (length c.args.out.now) c.loop-run.out _ c.loop-run-test.true c.requires.ram len w.lay_over.ensures c.loop-run.invariant
      | else-meets w ↦ w.out-is ∙ run-apart c.args.mem.now c.args.runs.now c.loop-run.run-index c.run-item.result c.run-item.result (sym c.run-item.is) c.args.pa (length c.args.out.now) c.loop-run.out c.loop-run-test.true (rw len at (c.meets.ensures.apart w.if-meets.false)) c.loop-run.invariant
    ]
