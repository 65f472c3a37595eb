use Rattle.std.proofs.Common.{◌+◌, ◌*◌, ◌≤◌}
use Rattle.xe_ctx.specs.View.{view, SameHandles, IsOpen, accesses_left, bytes_left}
use Rattle.xe_flow.proofs.Frames.{Copies}
use Rattle.xe_flow.proofs.frame.copy_pointers.Given as goal

abbrev pub invariant-more : goal.invariant-more
invariant-more g l = record {
  same : SameHandles l.fn.ctx l.ctx;
  open_ : IsOpen g.B.Bus.sight l.ctx;
  accesses : accesses_left l.fn.ctx ≤ accesses_left l.ctx + 8 * l._copied;
  bytes : bytes_left l.fn.ctx ≤ bytes_left l.ctx + 28 * l._copied;
  runs : Copies l.size l.count l.fn.cpu (view g.B.Bus.sight g.I.Intercepts.hits l.fn.ctx) l._copied l.cpu (view g.B.Bus.sight g.I.Intercepts.hits l.ctx);
}
