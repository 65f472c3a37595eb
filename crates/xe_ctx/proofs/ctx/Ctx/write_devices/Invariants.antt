use Rattle.std.proofs.Common.{◌≡◌, ◌+◌, ◌≤◌, length}
use Rattle.xe_ctx.specs.Chunks.{chunks}
use Rattle.xe_ctx.specs.Is.{Goes}
use Rattle.xe_ctx.specs.Memory.{chunk_write}
use Rattle.xe_ctx.specs.View.{view, SameHandles, IsOpen, accesses_left, bytes_left}
use Rattle.xe_ctx.proofs.ctx.Ctx.write_devices.Given as goal

abbrev pub invariant-loop-c : goal.invariant-loop-c
invariant-loop-c g l = record {
  same : SameHandles l.fn.self l.self;
  open_ : IsOpen g.B.Bus.sight l.self;
  accesses : accesses_left l.fn.self ≤ accesses_left l.self + l.c-index;
  bytes : bytes_left l.self ≡ bytes_left l.fn.self;
  runs : Goes (chunk_write l.bytes) (chunks l.pa (length l.bytes)) (view g.B.Bus.sight g.I.Intercepts.hits l.fn.self) l.c-index (view g.B.Bus.sight g.I.Intercepts.hits l.self);
}
