use Rattle.std.proofs.Common.{◌≡◌, ◌+◌, ◌≤◌, length, drop}
use Rattle.xe_ctx.specs.Chunks.{chunks}
use Rattle.xe_ctx.specs.Is.{Gathers}
use Rattle.xe_ctx.specs.Memory.{chunk_read}
use Rattle.xe_ctx.specs.View.{view, SameHandles, IsOpen, accesses_left, bytes_left}
use Rattle.xe_ctx.proofs.Cut.{Tiles}
use Rattle.xe_ctx.proofs.ctx.Ctx.read_devices.Given as goal

abbrev pub invariant-loop-c : goal.invariant-loop-c
invariant-loop-c g l = record {
  same : SameHandles l.fn.self l.self;
  open_ : IsOpen g.B.Bus.sight l.self;
  accesses : accesses_left l.fn.self ≤ accesses_left l.self + l.c-index;
  bytes : bytes_left l.self ≡ bytes_left l.fn.self;
  tiles : Tiles (length l.all.items) l.n (drop l.c-index (chunks l.pa l.n));
  runs : Gathers chunk_read (chunks l.pa l.n) (view g.B.Bus.sight g.I.Intercepts.hits l.fn.self) l.c-index l.all.items (view g.B.Bus.sight g.I.Intercepts.hits l.self);
}
