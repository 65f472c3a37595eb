use Rattle.std.proofs.Common.{◌≡◌, ◌+◌}
use Rattle.xe_ctx.specs.Machine.{state_of}
use Rattle.xe_ctx.specs.Recorded.{kept_of}
use Rattle.xe_core.specs.Emulate.{steps_of}
use Rattle.xe_core.proofs.Turning.{Going}
use Rattle.xe_core.proofs.call.turn.Given as goal

abbrev pub invariant-loop-nth : goal.invariant-loop-nth
invariant-loop-nth g l = record {
  going : Going (steps_of (g.I.Intercepts.hits l.icpt)) (state_of l.fn.m) (kept_of l.fn.rec) (g.B.Bus.sight l.fn.bus) l.so_far (state_of l.m) (kept_of l.rec) (g.B.Bus.sight l.bus);
  draft_ : l.cpu ≡ (state_of l.m).cpu;
  count : l.so_far.elements + 1 ≡ l.nth;
}
