use Rattle.std.proofs.Common.{◌≡◌, List, length, take}
use Rattle.xe_base.specs.Ram.{Area, bytes_of, put_bytes, AreRam}
use Rattle.xe_ctx.proofs.run.Run.lay_over.Given as goal

abbrev pub invariant-loop-i : goal.invariant-loop-i
invariant-loop-i l = record {
  len : length l.out ≡ length l.fn.out;
  is : (ram : List Area) → AreRam ram l.pa (length l.fn.out) → l.fn.out ≡ bytes_of ram l.pa (length l.fn.out) → l.out ≡ bytes_of (put_bytes ram l.self.at (take l.i l.b-items)) l.pa (length l.fn.out);
}
