use Rattle.std.proofs.Common.{◌≡◌, ◌+◌, take, length, List, All, true}
use Rattle.xe_base.specs.Ram.{Area, in_ram, put_bytes, AreRam}
use Rattle.xe_ctx.specs.Work.{Cell, patched, expand}
use Rattle.xe_ctx.proofs.overlay.push_bytes.Given as goal

abbrev pub invariant-loop-i : goal.invariant-loop-i
invariant-loop-i l = record {
  room : length (expand l.runs.items) ≡ length (expand l.fn.runs.items) + l.i;
  is : (ram : List Area) → patched ram (expand l.runs.items) ≡ put_bytes (patched ram (expand l.fn.runs.items)) l.pa (take l.i l.bytes);
  in_ram_ : (ram : List Area) → AreRam ram l.pa (length l.bytes) → All (λ (c : Cell). in_ram ram c.at ≡ true) (expand l.fn.runs.items) → All (λ (c : Cell). in_ram ram c.at ≡ true) (expand l.runs.items);
}
