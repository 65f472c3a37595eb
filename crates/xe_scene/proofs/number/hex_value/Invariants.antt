use Rattle.std.proofs.Common.{◌≡◌, ◌<◌, ◌^◌, drop}
use Rattle.xe_scene.specs.Numbers.{hex_from}
use Rattle.xe_scene.proofs.number.hex_value.Given as goal

abbrev pub invariant-loop-c : goal.invariant-loop-c
invariant-loop-c l = record {
  so_far : hex_from l.n (drop l.c-index l.word) ≡ hex_from 0 l.word;
  below : l.n < 16 ^ l.c-index;
}
