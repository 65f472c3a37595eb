use Rattle.std.proofs.Common.{◌≡◌, ◌≤◌, drop, min}
use Rattle.std.specs.Option.{option_map}
use Rattle.xe_scene.specs.Numbers.{decimal_from}
use Rattle.xe_scene.proofs.number.decimal_value.Given as goal

abbrev pub invariant-loop-c : goal.invariant-loop-c
invariant-loop-c l = record {
  so_far : option_map (min 1000001) (decimal_from l.n (drop l.c-index l.word)) ≡ option_map (min 1000001) (decimal_from 0 l.word);
  below : l.n ≤ 1000001;
}
