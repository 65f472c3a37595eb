use Rattle.std.proofs.Common.{◌≡◌, drop, map, length}
use Rattle.std.specs.Prelude.{All}
use Rattle.xe_scene.specs.Formed.{IsItemFor}
use Rattle.xe_scene.specs.Words.{items_of}
use Rattle.xe_scene.proofs.WordLaws.{with_front}
use Rattle.xe_scene.proofs.words.items_of.Given as goal

abbrev pub invariant-loop-word : goal.invariant-loop-word
invariant-loop-word l = record {
  so_far : with_front l.items.items (items_of l.space (drop l.word-index (map (λ w. w.now) l.words))) ≡ items_of l.space (map (λ w. w.now) l.words);
  count : length l.items.items ≡ l.word-index;
  formed : All (IsItemFor l.space) l.items.items;
}
