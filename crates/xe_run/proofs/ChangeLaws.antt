-- The general registers one after another.
use Rattle.std.proofs.Common.{◌≡◌, ℕ, ◌+◌, List, [], ◌∷◌, ◌++◌, refl, sym, ap, ◌∙◌, arith, codes, append_assoc}
use Rattle.std.specs.List.{flat_map, range_with_len}
use Rattle.std.proofs.lemmas.List.{map-id, flat_map_more}
use Rattle.std.proofs.lemmas.List.FromFn.{map-range_with_len_more}
use Rattle.xe_run.specs.Changes.{general_changes, general_change}
use Rattle.xe_run.specs.Shown.{general_shown, general_text}

range-more : (n : ℕ) → range_with_len 0 (n + 1) ≡ range_with_len 0 n ++ n ∷ []
range-more n =
    sym (map-id (range_with_len 0 (n + 1))) ∙ map-range_with_len_more (λ (x : ℕ). x) 0 n n (omega arith) ∙ ap (λ (l : List ℕ). l ++ n ∷ []) (map-id (range_with_len 0 n))

-- one register more
pub one-more : (f : ℕ → List ℕ) (line : List ℕ) (n : ℕ) → (line ++ flat_map f (range_with_len 0 n)) ++ f n ≡ line ++ flat_map f (range_with_len 0 (n + 1))
one-more f line n =
    flat_map_more f line (range_with_len 0 n) n ∙ ap (λ (l : List ℕ). line ++ flat_map f l) (sym (range-more n))

-- all of them
pub general-whole : (old new : List ℕ) → flat_map (general_change old new) (range_with_len 0 16) ≡ general_changes old new
unfolding general_changes
general-whole old new = refl

pub shown-whole : (line gpr : List ℕ) → (line ++ codes "gpr") ++ flat_map (general_shown gpr) (range_with_len 0 16) ≡ line ++ general_text gpr
unfolding general_text
shown-whole line gpr = append_assoc line (codes "gpr") (flat_map (general_shown gpr) (range_with_len 0 16))
