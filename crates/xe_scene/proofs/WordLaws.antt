-- Reading one word after another.
use Rattle.std.proofs.Common.{◌≡◌, ℕ, ◌+◌, ◌<◌, ◌≤◌, List, [], ◌∷◌, ◌++◌, length, drop, get_or, map, Result, Ok, Err, refl, sym, ap, ◌∙◌, arith, append_assoc}
use Rattle.std.proofs.lemmas.List.{drop_more, drop_all, append-nil, length-map, get_or-map}
use Rattle.xe_base.specs.declared.access.Space.{Space}
use Rattle.xe_scene.specs.declared.command.Item.{Item}
use Rattle.xe_scene.specs.declared.reason.Reason.{Reason}
use Rattle.std.specs.Prelude.{Bool, ◌||◌}
use Rattle.std.specs.List.{list_any}
use Rattle.xe_scene.specs.Chain.{◌>>=◌}
use Rattle.xe_scene.specs.Words.{item_of, items_of}

-- what was read before, and what is still read
abbrev pub with_front : {A E : Type 0} → List A → Result (List A) E → Result (List A) E
with_front front read = read >>= λ rest. Ok (front ++ rest)

regroup : (front : List Item) (x : Item) (read : Result (List Item) Reason) → with_front front (read >>= λ is. Ok (x ∷ is)) ≡ with_front (front ++ x ∷ []) read
regroup front x (Ok is) = ap (λ (v : List Item). Ok v) (sym (append_assoc front (x ∷ []) is))
regroup front x (Err e) = refl

items_next : (space : Space) (words : List (List ℕ)) (i : ℕ) → i < length words
    → items_of space (drop i words) ≡ (item_of space (get_or words i []) >>= λ x. items_of space (drop (i + 1) words) >>= λ is. Ok (x ∷ is))
unfolding items_of
items_next space words i lt = ap (items_of space) (drop_more words i [] lt)

items_at : {W : Type 0} (space : Space) (f : W → List ℕ) (ws : List W) (d : W) (i : ℕ) → i < length ws
    → items_of space (drop i (map f ws)) ≡ (item_of space (f (get_or ws i d)) >>= λ x. items_of space (drop (i + 1) (map f ws)) >>= λ is. Ok (x ∷ is))
items_at {W = W} space f ws d i lt =
    let within : i < length (map f ws) = omega (arith, length-map ws f) in
    items_next space (map f ws) i within ∙ ap (λ (w : List ℕ). item_of space w >>= λ x. items_of space (drop (i + 1) (map f ws)) >>= λ is. Ok (x ∷ is)) (get_or-map f ws i d [] lt)

pub items_step : {W : Type 0} (space : Space) (f : W → List ℕ) (ws : List W) (d : W) (i : ℕ) (front : List Item) (x : Item) (all : Result (List Item) Reason) → i < length ws → Ok x ≡ item_of space (f (get_or ws i d))
    → with_front front (items_of space (drop i (map f ws))) ≡ all → with_front (front ++ x ∷ []) (items_of space (drop (i + 1) (map f ws))) ≡ all
items_step space f ws d i front x all lt e h =
    sym (ap (with_front front) (items_at space f ws d i lt ∙ ap (λ (r : Result Item Reason). r >>= λ y. items_of space (drop (i + 1) (map f ws)) >>= λ is. Ok (y ∷ is)) (sym e))
    ∙ regroup front x (items_of space (drop (i + 1) (map f ws)))) ∙ h

pub items_stop : {W : Type 0} (space : Space) (f : W → List ℕ) (ws : List W) (d : W) (i : ℕ) (front : List Item) (e : Reason) (all : Result (List Item) Reason) → i < length ws → Err e ≡ item_of space (f (get_or ws i d))
    → with_front front (items_of space (drop i (map f ws))) ≡ all → all ≡ Err e
items_stop space f ws d i front e all lt k h =
    sym h ∙ ap (with_front front) (items_at space f ws d i lt ∙ ap (λ (r : Result Item Reason). r >>= λ y. items_of space (drop (i + 1) (map f ws)) >>= λ is. Ok (y ∷ is)) (sym k))

pub items_end : {W : Type 0} (space : Space) (f : W → List ℕ) (ws : List W) (i : ℕ) (front : List Item) (all : Result (List Item) Reason) → length ws ≤ i
    → with_front front (items_of space (drop i (map f ws))) ≡ all → all ≡ Ok front
unfolding items_of
items_end space f ws i front all le h = sym h ∙ ap (λ (words : List (List ℕ)). with_front front (items_of space words)) (drop_all i (map f ws) (omega (arith, length-map ws f))) ∙ ap (λ (v : List Item). Ok v) (append-nil front)

-- a test of some word, through a view
pub any_mapped : {W : Type 0} (f : W → List ℕ) (p : List ℕ → Bool) (ws : List W) → list_any p (map f ws) ≡ list_any (λ w. p (f w)) ws
any_mapped f p [] = refl
any_mapped f p (w ∷ ws) = ap (λ b. p (f w) || b) (any_mapped f p ws)
