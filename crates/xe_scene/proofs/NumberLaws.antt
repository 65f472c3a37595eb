-- Reading digits from the left.
use Rattle.std.proofs.Common.{◌≡◌, ℕ, ◌+◌, ◌*◌, ◌^◌, ◌<◌, ◌≤◌, List, [], ◌∷◌, length, drop, get_or, Some, None, min, refl, sym, ap, ◌∙◌, arith, add-one, lit<}
use Rattle.std.specs.Option.{option_and_then, option_map}
use Rattle.std.proofs.Math.Nat.{pow-suc, pow-le-pow_right}
use Rattle.std.proofs.lemmas.List.{drop_more, drop_all}
use Rattle.hex.specs.Hex.{hex_digit_value}
use Rattle.xe_scene.specs.Numbers.{hex_from, decimal_from, decimal_digit}

hex_next : (word : List ℕ) (i n : ℕ) → i < length word → hex_from n (drop i word) ≡ option_and_then (λ d. hex_from (16 * n + d) (drop (i + 1) word)) (hex_digit_value (get_or word i 0))
unfolding hex_from
hex_next word i n lt = ap (hex_from n) (drop_more word i 0 lt)

pub hex_step : (word : List ℕ) (i n d : ℕ) → i < length word → Some d ≡ hex_digit_value (get_or word i 0) → hex_from (16 * n + d) (drop (i + 1) word) ≡ hex_from n (drop i word)
hex_step word i n d lt e = sym (hex_next word i n lt ∙ ap (option_and_then (λ d. hex_from (16 * n + d) (drop (i + 1) word))) (sym e))

pub hex_stop : (word : List ℕ) (i n : ℕ) → i < length word → None ≡ hex_digit_value (get_or word i 0) → None ≡ hex_from n (drop i word)
hex_stop word i n lt e = sym (hex_next word i n lt ∙ ap (option_and_then (λ d. hex_from (16 * n + d) (drop (i + 1) word))) (sym e))

pub hex_end : (word : List ℕ) (i n : ℕ) → length word ≤ i → Some n ≡ hex_from n (drop i word)
unfolding hex_from
hex_end word i n le = sym (ap (hex_from n) (drop_all i word le))

pub hex_below : (i n d : ℕ) → n < 16 ^ i → d < 16 → 16 * n + d < 16 ^ (i + 1)
hex_below i n d h k = rw add-one (let e = pow-suc 16 i in omega arith)

pub hex_fits : (i n d : ℕ) → i < 16 → n < 16 ^ i → d < 16 → 16 * n + d < 2 ^ 64
hex_fits i n d lt h k =
    let le : i + 1 ≤ 16 = omega arith in
    let top : 16 ^ (i + 1) ≤ 16 ^ 16 = pow-le-pow_right (lit< tt) le in
    let below = hex_below i n d h k in omega arith

-- only what a number is up to the cap counts
same_cap : (cap m n d : ℕ) → min cap m ≡ min cap n → min cap (10 * m + d) ≡ min cap (10 * n + d)
same_cap cap m n d e = omega arith

decimal_capped : (cap : ℕ) (cs : List ℕ) (m n : ℕ) → min cap m ≡ min cap n → option_map (min cap) (decimal_from m cs) ≡ option_map (min cap) (decimal_from n cs)
unfolding decimal_from
decimal_capped cap [] m n e = ap (λ (x : ℕ). Some x) e
decimal_capped cap (c ∷ cs) m n e =
    elim (decimal_digit c) as (λ o. option_map (min cap) (option_and_then (λ d. decimal_from (10 * m + d) cs) o) ≡ option_map (min cap) (option_and_then (λ d. decimal_from (10 * n + d) cs) o)) [
      | None ↦ refl
      | Some d ↦ decimal_capped cap cs (10 * m + d) (10 * n + d) (same_cap cap m n d e)
    ]

decimal_next : (word : List ℕ) (i n : ℕ) → i < length word → decimal_from n (drop i word) ≡ option_and_then (λ d. decimal_from (10 * n + d) (drop (i + 1) word)) (decimal_digit (get_or word i 0))
unfolding decimal_from
decimal_next word i n lt = ap (decimal_from n) (drop_more word i 0 lt)

pub decimal_step : (cap : ℕ) (word : List ℕ) (i n d m : ℕ) → i < length word → Some d ≡ decimal_digit (get_or word i 0) → m ≡ min (10 * n + d) cap
    → option_map (min cap) (decimal_from m (drop (i + 1) word)) ≡ option_map (min cap) (decimal_from n (drop i word))
decimal_step cap word i n d m lt e k =
    decimal_capped cap (drop (i + 1) word) m (10 * n + d) (omega arith)
    ∙ ap (option_map (min cap)) (sym (decimal_next word i n lt ∙ ap (option_and_then (λ d. decimal_from (10 * n + d) (drop (i + 1) word))) (sym e)))

pub decimal_stop : (cap : ℕ) (word : List ℕ) (i n : ℕ) → i < length word → None ≡ decimal_digit (get_or word i 0) → None ≡ option_map (min cap) (decimal_from n (drop i word))
decimal_stop cap word i n lt e = ap (option_map (min cap)) (sym (decimal_next word i n lt ∙ ap (option_and_then (λ d. decimal_from (10 * n + d) (drop (i + 1) word))) (sym e)))

pub decimal_end : (cap : ℕ) (word : List ℕ) (i n : ℕ) → length word ≤ i → n ≤ cap → Some n ≡ option_map (min cap) (decimal_from n (drop i word))
unfolding decimal_from
decimal_end cap word i n le h = sym (ap (λ (ws : List ℕ). option_map (min cap) (decimal_from n ws)) (drop_all i word le) ∙ ap (λ (x : ℕ). Some x) (omega arith))
