use Rattle.std.proofs.Common.{◌≡◌, ℕ, true, false, ◌+◌, ◌-◌, ◌*◌, ◌/◌, ◌%◌, ◌^◌, ◌<◌, ◌≤◌, refl, sym, subst, arith, ap, ◌∙◌, bit_and, inl, inr}
use Rattle.std.specs.Prelude.{nat_le, nat_eq}
use Rattle.std.proofs.Math.Nat.{add-mul, mul_assoc, mul_right_comm, add_comm, mod-add-mod, div-div-eq-div-mul, add-mul-div_right, mul-div-mul_right}
use Rattle.std.proofs.Math.Pow.{mod-mod-pow}
use Rattle.std.proofs.lemmas.Nat.{field_of, mod-pow-add, pow-add, pow_pos, shl_whole, mod_below}
use Rattle.std.proofs.lemmas.Nat.Bits.{shr_and_one}
use Rattle.std.proofs.lemmas.Bool.{cases_lt, lt-leb, le-leb}
use Rattle.xe_base.specs.Words.{IsWidth, top}
use Rattle.xe_base.proofs.WidthLaws.{sizes}
use Rattle.xe_flags.specs.DoubleShifts.{three_words, double_result, double_carry}

-- bits that lie within the low p ones
cut : (n p k W : ℕ) → k + W ≤ p → n % 2 ^ p / 2 ^ k % 2 ^ W ≡ n / 2 ^ k % 2 ^ W
cut n p k W h =
    let e : p ≡ p - k + k = omega arith in
    let f : p - k ≡ p - k - W + W = omega arith in
    subst (λ (x : ℕ). n % 2 ^ x / 2 ^ k % 2 ^ W ≡ n / 2 ^ k % 2 ^ W) (sym e)
    (rw (field_of n (p - k) k) (subst (λ (x : ℕ). n / 2 ^ k % 2 ^ x % 2 ^ W ≡ n / 2 ^ k % 2 ^ W) (sym f) (mod-mod-pow (n / 2 ^ k) (p - k - W) W)))

-- the lowest word apart
three_is : (a b P : ℕ) → a * P * P + b * P + a ≡ (a * P + b) * P + a
three_is a b P = rw (add-mul (a * P) b P) refl

above_is : (a u P K : ℕ) → 0 < P → (u * P + a) * K / (P * P) ≡ (u * K + a * K / P) / P
above_is a u P K pos =
    let e : (u * P + a) * K ≡ a * K + u * K * P = rw (add-mul (u * P) a K, mul_right_comm u P K) (add_comm (u * K * P) (a * K)) in
    rw (← div-div-eq-div-mul ((u * P + a) * K) P P, e, add-mul-div_right (a * K) (u * K) pos, add_comm (a * K / P) (u * K)) refl

module _ (W a b : ℕ) (width : IsWidth W) (a_in : a < 2 ^ W) (b_in : b < 2 ^ W) where
  pub left_is : (k : ℕ) → k < 64 → ((a * 2 ^ W + b) * 2 ^ k % 2 ^ 128 + a * 2 ^ k % 2 ^ 128 / 2 ^ W) % 2 ^ 128 / 2 ^ W % 2 ^ W ≡ double_result W true a b k
  left_is k k_in =
      let s = sizes W width in
      let whole : a * 2 ^ k % 2 ^ 128 ≡ a * 2 ^ k = shl_whole a 64 k 128 (omega (arith, s.fits)) (omega arith) in
      let e = above_is a (a * 2 ^ W + b) (2 ^ W) (2 ^ k) (pow_pos W) in
      rw (whole, mod-add-mod ((a * 2 ^ W + b) * 2 ^ k) (2 ^ 128) (a * 2 ^ k / 2 ^ W), cut ((a * 2 ^ W + b) * 2 ^ k + a * 2 ^ k / 2 ^ W) 128 W W (omega (arith, s.most)), three_is a b (2 ^ W), e) refl

  pub right_is : (k : ℕ) → k < 64 → ((a * 2 ^ W + b) * 2 ^ W % 2 ^ 128 + a) % 2 ^ 128 / 2 ^ k % 2 ^ W ≡ double_result W false a b k
  right_is k k_in =
      let s = sizes W width in
      rw (mod-add-mod ((a * 2 ^ W + b) * 2 ^ W) (2 ^ 128) a, cut ((a * 2 ^ W + b) * 2 ^ W + a) 128 k W (omega (arith, s.most)), three_is a b (2 ^ W)) refl

  pub right_out : (k : ℕ) → k < 64 → nat_eq (bit_and (((a * 2 ^ W + b) * 2 ^ W % 2 ^ 128 + a) % 2 ^ 128 / 2 ^ (k - 1)) 1) 1 ≡ double_carry W false a b k
  right_out k k_in =
      let e = cut ((a * 2 ^ W + b) * 2 ^ W + a) 128 (k - 1) 1 (omega arith) in
      rw (shr_and_one (((a * 2 ^ W + b) * 2 ^ W % 2 ^ 128 + a) % 2 ^ 128) (k - 1), mod-add-mod ((a * 2 ^ W + b) * 2 ^ W) (2 ^ 128) a, e, three_is a b (2 ^ W)) refl

bit_test : (P y r : ℕ) → y ≤ 1 → r < P → nat_le P (y * P + r) ≡ nat_eq y 1
bit_test P y r y_in r_in = elim (cases_lt y 1) [
  | inl low ↦ let e : y ≡ 0 = omega arith in rw (e, lt-leb P (0 * P + r) (omega arith)) refl
  | inr high ↦ let e : y ≡ 1 = omega arith in rw (e, le-leb P (1 * P + r) (omega arith)) refl
]

-- the top bit of a word that is cut from a number
top_is : (W x : ℕ) → 0 < W → top W (x % 2 ^ W) ≡ nat_eq (x / 2 ^ (W - 1) % 2) 1
top_is W x W_in =
    let e : W ≡ 1 + (W - 1) = omega arith in
    let f : x % 2 ^ W ≡ (x / 2 ^ (W - 1) % 2) * 2 ^ (W - 1) + x % 2 ^ (W - 1) = subst (λ (n : ℕ). x % 2 ^ n ≡ (x / 2 ^ (W - 1) % 2) * 2 ^ (W - 1) + x % 2 ^ (W - 1)) (sym e) (mod-pow-add x 1 (W - 1)) in
    let low = mod_below x (2 ^ (W - 1)) (pow_pos (W - 1)) in
    rw f (bit_test (2 ^ (W - 1)) (x / 2 ^ (W - 1) % 2) (x % 2 ^ (W - 1)) (omega arith) low)

once_more : (T L Q H : ℕ) → T * L / Q / H ≡ T * (L * 2) / (Q * (H * 2))
once_more T L Q H = rw (div-div-eq-div-mul (T * L) Q H, ← mul_assoc T L 2, ← mul_assoc Q H 2, mul-div-mul_right (T * L) (Q * H) (pow_pos 1)) refl

-- the last bit that goes out to the left is the top bit of a shift by one less
pub left_out : (W a b k : ℕ) → 0 < W → 0 < k → top W (double_result W true a b (k - 1)) ≡ double_carry W true a b k
left_out W a b k W_in k_in =
    let e : 2 ^ k ≡ 2 ^ (k - 1) * 2 = subst (λ (n : ℕ). 2 ^ n ≡ 2 ^ (k - 1) * 2) (omega arith) (pow-add 2 (k - 1) 1) in
    let f : 2 ^ W ≡ 2 ^ (W - 1) * 2 = subst (λ (n : ℕ). 2 ^ n ≡ 2 ^ (W - 1) * 2) (omega arith) (pow-add 2 (W - 1) 1) in
    let x : three_words W a b * 2 ^ (k - 1) / (2 ^ W * 2 ^ W) / 2 ^ (W - 1) ≡ three_words W a b * 2 ^ k / (2 ^ W * 2 ^ W * 2 ^ W) =
    once_more (three_words W a b) (2 ^ (k - 1)) (2 ^ W * 2 ^ W) (2 ^ (W - 1))
    ∙ ap (λ (y : ℕ). three_words W a b * y / (2 ^ W * 2 ^ W * (2 ^ (W - 1) * 2))) (sym e)
    ∙ ap (λ (y : ℕ). three_words W a b * 2 ^ k / (2 ^ W * 2 ^ W * y)) (sym f)
    in
    rw (top_is W (three_words W a b * 2 ^ (k - 1) / (2 ^ W * 2 ^ W)) W_in, x) refl
