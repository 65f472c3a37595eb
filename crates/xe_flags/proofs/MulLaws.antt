use Rattle.std.proofs.Common.{◌≡◌, ℕ, ◌+◌, ◌*◌, ◌^◌, ◌-◌, ◌<◌, ◌≤◌, refl, arith, lit<, FitsSigned, ◌∙◌}
use Rattle.std.specs.Prelude.{ℤ, pos, ◌*ℤ◌, unsigned_abs}
use Rattle.std.specs.Int.{w128}
use Rattle.std.specs.Int.Signed.{shr_z, mag_shr}
use Rattle.std.proofs.lemmas.Int.{fits_signed_mul, fits_signed_from_abs}
use Rattle.std.specs.Prelude.{negsuc, int_div, int_rem, ◌-ℤ◌, if◌then◌else◌, nat_lt, nat_le, Bool, true, false, not, ◌/◌, ◌%◌}
use mathlib.Core.Bool.{beq}
use Rattle.std.proofs.lemmas.Int.{ints}
use Rattle.std.proofs.Common.{inl, inr, ap}
use Rattle.std.specs.Prelude.{Some, None, nat_eq}
use Rattle.std.proofs.lemmas.Bool.{cases_lt, lt-ltb, le-ltb, lt-leb, le-leb}
use Rattle.std.proofs.lemmas.Nat.{mul-add-lt, mul-le}
use Rattle.xe_flags.specs.Quotients.{with_sign, signed_divided}
use Rattle.xe_base.specs.Words.{IsWidth, signed, top, fits_signed, wrapped}
use Rattle.xe_base.proofs.WidthLaws.{sizes, half_small, width_cases}

-- the product of two signed words has room in 128 bits
pub product_fits : (W : ℕ) (a b : ℤ) → IsWidth W → unsigned_abs a ≤ 2 ^ (W - 1) → unsigned_abs b ≤ 2 ^ (W - 1) → FitsSigned w128 (a *ℤ b)
product_fits W a b width x y =
    let small = half_small W width in
    fits_signed_mul w128 a b (2 ^ 63) (2 ^ 63) (omega arith) (omega arith) (lit< tt)

-- so has each of them
pub word_fits : (W : ℕ) (a : ℤ) → IsWidth W → unsigned_abs a ≤ 2 ^ (W - 1) → FitsSigned w128 a
word_fits W a width x =
    let small = half_small W width in
    let below : 2 ^ 63 < 2 ^ 127 = lit< tt in
    fits_signed_from_abs w128 a (omega arith)

-- and what is left of one after a shift
pub shift_fits : (z : ℤ) (d : ℕ) → FitsSigned w128 z → FitsSigned w128 (shr_z z d)
shift_fits z d f = record { sfits = omega (arith, f.sfits, mag_shr z d) }

-- ---- signed division by magnitudes
below_zero : ℤ → Bool
below_zero (pos n) = false
below_zero (negsuc n) = true

quotient_is : (n d : ℤ) → int_div n d ≡ with_sign (not (beq (below_zero n) (below_zero d))) (unsigned_abs n / unsigned_abs d)
unfolding below_zero
quotient_is (pos a) (pos b) = refl
quotient_is (pos a) (negsuc b) = refl
quotient_is (negsuc a) (pos b) = refl
quotient_is (negsuc a) (negsuc b) = refl

rest_is : (n d : ℤ) → int_rem n d ≡ with_sign (below_zero n) (unsigned_abs n % unsigned_abs d)
unfolding below_zero
rest_is (pos a) d = refl
rest_is (negsuc a) d = refl

minus_is : (x m : ℕ) → x < m → pos x -ℤ pos m ≡ negsuc (m - 1 - x)
minus_is x m h = omega (arith, ints)

sign_is : (h m x : ℕ) → m ≡ h + h → x < m → below_zero (if nat_lt x h then pos x else pos x -ℤ pos m) ≡ nat_le h x
unfolding below_zero
sign_is h m x halves x_in = elim (cases_lt x h) [
  | inl low ↦ rw (lt-ltb x h low, lt-leb h x low) refl
  | inr high ↦ rw (le-ltb x h high, minus_is x m x_in, le-leb h x high) refl
]

-- the top bit of two words is that of the high one
wide_top : (h m a l : ℕ) → a < m → l < m → nat_le (h * m) (a * m + l) ≡ nat_le h a
wide_top h m a l a_in l_in = elim (cases_lt a h) [
  | inl low ↦ let below : a * m + l < m * h = mul-add-lt a m l h low l_in in rw (lt-leb (h * m) (a * m + l) (omega arith), lt-leb h a low) refl
  | inr high ↦ let above = mul-le h m a m high (omega arith) in rw (le-leb (h * m) (a * m + l) (omega arith), le-leb h a high) refl
]

pub record Doubles (W : ℕ) : Type 0 where
  pub half : 2 ^ (W + W - 1) ≡ 2 ^ (W - 1) * 2 ^ W
  pub whole : 2 ^ (W + W) ≡ 2 ^ (W + W - 1) + 2 ^ (W + W - 1)
  pub square : 2 ^ (W + W) ≡ 2 ^ W * 2 ^ W

doubles : (W : ℕ) → IsWidth W → Doubles W
doubles W h = width_cases W Doubles h (record { half = refl; whole = refl; square = refl }) (record { half = refl; whole = refl; square = refl }) (record { half = refl; whole = refl; square = refl }) (record { half = refl; whole = refl; square = refl })

module _ (W high low by : ℕ) (width : IsWidth W) (high_in : high < 2 ^ W) (low_in : low < 2 ^ W) (by_in : by < 2 ^ W) where
  wide_sign : below_zero (signed (W + W) (high * 2 ^ W + low)) ≡ top W high
  wide_sign =
      let d = doubles W width in
      let below : high * 2 ^ W + low < 2 ^ W * 2 ^ W = mul-add-lt high (2 ^ W) low (2 ^ W) high_in low_in in
      sign_is (2 ^ (W + W - 1)) (2 ^ (W + W)) (high * 2 ^ W + low) d.whole (omega (arith, d.square)) ∙ ap (λ (x : ℕ). nat_le x (high * 2 ^ W + low)) d.half ∙ wide_top (2 ^ (W - 1)) (2 ^ W) high low high_in low_in

  by_sign : below_zero (signed W by) ≡ top W by
  by_sign = let s = sizes W width in sign_is (2 ^ (W - 1)) (2 ^ W) by s.halves by_in

  pub divided_is : int_div (signed (W + W) (high * 2 ^ W + low)) (signed W by) ≡ with_sign (not (beq (top W high) (top W by))) (unsigned_abs (signed (W + W) (high * 2 ^ W + low)) / unsigned_abs (signed W by))
  divided_is = quotient_is (signed (W + W) (high * 2 ^ W + low)) (signed W by) ∙ rw (wide_sign, by_sign) refl

  pub left_is : int_rem (signed (W + W) (high * 2 ^ W + low)) (signed W by) ≡ with_sign (top W high) (unsigned_abs (signed (W + W) (high * 2 ^ W + low)) % unsigned_abs (signed W by))
  left_is = rest_is (signed (W + W) (high * 2 ^ W + low)) (signed W by) ∙ rw wide_sign refl

-- the three exits
pub exit_zero : (W high low by : ℕ) → nat_eq by 0 ≡ true → None ≡ signed_divided W high low by
unfolding signed_divided
exit_zero W high low by e = rw e refl

pub exit_none : (W high low by : ℕ) (q : ℤ) → nat_eq by 0 ≡ false → int_div (signed (W + W) (high * 2 ^ W + low)) (signed W by) ≡ q → fits_signed W q ≡ false → None ≡ signed_divided W high low by
unfolding signed_divided
exit_none W high low by q e is out = rw (e, is, out) refl

pub exit_some : (W high low by : ℕ) (q r : ℤ) → nat_eq by 0 ≡ false → int_div (signed (W + W) (high * 2 ^ W + low)) (signed W by) ≡ q → int_rem (signed (W + W) (high * 2 ^ W + low)) (signed W by) ≡ r → fits_signed W q ≡ true → Some (wrapped W q, wrapped W r) ≡ signed_divided W high low by
unfolding signed_divided
exit_some W high low by q r e is left fits = rw (e, is, left, fits) refl
