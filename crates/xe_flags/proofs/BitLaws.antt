use Rattle.std.proofs.Common.{◌==◌, ◌≡◌, ℕ, Bool, true, false, ◌+◌, ◌-◌, ◌*◌, ◌/◌, ◌%◌, ◌^◌, ◌<◌, ◌≤◌, refl, sym, subst, arith, ap, ◌∙◌, bit_and}
use Rattle.std.proofs.Math.Nat.{add-mul, mul_comm}
use Rattle.std.proofs.lemmas.Nat.{pow-add, pow_pos, shr_below, shr_split, mod_below, mul-add-lt, shl_whole}
use Rattle.std.proofs.lemmas.Nat.Bits.{shr_and_one}
use Rattle.std.specs.Int.{from_bool}
use Rattle.std.proofs.lemmas.Bool.Decides.{nat_tests}
use Rattle.xe_base.specs.Words.{IsWidth}
use Rattle.xe_base.proofs.WidthLaws.{sizes}
use Rattle.xe_flags.specs.Status.{flag}
use Rattle.xe_flags.specs.Bits.{with_bit}

from_bool-le : (b : Bool) → from_bool b ≤ 1
from_bool-le true = omega arith
from_bool-le false = omega arith

-- a bit of a number, as a number
pub own_bit : (n : ℕ) → n ≤ 1 → from_bool (n == 1) ≡ n
own_bit n h = grind (arith, nat_tests)

-- h above the place, then the bit, then r below it
put_lt : (d P h y r : ℕ) → h < 2 ^ d → y ≤ 1 → r < P → (h * 2 + y) * P + r < 2 ^ d * 2 * P
put_lt d P h y r h_in y_in r_in = rw (mul_comm (2 ^ d * 2) P) (mul-add-lt (h * 2 + y) P r (2 ^ d * 2) (omega arith) r_in)

put_is : (P h x y r : ℕ) → (h * 2 + x) * P + r - x * P + y * P ≡ (h * 2 + y) * P + r
put_is P h x y r = rw (add-mul (h * 2) x P, add-mul (h * 2) y P) (omega arith)

module _ (d k a y : ℕ) (a_in : a < 2 ^ (d + 1 + k)) (y_in : y ≤ 1) where
  half_in : a / 2 ^ k / 2 < 2 ^ d
  half_in = let q = shr_below a (d + 1) k a_in in let two : 2 ^ (d + 1) ≡ 2 ^ d * 2 = pow-add 2 d 1 in omega arith

  parts : a ≡ (a / 2 ^ k / 2 * 2 + a / 2 ^ k % 2) * 2 ^ k + a % 2 ^ k
  parts = let e : a / 2 ^ k / 2 * 2 + a / 2 ^ k % 2 ≡ a / 2 ^ k = omega arith in rw e (sym (shr_split a k))

  put : a - a / 2 ^ k % 2 * 2 ^ k + y * 2 ^ k ≡ (a / 2 ^ k / 2 * 2 + y) * 2 ^ k + a % 2 ^ k
  put = ap (λ (n : ℕ). n - a / 2 ^ k % 2 * 2 ^ k + y * 2 ^ k) parts ∙ put_is (2 ^ k) (a / 2 ^ k / 2) (a / 2 ^ k % 2) y (a % 2 ^ k)

  put_in : a - a / 2 ^ k % 2 * 2 ^ k + y * 2 ^ k < 2 ^ (d + 1 + k)
  put_in =
      let low = mod_below a (2 ^ k) (pow_pos k) in
      let e = put_lt d (2 ^ k) (a / 2 ^ k / 2) y (a % 2 ^ k) half_in y_in low in
      let two : 2 ^ (d + 1) ≡ 2 ^ d * 2 = pow-add 2 d 1 in
      let whole : 2 ^ (d + 1 + k) ≡ 2 ^ (d + 1) * 2 ^ k = pow-add 2 (d + 1) k in
      rw (put, whole, two) e

-- at a width
pub with_bit_lt : (W a k : ℕ) (b : Bool) → a < 2 ^ W → k < W → with_bit a k b < 2 ^ W
with_bit_lt W a k b a_in k_in =
    let e : W ≡ W - k - 1 + 1 + k = omega arith in
    let below : a < 2 ^ (W - k - 1 + 1 + k) = subst (λ (n : ℕ). a < 2 ^ n) e a_in in
    let own : from_bool (flag a k) ≡ a / 2 ^ k % 2 = own_bit (a / 2 ^ k % 2) (omega arith) in
    let put = put_in (W - k - 1) k a (from_bool b) below (from_bool-le b) in
    rw own (subst (λ (n : ℕ). a - a / 2 ^ k % 2 * 2 ^ k + from_bool b * 2 ^ k < 2 ^ n) (sym e) put)

-- what the code computes in 64 bits
pub with_bit_is : (W a k : ℕ) (b : Bool) → IsWidth W → k < W → a - bit_and (a / 2 ^ k) 1 * 2 ^ k % 2 ^ 64 + from_bool b * 2 ^ k % 2 ^ 64 ≡ with_bit a k b
with_bit_is W a k b width k_in =
    let s = sizes W width in
    let own : bit_and (a / 2 ^ k) 1 ≡ from_bool (flag a k) = shr_and_one a k ∙ sym (own_bit (a / 2 ^ k % 2) (omega arith)) in
    let two : 2 ^ 1 ≡ 2 = refl in
    let e : from_bool (flag a k) * 2 ^ k % 2 ^ 64 ≡ from_bool (flag a k) * 2 ^ k = shl_whole (from_bool (flag a k)) 1 k 64 (omega (arith, from_bool-le (flag a k))) (omega arith) in
    let f : from_bool b * 2 ^ k % 2 ^ 64 ≡ from_bool b * 2 ^ k = shl_whole (from_bool b) 1 k 64 (omega (arith, from_bool-le b)) (omega arith) in
    rw (own, e, f) refl
