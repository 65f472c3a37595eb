use Rattle.std.proofs.Common.{ℕ, ◌≡◌, ◌+◌, ◌-◌, ◌*◌, ◌%◌, ◌^◌, subst, sym, inl, inr, arith}
use Rattle.std.proofs.lemmas.Bool.{or_cases, eqb-true}
use Rattle.xe_opmap.specs.Encoding.{IsSize}

-- Numbers that were cut to 64 bits before they are cut to an operand's size.

pub by-size : (P : ℕ → Type 0) → P 2 → P 4 → P 8 → (n : ℕ) → IsSize n → P n
by-size P two four eight n h =
    elim (or_cases _ _ h) [
      | inl h ↦ elim (or_cases _ _ h) [
        | inl h ↦ subst P (sym (eqb-true n 2 h)) two
        | inr h ↦ subst P (sym (eqb-true n 4 h)) four
      ]
      | inr h ↦ subst P (sym (eqb-true n 8 h)) eight
    ]

sum-2 : (x : ℕ) → x % 2 ^ 64 % 2 ^ 16 ≡ x % 2 ^ 16
sum-2 x = omega arith

sum-4 : (x : ℕ) → x % 2 ^ 64 % 2 ^ 32 ≡ x % 2 ^ 32
sum-4 x = omega arith

sum-8 : (x : ℕ) → x % 2 ^ 64 % 2 ^ 64 ≡ x % 2 ^ 64
sum-8 x = omega arith

pub sum_cut : (n x : ℕ) → IsSize n → x % 2 ^ 64 % 2 ^ (8 * n) ≡ x % 2 ^ (8 * n)
sum_cut n x h = by-size (λ n. x % 2 ^ 64 % 2 ^ (8 * n) ≡ x % 2 ^ (8 * n)) (sum-2 x) (sum-4 x) (sum-8 x) n h

pub count_cut : (n x : ℕ) → IsSize n → (x + (2 ^ 64 - 1)) % 2 ^ 64 % 2 ^ (8 * n) ≡ (x + 2 ^ (8 * n) - 1) % 2 ^ (8 * n)
count_cut n x h = by-size (λ n. (x + (2 ^ 64 - 1)) % 2 ^ 64 % 2 ^ (8 * n) ≡ (x + 2 ^ (8 * n) - 1) % 2 ^ (8 * n)) (omega arith) (omega arith) (omega arith) n h
