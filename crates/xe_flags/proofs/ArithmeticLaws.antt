use Rattle.std.proofs.Common.{◌≡◌, ℕ, Bool, true, false, not, ◌&&◌, ◌+◌, ◌/◌, ◌%◌, ◌^◌, ◌-◌, ◌<◌, ◌≤◌, ◌⊎◌, inl, inr, refl, arith, sym, ◌∙◌, ap, nat_lt}
use Rattle.std.specs.Prelude.{pos, ◌+ℤ◌, ◌-ℤ◌, neg_ℤ, int_le, int_lt, nat_le, nat_eq, if◌then◌else◌}
use Rattle.std.proofs.lemmas.Int.{ints}
use Rattle.std.proofs.lemmas.Nat.{div_below, le-div}
use Rattle.std.proofs.lemmas.Bool.Decides.{nat_tests}
use Rattle.std.proofs.lemmas.Bool.{cases_lt, lt-leb}
use Rattle.std.proofs.Math.Nat.{mod-eq_of_lt, mod-eq-sub-mod}
use mathlib.Core.Bool.{beq}
use Rattle.std.specs.Int.{from_bool}
use Rattle.xe_base.proofs.WidthLaws.{sizes}
use Rattle.std.proofs.lemmas.Int.{int_rem_euclid_is}
use Rattle.std.specs.Prelude.{unsigned_abs}
use Rattle.xe_base.specs.Words.{top, is_even_low, IsWidth}
use Rattle.xe_flags.specs.Arithmetic.{sum_word, difference_word, sum_status, difference_status}
use Rattle.xe_flags.specs.declared.status.Status.{Status}

pub same_status : (s t : Status) → s.carry ≡ t.carry → s.parity ≡ t.parity → s.adjust ≡ t.adjust → s.zero ≡ t.zero → s.sign ≡ t.sign → s.overflow ≡ t.overflow → s ≡ t
same_status s t a b c d e f = λ i. record { carry = a i; parity = b i; adjust = c i; zero = d i; sign = e i; overflow = f i }

pub from_bool-le : (b : Bool) → from_bool b ≤ 1
from_bool-le true = omega arith
from_bool-le false = omega arith

-- the quotient is not 0 exactly where the number is as large as the divisor
pub carry_test : (s m : ℕ) → 0 < m → not (nat_eq (s / m) 0) ≡ nat_le m s
carry_test s m above = elim (cases_lt s m) [
  | inl below ↦ let none : s / m ≡ 0 = omega (arith, div_below s m 1 above (omega arith)) in rw (none, lt-leb m s below) refl
  | inr over ↦ let some : 1 ≤ s / m = le-div 1 s m above (omega arith) in grind (arith, nat_tests)
]

-- a remainder, where the number is below twice the divisor
pub wraps_once : (s m : ℕ) → s < m + m → ((s < m) × (s % m ≡ s)) ⊎ ((m ≤ s) × (s % m + m ≡ s))
wraps_once s m twice = elim (cases_lt s m) [
  | inl below ↦ inl (below, mod-eq_of_lt below)
  | inr over ↦
      let less : s - m < m = omega arith in
      let rest : s % m ≡ s - m = mod-eq-sub-mod over ∙ mod-eq_of_lt less in
      inr (over, omega arith)
]

-- the sum leaves the range exactly where both have one sign and the result has the other
over_lem : (h m a b c r : ℕ) → m ≡ h + h → a < m → b < m → c ≤ 1 → r < m → (r ≡ a + b + c) ⊎ (r + m ≡ a + b + c) →
    beq (nat_le h a) (nat_le h b) && not (beq (nat_le h r) (nat_le h a))
    ≡ not (int_le (neg_ℤ (pos h)) ((if nat_lt a h then pos a else pos a -ℤ pos m) +ℤ (if nat_lt b h then pos b else pos b -ℤ pos m) +ℤ pos c) && int_lt ((if nat_lt a h then pos a else pos a -ℤ pos m) +ℤ (if nat_lt b h then pos b else pos b -ℤ pos m) +ℤ pos c) (pos h))
over_lem h m a b c r halves a_in b_in c_in r_in is = grind (arith, nat_tests, ints)

-- the difference likewise, where the two have different signs
under_lem : (h m a b c r : ℕ) → m ≡ h + h → a < m → b < m → c ≤ 1 → r < m → (r + (b + c) ≡ a) ⊎ (r + (b + c) ≡ a + m) →
    not (beq (nat_le h a) (nat_le h b)) && not (beq (nat_le h r) (nat_le h a))
    ≡ not (int_le (neg_ℤ (pos h)) ((if nat_lt a h then pos a else pos a -ℤ pos m) -ℤ (if nat_lt b h then pos b else pos b -ℤ pos m) -ℤ pos c) && int_lt ((if nat_lt a h then pos a else pos a -ℤ pos m) -ℤ (if nat_lt b h then pos b else pos b -ℤ pos m) -ℤ pos c) (pos h))
under_lem h m a b c r halves a_in b_in c_in r_in is = grind (arith, nat_tests, ints)

module _ (W a b c : ℕ) (width : IsWidth W) (a_in : a < 2 ^ W) (b_in : b < 2 ^ W) (c_in : c ≤ 1) where
  pub sum_is : (r : ℕ) → r ≡ sum_word W a b c →
      let status : Status = record { carry = not (nat_eq ((a + b + c) / 2 ^ W) 0); parity = is_even_low r; adjust = nat_lt 15 (a % 16 + b % 16 + c); zero = nat_eq r 0; sign = top W r; overflow = beq (top W a) (top W b) && not (beq (top W r) (top W a)) } in
      status ≡ sum_status W a b c
  unfolding sum_status
  sum_is r is =
      let s = sizes W width in
      let w : ((a + b + c < 2 ^ W) × ((a + b + c) % 2 ^ W ≡ a + b + c)) ⊎ ((2 ^ W ≤ a + b + c) × ((a + b + c) % 2 ^ W + 2 ^ W ≡ a + b + c)) = wraps_once (a + b + c) (2 ^ W) (omega arith) in
      let small : r < 2 ^ W = omega arith in
      let either : (r ≡ a + b + c) ⊎ (r + 2 ^ W ≡ a + b + c) = elim w [ inl l ↦ inl (is ∙ l.1) | inr l ↦ inr (omega arith) ] in
      let over = over_lem (2 ^ (W - 1)) (2 ^ W) a b c r s.halves a_in b_in c_in small either in
      same_status _ _ (carry_test (a + b + c) (2 ^ W) (omega arith)) (ap is_even_low is) refl (ap (λ (x : ℕ). nat_eq x 0) is) (ap (top W) is) over

  pub difference_is : (a + (2 ^ W) - (b + c)) % 2 ^ W ≡ difference_word W a b c
  difference_is =
      let s = sizes W width in
      ap unsigned_abs (sym (int_rem_euclid_is (pos a -ℤ pos b -ℤ pos c) (pos (2 ^ W)) (2 ^ W) 1 (a + 2 ^ W - (b + c)) (omega arith) refl (omega (arith, ints))))

  pub borrow_is : (r : ℕ) → r ≡ difference_word W a b c →
      let status : Status = record { carry = nat_eq ((a + 2 ^ W - (b + c)) / 2 ^ W) 0; parity = is_even_low r; adjust = nat_lt (a % 16) (b % 16 + c); zero = nat_eq r 0; sign = top W r; overflow = not (beq (top W a) (top W b)) && not (beq (top W r) (top W a)) } in
      status ≡ difference_status W a b c
  unfolding difference_status
  borrow_is r is =
      let s = sizes W width in
      let e : r ≡ (a + (2 ^ W) - (b + c)) % 2 ^ W = is ∙ sym difference_is in
      let w : ((a + 2 ^ W - (b + c) < 2 ^ W) × ((a + 2 ^ W - (b + c)) % 2 ^ W ≡ a + 2 ^ W - (b + c))) ⊎ ((2 ^ W ≤ a + 2 ^ W - (b + c)) × ((a + 2 ^ W - (b + c)) % 2 ^ W + 2 ^ W ≡ a + 2 ^ W - (b + c))) = wraps_once (a + 2 ^ W - (b + c)) (2 ^ W) (omega arith) in
      let small : r < 2 ^ W = omega arith in
      let either : (r + (b + c) ≡ a) ⊎ (r + (b + c) ≡ a + 2 ^ W) = elim w [ inl l ↦ inr (omega arith) | inr l ↦ inl (omega arith) ] in
      let under = under_lem (2 ^ (W - 1)) (2 ^ W) a b c r s.halves a_in b_in c_in small either in
      let t : not (nat_eq ((a + 2 ^ W - (b + c)) / 2 ^ W) 0) ≡ nat_le (2 ^ W) (a + 2 ^ W - (b + c)) = carry_test (a + 2 ^ W - (b + c)) (2 ^ W) (omega arith) in
      same_status _ _ (grind (arith, nat_tests)) (ap is_even_low is) refl (ap (λ (x : ℕ). nat_eq x 0) is) (ap (top W) is) under
