use Rattle.std.proofs.Common.{◌≡◌, ℕ, suc, ◌*◌, ◌/◌, ◌%◌, ◌^◌, ◌<◌, ◌≤◌, refl, sym, subst, arith, inl, inr}
use Rattle.std.proofs.Math.Nat.{mod-eq_of_lt, pow-suc}
use Rattle.std.proofs.lemmas.Nat.{trailing_le, leading_top, le-div, div_below, pow_pos}
use Rattle.std.proofs.lemmas.Nat.Bits.{bit_at-trailing_zeros, bit_at_above}
use Rattle.std.proofs.lemmas.Bool.{ne_eqb, cases_eq}
use Rattle.std.specs.Int.{w64}
use Rattle.std.specs.Prelude.{Option, Some, None, IfSome, nat_eq, false, ◌↔◌}
use Rattle.xe_base.specs.Words.{IsWidth}
use Rattle.xe_base.proofs.WidthLaws.{sizes}
use Rattle.xe_flags.specs.Scans.{scan_found, lowest_one, highest_one, IsLowestOne, IsHighestOne}
use Rattle.xe_flags.specs.declared.scans.ScanOp.{ScanOp}
use Rattle.xe_flags.specs.declared.scans.ScanOp.TheVariants.{Forward, Backward, Count}

pub none_forward : (a : ℕ) → a ≡ 0 → None ≡ scan_found Forward a
unfolding scan_found
none_forward a e = rw e refl

pub none_backward : (a : ℕ) → a ≡ 0 → None ≡ scan_found Backward a
unfolding scan_found
none_backward a e = rw e refl

-- a place within 64 bits has a word at each width
place_is : (W n : ℕ) → IsWidth W → n ≤ 64 → n % 2 ^ W ≡ n
place_is W n width n_in = let s = sizes W width in mod-eq_of_lt (omega (arith, s.byte))

pub some_forward : (W a n : ℕ) → IsWidth W → nat_eq a 0 ≡ false → n ≡ lowest_one a % 2 ^ W → Some n ≡ scan_found Forward a
unfolding scan_found
some_forward W a n width e is = rw (e, is, place_is W (lowest_one a) width (trailing_le 64 a)) refl

pub some_backward : (W a n : ℕ) → IsWidth W → nat_eq a 0 ≡ false → n ≡ highest_one a % 2 ^ W → Some n ≡ scan_found Backward a
unfolding scan_found
some_backward W a n width e is = rw (e, is, place_is W (highest_one a) width (omega arith)) refl

lowest_is : (a : ℕ) → 0 < a → a < 2 ^ 64 → IsLowestOne a (lowest_one a)
lowest_is a pos a_in = let t = bit_at-trailing_zeros w64 a pos a_in in record { set = t.1; none_below = t.2 }

highest_is : (a : ℕ) → 0 < a → a < 2 ^ 64 → IsHighestOne a (highest_one a)
highest_is a pos a_in =
    let t = leading_top 64 a pos a_in in
    let e : highest_one a ≡ t.0 = omega (arith, t.1) in
    let two : 2 ^ suc t.0 ≡ 2 ^ t.0 * 2 = pow-suc 2 t.0 in
    let low : 1 ≤ a / 2 ^ t.0 = le-div 1 a (2 ^ t.0) (pow_pos t.0) (omega (arith, t.2)) in
    let high : a / 2 ^ t.0 < 2 = div_below a (2 ^ t.0) 2 (pow_pos t.0) (omega (arith, t.3)) in
    subst (IsHighestOne a) (sym e) (record { set = omega arith; none_above = λ i above. bit_at_above a (suc t.0) i t.3 (omega arith) })

some_none : (n : ℕ) → Some n ≡ None → ⊥
some_none n h = cc

-- what the definition finds, in the subject's words
pub found_none : (op : ScanOp) (a : ℕ) (o : Option ℕ) → o ≡ scan_found op a → (o ≡ None) ↔ ((a ≡ 0) × ((op ≡ Count) → ⊥))
unfolding scan_found
found_none Forward a o is = rw is (elim (cases_eq a 0) [
  | inl e ↦ ((λ h. (e, λ q. cc)), (λ h. rw e refl))
  | inr n ↦ ((λ h. let x : ⊥ = some_none _ (rw (ne_eqb a 0 n) at h) in absurd x), (λ h. absurd (n h.0)))
])
found_none Backward a o is = rw is (elim (cases_eq a 0) [
  | inl e ↦ ((λ h. (e, λ q. cc)), (λ h. rw e refl))
  | inr n ↦ ((λ h. let x : ⊥ = some_none _ (rw (ne_eqb a 0 n) at h) in absurd x), (λ h. absurd (n h.0)))
])
found_none Count a o is = rw is ((λ h. let x : ⊥ = some_none _ h in absurd x), (λ h. absurd (h.1 refl)))

pub found_lowest : (a : ℕ) (o : Option ℕ) → a < 2 ^ 64 → o ≡ scan_found Forward a → IfSome o (λ n. IsLowestOne a n)
unfolding scan_found
found_lowest a o a_in is = rw is (elim (cases_eq a 0) [
  | inl e ↦ rw e tt
  | inr n ↦ rw (ne_eqb a 0 n) (lowest_is a (omega arith) a_in)
])

pub found_highest : (a : ℕ) (o : Option ℕ) → a < 2 ^ 64 → o ≡ scan_found Backward a → IfSome o (λ n. IsHighestOne a n)
unfolding scan_found
found_highest a o a_in is = rw is (elim (cases_eq a 0) [
  | inl e ↦ rw e tt
  | inr n ↦ rw (ne_eqb a 0 n) (highest_is a (omega arith) a_in)
])
