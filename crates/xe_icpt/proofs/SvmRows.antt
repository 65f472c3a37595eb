use Rattle.std.proofs.Common.{ℕ, ◌≡◌, ◌+◌, ◌++◌, ◌==◌, codes, refl, sym, subst, inl, inr, true}
use Rattle.std.proofs.lemmas.Bool.{or_cases, eqb-true}
use Rattle.bitflags.specs.Sets.{find_row}
use Rattle.xe_icpt.specs.Points.{IsControl}
use Rattle.xe_icpt.specs.SvmNames.{svm_bit, svm_code}
use Rattle.std.proofs.Common.{false, Some, None, bit_and}
use Rattle.std.specs.Option.{option_map}
use Rattle.xe_icpt.specs.declared.point.Point.{Point}
use Rattle.xe_icpt.specs.SvmSet.{digit, Svm, has_name, svm_name, svm_asks, svm_exit, svm_hit}

-- what holds of each control register's number
pub each-control : (P : ℕ → Type 0) (n : ℕ) → IsControl n → P 0 → P 2 → P 3 → P 4 → P 8 → P n
each-control P n h p0 p2 p3 p4 p8 = elim (or_cases _ _ h) [
  | inl h4 ↦ elim (or_cases _ _ h4) [
    | inl h3 ↦ elim (or_cases _ _ h3) [
      | inl h2 ↦ elim (or_cases _ _ h2) [
        | inl e ↦ subst P (sym (eqb-true n 0 e)) p0
        | inr e ↦ subst P (sym (eqb-true n 2 e)) p2
      ]
      | inr e ↦ subst P (sym (eqb-true n 3 e)) p3
    ]
    | inr e ↦ subst P (sym (eqb-true n 4 e)) p4
  ]
  | inr e ↦ subst P (sym (eqb-true n 8 e)) p8
]

pub code-read : (n : ℕ) → IsControl n → svm_code (codes "read_cr" ++ digit n) ≡ Some n
unfolding svm_code find_row
code-read n h = each-control (λ n. svm_code (codes "read_cr" ++ digit n) ≡ Some n) n h refl refl refl refl refl

pub code-write : (n : ℕ) → IsControl n → svm_code (codes "write_cr" ++ digit n) ≡ Some (16 + n)
unfolding svm_code find_row
code-write n h = each-control (λ n. svm_code (codes "write_cr" ++ digit n) ≡ Some (16 + n)) n h refl refl refl refl refl

-- there is no control register but these five
pub no-other : (n : ℕ) → IsControl n → (n ≡ 0 → ⊥) → (n ≡ 2 → ⊥) → (n ≡ 3 → ⊥) → (n ≡ 4 → ⊥) → (n ≡ 8 → ⊥) → ⊥
no-other n h a b c d e = each-control (λ n. (n ≡ 0 → ⊥) → (n ≡ 2 → ⊥) → (n ≡ 3 → ⊥) → (n ≡ 4 → ⊥) → (n ≡ 8 → ⊥) → ⊥) n h (λ a b c d e. a refl) (λ a b c d e. b refl) (λ a b c d e. c refl) (λ a b c d e. d refl) (λ a b c d e. e refl) a b c d e

-- The exit of a set at a point, by its three cases.

pub hit-unnamed : (set : Svm) (p : Point) → has_name set (svm_bit (svm_name p)) ≡ false → svm_hit set p ≡ None
unfolding svm_hit
hit-unnamed set p h = rw h refl

pub hit-unasked : (set : Svm) (p : Point) → has_name set (svm_bit (svm_name p)) ≡ true → svm_asks set p ≡ false → svm_hit set p ≡ None
unfolding svm_hit
hit-unasked set p h a = rw (h, a) refl

pub hit-taken : (set : Svm) (p : Point) → has_name set (svm_bit (svm_name p)) ≡ true → svm_asks set p ≡ true → svm_hit set p ≡ option_map (svm_exit p) (svm_code (svm_name p))
unfolding svm_hit
hit-taken set p h a = rw (h, a) refl

-- the test of a name, by its bits
pub name-test : (set : Svm) (p : Point) (names bits : ℕ) → names ≡ set.names → svm_bit (svm_name p) ≡ Some bits → has_name set (svm_bit (svm_name p)) ≡ (bit_and names bits == bits)
name-test set p names bits a b = rw (a, b) refl
