use Rattle.std.proofs.Common.{◌≡◌, ℕ, ◌+◌, ◌*◌, ◌%◌, ◌^◌, ◌-◌, ◌<◌, ◌≤◌, bit_and, refl, arith, subst, sym, inl, inr, lit≤}
use Rattle.std.proofs.lemmas.Bool.{or_cases, eqb-true}
use Rattle.std.proofs.lemmas.Nat.{and_mask, one_shl}
use Rattle.xe_base.specs.Words.{IsWidth}

-- W is one of the four
pub width_cases : (W : ℕ) (P : ℕ → Type 0) → IsWidth W → P 8 → P 16 → P 32 → P 64 → P W
width_cases W P h at8 at16 at32 at64 =
    elim (or_cases _ _ h) [
      | inl h ↦ elim (or_cases _ _ h) [
        | inl h ↦ elim (or_cases _ _ h) [
          | inl h ↦ subst P (sym (eqb-true W 8 h)) at8
          | inr h ↦ subst P (sym (eqb-true W 16 h)) at16
        ]
        | inr h ↦ subst P (sym (eqb-true W 32 h)) at32
      ]
      | inr h ↦ subst P (sym (eqb-true W 64 h)) at64
    ]

-- what the four have in common
pub record Sizes (W : ℕ) : Type 0 where
  pub least : 8 ≤ W
  pub most : W ≤ 64
  pub halves : 2 ^ W ≡ 2 ^ (W - 1) + 2 ^ (W - 1)
  pub byte : 256 ≤ 2 ^ W
  pub fits : 2 ^ W ≤ 2 ^ 64

pub sizes : (W : ℕ) → IsWidth W → Sizes W
sizes W h = width_cases W Sizes h
    (record { least = lit≤ tt; most = lit≤ tt; halves = refl; byte = lit≤ tt; fits = lit≤ tt })
    (record { least = lit≤ tt; most = lit≤ tt; halves = refl; byte = lit≤ tt; fits = lit≤ tt })
    (record { least = lit≤ tt; most = lit≤ tt; halves = refl; byte = lit≤ tt; fits = lit≤ tt })
    (record { least = lit≤ tt; most = lit≤ tt; halves = refl; byte = lit≤ tt; fits = lit≤ tt })

-- the mask of a word leaves the low bits
pub low_mask : (W v : ℕ) → IsWidth W → bit_and v (1 * 2 ^ W % 340282366920938463463374607431768211456 - 1) ≡ v % 2 ^ W
low_mask W v h =
    let small : W < 128 = omega (arith, sizes W h) in
    rw (one_shl W 128 small) (and_mask v W)

pub half_small : (W : ℕ) → IsWidth W → 2 ^ (W - 1) ≤ 2 ^ 63
half_small W h = let s = sizes W h in omega (arith, s.halves, s.fits)
