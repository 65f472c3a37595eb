use Rattle.std.proofs.Common.{ℕ, ◌≡◌, ◌<◌, ◌≤◌, ◌+◌, ◌-◌, ◌%◌, ◌^◌, ◌⊎◌, true, false, arith, sym, ◌∙◌, ap, inl, inr}
use Rattle.std.proofs.lemmas.Bool.Decides.{nat_tests}
use Rattle.xe_base.specs.Bits.{canonical}
use Rattle.xe_seg.specs.Each.{each}
use Rattle.xe_seg.proofs.EachLaws.{each_is}

-- the canonical addresses are the two ends of the numbers of 64 bits
pub ends : (x : ℕ) → canonical 48 x ≡ true → (x < 2 ^ 47) ⊎ (2 ^ 64 - 2 ^ 47 ≤ x)
ends x h = grind (arith, nat_tests)

pub low_end : (x : ℕ) → x < 2 ^ 47 → canonical 48 x ≡ true
low_end x h = grind (arith, nat_tests)

pub high_end : (x : ℕ) → 2 ^ 64 - 2 ^ 47 ≤ x → x < 2 ^ 64 → canonical 48 x ≡ true
high_end x l h = grind (arith, nat_tests)

-- ---- n bytes from la on

wrapped : (la k : ℕ) → la < 2 ^ 64 → k < 2 ^ 32 → ((la + k < 2 ^ 64) × ((la + k) % 2 ^ 64 ≡ la + k)) ⊎ ((2 ^ 64 ≤ la + k) × ((la + k) % 2 ^ 64 < 2 ^ 32))
wrapped la k a b = grind arith

begins_high : (la k : ℕ) → la < 2 ^ 64 → 2 ^ 64 - 2 ^ 47 ≤ la → k < 2 ^ 32 → canonical 48 ((la + k) % 2 ^ 64) ≡ true
begins_high la k f h s = elim (wrapped la k f s) [
  | inl w ↦ high_end ((la + k) % 2 ^ 64) (omega (arith, w.1)) (omega (arith, w.0, w.1))
  | inr w ↦ low_end ((la + k) % 2 ^ 64) (omega (arith, w.1))
]

begins_low : (la n k : ℕ) → la < 2 ^ 47 → n < 2 ^ 32 → k < n → canonical 48 ((la + (n - 1)) % 2 ^ 64) ≡ true → canonical 48 ((la + k) % 2 ^ 64) ≡ true
begins_low la n k f s kn last = elim (ends ((la + (n - 1)) % 2 ^ 64) last) [
  | inl l ↦ low_end ((la + k) % 2 ^ 64) (omega arith)
  | inr h ↦ absurd (omega arith)
]

between : (la n k : ℕ) → la < 2 ^ 64 → n < 2 ^ 32 → k < n → canonical 48 la ≡ true → canonical 48 ((la + (n - 1)) % 2 ^ 64) ≡ true → canonical 48 ((la + k) % 2 ^ 64) ≡ true
between la n k f s kn first last = elim (ends la first) [
  | inl l ↦ begins_low la n k l s kn last
  | inr h ↦ begins_high la k f h (omega arith)
]

at_first : (la : ℕ) → la < 2 ^ 64 → canonical 48 ((la + 0) % 2 ^ 64) ≡ true → canonical 48 la ≡ true
at_first la f h =
    let e : (la + 0) % 2 ^ 64 ≡ la = omega arith in
    ap (λ x. canonical 48 x) (sym e) ∙ h

-- where the first is canonical, the last decides
pub last_decides : (la n : ℕ) → la < 2 ^ 64 → 0 < n → n < 2 ^ 32 → canonical 48 la ≡ true →
    canonical 48 ((la + (n - 1)) % 2 ^ 64) ≡ each n (λ i. canonical 48 ((la + i) % 2 ^ 64))
last_decides la n f s m first = each_is (canonical 48 ((la + (n - 1)) % 2 ^ 64)) n (λ i. canonical 48 ((la + i) % 2 ^ 64))
    (λ last k kn. between la n k f m kn first last)
    (λ all. all (n - 1) (omega arith))

pub first_decides : (la n : ℕ) → la < 2 ^ 64 → 0 < n → canonical 48 la ≡ false → canonical 48 la ≡ each n (λ i. canonical 48 ((la + i) % 2 ^ 64))
first_decides la n f s miss = each_is (canonical 48 la) n (λ i. canonical 48 ((la + i) % 2 ^ 64))
    (λ t k kn. let e : false ≡ true = sym miss ∙ t in cc)
    (λ all. at_first la f (all 0 s))
