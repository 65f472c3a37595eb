use Rattle.std.proofs.Common.{ℕ, zero, suc, ◌≡◌, ◌<◌, ◌==◌, ◌&&◌, List, [], ◌∷◌, Option, Some, None, refl, sym, ap, subst, ◌∙◌, arith, Bool, true, false, length, get_or, inl, inr}
use Rattle.std.proofs.lemmas.Bool.{cases_Bool, eqb-true}
use Rattle.xe_base.specs.Access.{IsWellFormed}
use Rattle.xe_base.specs.declared.access.Access.{Access}
use Rattle.xe_base.specs.declared.access.Made.{Made}
use Rattle.xe_base.specs.declared.access.Space.{Space}
use Rattle.xe_base.specs.declared.access.Space.TheVariants.{Mem, Port, Msr, Cpuid}
use Rattle.xe_ctx.specs.Kept.{expected_from, same_access}
use Rattle.xe_ctx.specs.Tape.{same_bool, space_number}

-- ---- the access that is expected at a place

pub expected-later : (k : Made) (ks : List Made) (asked : Option Access) (n : ℕ) → expected_from (k ∷ ks) asked (suc n) ≡ expected_from ks asked n
expected-later k ks asked n = refl

pub expected-at : (ks : List Made) (asked : Option Access) (n : ℕ) (d : Made) → n < length ks → expected_from ks asked n ≡ Some (get_or ks n d).access
expected-at [] asked n d h = absurd (omega arith)
expected-at (k ∷ ks) asked zero d h = refl
expected-at (k ∷ ks) asked (suc n) d h = expected-at ks asked n d (omega arith)

pub expected-kept : (ks : List Made) (asked : Option Access) (n : ℕ) (m : Made) → n < length ks → ((d : Made) → get_or ks n d ≡ m) → expected_from ks asked n ≡ Some m.access
expected-kept ks asked n m h at = expected-at ks asked n m h ∙ ap (λ (x : Made). Some x.access) (at m)

pub expected-asked : (ks : List Made) (asked : Option Access) → expected_from ks asked (length ks) ≡ asked
expected-asked [] asked = refl
expected-asked (k ∷ ks) asked = expected-asked ks asked

pub expected-none : (ks : List Made) (asked : Option Access) (n : ℕ) → length ks < n → expected_from ks asked n ≡ None
expected-none ks asked zero h = absurd (omega arith)
expected-none [] asked (suc n) h = refl
expected-none (k ∷ ks) asked (suc n) h = expected-none ks asked n (omega arith)

-- ---- the same access

same-space : (a b : Space) → (space_number a == space_number b) ≡ true → a ≡ b
same-space Mem Mem h = refl
same-space Mem Port h = cc
same-space Mem Msr h = cc
same-space Mem Cpuid h = cc
same-space Port Mem h = cc
same-space Port Port h = refl
same-space Port Msr h = cc
same-space Port Cpuid h = cc
same-space Msr Mem h = cc
same-space Msr Port h = cc
same-space Msr Msr h = refl
same-space Msr Cpuid h = cc
same-space Cpuid Mem h = cc
same-space Cpuid Port h = cc
same-space Cpuid Msr h = cc
same-space Cpuid Cpuid h = refl

same-bools : (a b : Bool) → same_bool a b ≡ true → a ≡ b
same-bools true true h = refl
same-bools true false h = cc
same-bools false true h = cc
same-bools false false h = refl

both : (a b : Bool) → a && b ≡ true → (a ≡ true) × (b ≡ true)
both true b h = (refl, h)
both false b h = cc

joined : (s t : Space) (w x : Bool) (p q n m u v : ℕ) → s ≡ t → w ≡ x → p ≡ q → n ≡ m → u ≡ v → ◌≡◌ {A = Access} (record { space = s; write = w; address = p; size = n; value = u }) (record { space = t; write = x; address = q; size = m; value = v })
joined s t w x p q n m u v a b c d e = rw (a, b, c, d, e) refl

pub same-is : (a b : Access) → same_access a b ≡ true → a ≡ b
same-is a b h =
    let p = both _ _ h in
    let q = both _ _ p.1 in
    let r = both _ _ q.1 in
    let s = both _ _ r.1 in
    joined a.space b.space a.write b.write a.address b.address a.size b.size a.value b.value (same-space a.space b.space p.0) (same-bools a.write b.write q.0) (eqb-true a.address b.address r.0) (eqb-true a.size b.size s.0) (eqb-true a.value b.value s.1)

pub apart : (a b : Access) → (a ≡ b → ⊥) → same_access a b ≡ false
apart a b h = elim (cases_Bool (same_access a b)) [
  | inl t ↦ absurd (h (same-is a b t))
  | inr f ↦ f
]

-- ---- the asked access of a record

some-same : (a b : Access) → Some a ≡ Some b → a ≡ b
some-same a b e = cc

pub asked-is : (x : Option Access) (a b : Access) → x ≡ Some a → x ≡ Some b → IsWellFormed a → IsWellFormed b
asked-is x a b e f h = let same : a ≡ b = some-same a b (sym e ∙ f) in subst IsWellFormed same h

pub asked-some : (x : Option Access) (a : Access) (P : Type 0) → x ≡ Some a → x ≡ None → P
asked-some x a P e f = let n : Some a ≡ None = sym e ∙ f in cc
