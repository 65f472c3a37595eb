use Rattle.std.proofs.Common.{ℕ, zero, suc, ◌≡◌, ◌<◌, ◌≤◌, ◌+◌, ◌-◌, List, refl, arith, true, false, Some, None, inl, inr}
use Rattle.std.proofs.lemmas.Bool.{cases_Bool}
use Rattle.xe_base.specs.Ram.{Area, in_ram, AreRam}
use Rattle.xe_mem.specs.Layout.{IsGap}
use Rattle.xe_ctx.specs.Machine.{first_hole}
use Rattle.xe_ctx.proofs.Work.{first-and-rest}

-- the first address that isn't RAM, counted from the start
counted : (ram : List Area) (pa k n : ℕ) → ((i : ℕ) → i < k → in_ram ram (pa + i) ≡ true) → in_ram ram (pa + k) ≡ false → k < n → first_hole ram pa n ≡ Some (pa + k)
unfolding first_hole
counted ram pa k zero t f l = absurd (omega arith)
counted ram pa zero (suc n) t f l = let z : pa + 0 ≡ pa = omega arith in rw z (rw (rw z at f) refl)
counted ram pa (suc k) (suc n) t f l =
    let z : pa + 0 ≡ pa = omega arith in
    let e : pa + suc k ≡ pa + 1 + k = omega arith in
    let first : in_ram ram pa ≡ true = rw z at (t 0 (omega arith)) in
    rw (first, e) (counted ram (pa + 1) k n (λ i m. let s : pa + 1 + i ≡ pa + suc i = omega arith in rw s (t (suc i) (omega arith))) (rw e at f) (omega arith))

pub hole_at : (ram : List Area) (pa gap n : ℕ) → IsGap ram pa gap → gap - pa < n → first_hole ram pa n ≡ Some gap
hole_at ram pa gap n h l =
    let r = h.reached in
    let e : gap ≡ pa + (gap - pa) = omega arith in
    let o = rw e at h.outside in
    rw e (counted ram pa (gap - pa) n (λ i m. h.before (pa + i) (omega arith) (omega arith)) o l)

pub none-hole : (ram : List Area) (pa n : ℕ) → AreRam ram pa n → first_hole ram pa n ≡ None
unfolding first_hole
none-hole ram pa zero h = refl
none-hole ram pa (suc n) h =
    let z : pa + 0 ≡ pa = omega arith in
    let first : in_ram ram pa ≡ true = rw z at (h.each 0 (omega arith)) in
    rw first (none-hole ram (pa + 1) n (record { each = λ k l. let e : pa + 1 + k ≡ pa + suc k = omega arith in rw e (h.each (suc k) (omega arith)) }))

pub no_hole : (ram : List Area) (pa gap n : ℕ) → IsGap ram pa gap → n ≤ gap - pa → first_hole ram pa n ≡ None
no_hole ram pa gap n h l = none-hole ram pa n (record { each = λ k m. h.before (pa + k) (omega arith) (omega arith) })

record Some-hole (ram : List Area) (pa n : ℕ) : Type 0 where
  first : in_ram ram pa ≡ true
  rest : first_hole ram (pa + 1) n ≡ None

split-hole : (ram : List Area) (pa n : ℕ) → first_hole ram pa (suc n) ≡ None → Some-hole ram pa n
unfolding first_hole
split-hole ram pa n h = elim (cases_Bool (in_ram ram pa)) [
  | inl t ↦ record { first = t; rest = rw t at h }
  | inr f ↦ let g = rw f at h in cc
]

-- bytes without a hole are RAM
pub hole-are : (ram : List Area) (pa n : ℕ) → first_hole ram pa n ≡ None → AreRam ram pa n
hole-are ram pa zero h = record { each = λ k l. absurd (omega arith) }
hole-are ram pa (suc n) h = let b = split-hole ram pa n h in record { each = first-and-rest ram pa n b.first (hole-are ram (pa + 1) n b.rest) }

pub ruleset hole_rules = (hole_at, no_hole, hole-are)
