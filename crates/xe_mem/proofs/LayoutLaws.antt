use Rattle.std.proofs.Common.{ℕ, zero, suc, ◌≡◌, ◌<◌, ◌≤◌, ◌+◌, ◌-◌, ◌^◌, List, [], ◌∷◌, ◌++◌, length, take, get_or, refl, ap, ◌∙◌, arith, Bool, true, false, ◌&&◌, nat_le, ◌%◌, inl, inr, ◌⊎◌}
use Rattle.std.proofs.lemmas.Bool.{cases_lt, cases_Bool, cases_order}
use Rattle.std.proofs.lemmas.Bool.Decides.{nat_tests}
use Rattle.std.specs.Prelude.{IsTrue}
use Rattle.std.proofs.lemmas.Bool.{both_ways, and_parts, and_from, leb-true, eqb-true, eq-eqb, le-leb, ltb-true}
use Rattle.std.proofs.lemmas.List.{length-set, take-take}
use Rattle.std.proofs.lemmas.List.Sums.{sum_by-cons}
use Rattle.xe_base.specs.Ram.{Area, holds, in_ram, put_byte, put_bytes, AreRam, ordered}
use Rattle.xe_base.proofs.Ram.{holds-at}
use Rattle.xe_mem.specs.declared.region.Region.{Region}
use Rattle.xe_mem.specs.Layout.{covers, fits_after, follow, total, region_of, regions_of, end_behind, IsGap, IsLayout, IsFirstBad, IsTooLarge}

-- what it means that a region fits behind a place
pub record Fits (low : ℕ) (r : Region) : Type 0 where
  pub start : r.start % 4096 ≡ 0
  pub len : r.len % 4096 ≡ 0
  pub some : 0 < r.len
  pub below : r.start + r.len ≤ 2 ^ 40
  pub after : low ≤ r.start

pub fits-parts : (low : ℕ) (r : Region) → fits_after low r ≡ true → Fits low r
unfolding fits_after
fits-parts low r h =
    let a = and_parts _ _ h in
    let b = and_parts _ _ a.1 in
    let c = and_parts _ _ b.1 in
    let d = and_parts _ _ c.1 in
    record { start = eqb-true _ _ a.0; len = eqb-true _ _ b.0; some = ltb-true _ _ c.0; below = leb-true _ _ d.0; after = leb-true _ _ d.1 }

pub follow-parts : (low : ℕ) (r : Region) (rs : List Region) → follow low (r ∷ rs) ≡ true → (fits_after low r ≡ true) × (follow (r.start + r.len) rs ≡ true)
unfolding follow
follow-parts low r rs h = and_parts _ _ h

pub holds-region : (r : Area) (a : ℕ) → covers (region_of r) a ≡ holds r a
unfolding covers holds
holds-region r a = refl

pub regions-cons : (r : Area) (rs : List Area) → regions_of (r ∷ rs) ≡ region_of r ∷ regions_of rs
unfolding regions_of
regions-cons r rs = refl

-- a written byte leaves each region where it was
pub regions-put : (ram : List Area) (a b : ℕ) → regions_of (put_byte ram a b) ≡ regions_of ram
unfolding regions_of put_byte
regions-put [] a b = refl
regions-put (r ∷ rs) a b = elim (cases_Bool (holds r a)) [
  | inl t ↦ rw (t, length-set r.bytes (a - r.start) b) refl
  | inr f ↦ rw f (ap (λ xs. region_of r ∷ xs) (regions-put rs a b))
]

pub regions-puts : (ram : List Area) (pa : ℕ) (bs : List ℕ) → regions_of (put_bytes ram pa bs) ≡ regions_of ram
unfolding put_bytes
regions-puts ram pa [] = refl
regions-puts ram pa (b ∷ bs) = regions-puts (put_byte ram pa b) (pa + 1) bs ∙ regions-put ram pa b

-- what a RAM's first area knows of the rest
pub record First (low : ℕ) (r : Area) (rs : List Area) : Type 0 where
  pub fits : Fits low (region_of r)
  pub rest : follow (r.start + length r.bytes) (regions_of rs) ≡ true

pub first-parts : (low : ℕ) (r : Area) (rs : List Area) → follow low (regions_of (r ∷ rs)) ≡ true → First low r rs
first-parts low r rs h =
    let p = follow-parts low (region_of r) (regions_of rs) (rw regions-cons at h) in
    record { fits = fits-parts low (region_of r) p.0; rest = p.1 }

-- all RAM lies at or above the place from which the regions follow
pub above : (ram : List Area) (low a : ℕ) → follow low (regions_of ram) ≡ true → in_ram ram a ≡ true → low ≤ a
unfolding in_ram
above [] low a h i = cc
above (r ∷ rs) low a h i = let p = first-parts low r rs h in elim (cases_Bool (holds r a)) [
  | inl t ↦ let q = holds-at r a t in let l = p.fits.after in omega (arith, q.0)
  | inr f ↦ let l = p.fits.after in let s = p.fits.some in let m = above rs (r.start + length r.bytes) a p.rest (rw f at i) in omega arith
]

-- regions that follow one another are areas in order
pub ordered-regions : (ram : List Area) (low : ℕ) → follow low (regions_of ram) ≡ true → ordered low ram ≡ true
unfolding ordered
ordered-regions [] low h = refl
ordered-regions (r ∷ rs) low h =
    let p = first-parts low r rs h in
    and_from _ _ (le-leb _ _ p.fits.after) (and_from _ _ (eq-eqb _ _ p.fits.start) (and_from _ _ (eq-eqb _ _ p.fits.len) (ordered-regions rs _ p.rest)))

pub past : (r : Area) (a : ℕ) → r.start + length r.bytes ≤ a → holds r a ≡ false
unfolding holds
past r a h = grind (arith, nat_tests)

pub short-of : (r : Area) (a : ℕ) → a < r.start → holds r a ≡ false
unfolding holds
short-of r a h = grind (arith, nat_tests)

pub not-held : (r : Area) (a : ℕ) → holds r a ≡ false → (a < r.start) ⊎ (r.start + length r.bytes ≤ a)
unfolding holds
not-held r a h = grind (arith, nat_tests)

pub held : (r : Area) (a : ℕ) → r.start ≤ a → a < r.start + length r.bytes → holds r a ≡ true
unfolding holds
held r a h l = grind (arith, nat_tests)

pub covers-at : (r : Region) (a : ℕ) → covers r a ≡ true → (r.start ≤ a) × (a < r.start + r.len)
unfolding covers
covers-at r a h = (grind (arith, nat_tests), grind (arith, nat_tests))

-- each region that follows others ends below 2^40
pub follow-each : (rs : List Region) (low i : ℕ) (d : Region) → follow low rs ≡ true → i < length rs → (get_or rs i d).start + (get_or rs i d).len ≤ 2 ^ 40
follow-each [] low i d h l = absurd (omega arith)
follow-each (r ∷ rs) low zero d h l = (fits-parts low r (follow-parts low r rs h).0).below
follow-each (r ∷ rs) low (suc i) d h l = follow-each rs (r.start + r.len) i d (follow-parts low r rs h).1 (omega arith)

-- all bytes before the first gap are RAM
pub ram-below : (ram : List Area) (pa gap : ℕ) → IsGap ram pa gap → (n : ℕ) → pa + n ≤ gap → AreRam ram pa n
ram-below ram pa gap g n h = record { each = λ k m. g.before (pa + k) (omega arith) (omega arith) }

-- n bytes are RAM exactly where the first gap is at least n addresses on
pub is-ram : (ram : List Area) (pa gap n : ℕ) → IsGap ram pa gap → (IsTrue (nat_le n (gap - pa)) → AreRam ram pa n) × (AreRam ram pa n → IsTrue (nat_le n (gap - pa)))
is-ram ram pa gap n g =
    let l = g.reached in (
      λ t. let h : n ≤ gap - pa = leb-true _ _ t in ram-below ram pa gap g n (omega arith),
      λ are. elim (cases_lt (gap - pa) n) [
        | inl m ↦
            let e : pa + (gap - pa) ≡ gap = omega arith in
            let i : in_ram ram gap ≡ true = rw e at (are.each (gap - pa) m) in
            absurd (both_ways (in_ram ram gap) g.outside i)
        | inr m ↦ le-leb n (gap - pa) m
      ],
    )

and-true : (b : Bool) → b && true ≡ b
and-true true = refl
and-true false = refl

-- one more region
pub follow-push : (xs : List Region) (r : Region) (low : ℕ) → follow low xs ≡ true → follow low (xs ++ r ∷ []) ≡ fits_after (end_behind low xs) r
unfolding follow end_behind
follow-push [] r low h = and-true (fits_after low r)
follow-push (x ∷ xs) r low h = let p = follow-parts low x xs h in rw p.0 (follow-push xs r (x.start + x.len) p.1)

pub end-push : (xs : List Region) (r : Region) (low : ℕ) → end_behind low (xs ++ r ∷ []) ≡ r.start + r.len
unfolding end_behind
end-push [] r low = refl
end-push (x ∷ xs) r low = end-push xs r (x.start + x.len)

-- a front of regions that follow one another
pub follow-take : (xs : List Region) (low n : ℕ) → follow low xs ≡ true → follow low (take n xs) ≡ true
unfolding follow
follow-take xs low zero h = refl
follow-take [] low (suc n) h = refl
follow-take (x ∷ xs) low (suc n) h = let p = follow-parts low x xs h in and_from _ _ p.0 (follow-take xs (x.start + x.len) n p.1)

-- they have less than 2^40 bytes in all
pub total-follow : (xs : List Region) (low : ℕ) → follow low xs ≡ true → low ≤ 2 ^ 40 → low + total xs ≤ 2 ^ 40
unfolding total
total-follow [] low h l = omega arith
total-follow (x ∷ xs) low h l =
    let p = follow-parts low x xs h in
    let f = fits-parts low x p.0 in
    let b = f.below in
    let a = f.after in
    let r = total-follow xs (x.start + x.len) p.1 b in
    let e = sum_by-cons (λ (r : Region). r.len) x xs in
    omega arith

-- no two of the answers fit one list
pub bad-layout : (list : List Region) (i : ℕ) → IsFirstBad list i → IsLayout list → ⊥
bad-layout list i b l = both_ways _ b.here (follow-take list 0 (i + 1) l.follows)

pub large-layout : (list : List Region) → IsTooLarge list → IsLayout list → ⊥
large-layout list (inl m) l = let f = l.few in omega arith
large-layout list (inr m) l = let s = l.small in let t = m.2 in omega arith

pub large-bad : (list : List Region) (i : ℕ) → IsTooLarge list → IsFirstBad list i → ⊥
large-bad list i (inl m) b = let f = b.few in omega arith
large-bad list i (inr m) b = both_ways _ b.here (follow-take list 0 (i + 1) m.1)

first-not-below : (list : List Region) (i j : ℕ) → IsFirstBad list i → IsFirstBad list j → i < j → ⊥
first-not-below list i j a b l =
    let t = follow-take (take j list) 0 (i + 1) b.before in
    let e = take-take (i + 1) j list (omega arith) in
    both_ways _ a.here (rw e at t)

pub first-same : (list : List Region) (i j : ℕ) → IsFirstBad list i → IsFirstBad list j → i ≡ j
first-same list i j a b = elim (cases_order i j) [
  | inl e ↦ e
  | inr (inl l) ↦ absurd (first-not-below list i j a b l)
  | inr (inr l) ↦ absurd (first-not-below list j i b a l)
]

pub bad-follow : (list : List Region) (i : ℕ) → follow 0 list ≡ true → IsFirstBad list i → ⊥
bad-follow list i h b = both_ways _ b.here (follow-take list 0 (i + 1) h)
