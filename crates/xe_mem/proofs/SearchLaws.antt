use Rattle.std.proofs.Common.{ℕ, zero, suc, ◌≡◌, ◌<◌, ◌≤◌, ◌+◌, ◌-◌, List, [], ◌∷◌, length, drop, take, get_or, slice_index, ◌++◌, length-drop, refl, sym, ap, ◌∙◌, arith, true, false, inl, inr, add_assoc, zero-add}
use Rattle.std.proofs.lemmas.Bool.{cases_lt, cases_Bool, both_ways, and_from, eq-eqb, lt-ltb, le-leb}
use Rattle.std.proofs.lemmas.Bool.Decides.{nat_tests}
use Rattle.std.proofs.lemmas.List.{drop_all, get_or_append_left, get_or-append_right, take_all}
use Rattle.xe_base.specs.Ram.{Area, in_ram, AreRam}
use Rattle.xe_mem.specs.declared.region.Region.{Region}
use Rattle.xe_mem.specs.Layout.{covers, fits_after, follow, total, end_behind, IsGap}
use Rattle.xe_mem.specs.Flat.{areas_of, place, gap_behind, IsWhole, IsFound}
use Rattle.xe_mem.proofs.LayoutLaws.{Fits, follow-parts, fits-parts, follow-take, covers-at, ram-below}
use Rattle.xe_mem.proofs.FlatLaws.{total-cons, total-nil, total-step, place-found, place-passed, place-end, gap-view, gap-passed, gap-moved, gap-end}

-- The regions in front of the one that a search found, and those behind it.

pub total-split : (rs : List Region) (i : ℕ) → total (take i rs) + total (drop i rs) ≡ total rs
total-split rs zero = ap (λ n. n + total rs) total-nil ∙ zero-add (total rs)
total-split [] (suc i) = ap (λ n. n + total []) total-nil ∙ zero-add (total [])
total-split (r ∷ rs) (suc i) =
    ap (λ n. n + total (drop i rs)) (total-cons r (take i rs)) ∙ add_assoc r.len (total (take i rs)) (total (drop i rs)) ∙ ap (λ n. r.len + n) (total-split rs i) ∙ sym (total-cons r rs)

-- the bytes in front of the next region
pub total-more : (rs : List Region) (i : ℕ) (d : Region) → i < length rs → (total (take (i + 1) rs) ≡ total (take i rs) + (get_or rs i d).len) × (total (take (i + 1) rs) ≤ total rs)
total-more rs i d h =
    let a = total-split rs i in
    let b = total-split rs (i + 1) in
    let s = total-step rs i d h in
    (omega arith, omega arith)

-- the sums in front of one more region
pub sums-push : (rs : List Region) (before : List ℕ) (sum n : ℕ) → length before ≡ n → sum ≡ total (take n rs) → ((k : ℕ) → k < n → slice_index before k ≡ total (take k rs)) → (k : ℕ) → k < n + 1 → slice_index (before ++ sum ∷ []) k ≡ total (take k rs)
sums-push rs before sum n len is each k l = elim (cases_lt k n) [
  | inl u ↦ get_or_append_left before (sum ∷ []) 0 k (omega arith) ∙ each k u
  | inr u ↦
      let e : k ≡ n = omega arith in
      let z : k - n ≡ 0 = omega arith in
      get_or-append_right before (sum ∷ []) n k 0 len u ∙ ap (λ m. get_or (sum ∷ []) m 0) z ∙ is ∙ ap (λ m. total (take m rs)) (sym e)
]

fits-make : (low : ℕ) (r : Region) → Fits low r → fits_after low r ≡ true
unfolding fits_after
fits-make low r f = and_from _ _ (eq-eqb _ _ f.start) (and_from _ _ (eq-eqb _ _ f.len) (and_from _ _ (lt-ltb _ _ f.some) (and_from _ _ (le-leb _ _ f.below) (le-leb _ _ f.after))))

fits-any : (low other : ℕ) (r : Region) → fits_after low r ≡ true → other ≤ r.start → fits_after other r ≡ true
fits-any low other r h l =
    let f = fits-parts low r h in
    fits-make other r (record { start = f.start; len = f.len; some = f.some; below = f.below; after = l })

-- regions that follow one another do so from each lower place on, and so do the last of them
follow-from : (rs : List Region) (low other j : ℕ) → other ≤ low → follow low rs ≡ true → follow other (drop j rs) ≡ true
unfolding follow
follow-from [] low other zero l h = refl
follow-from [] low other (suc j) l h = refl
follow-from (r ∷ rs) low other zero l h =
    let p = follow-parts low r rs h in
    let f = fits-parts low r p.0 in
    let a = f.after in
    and_from _ _ (fits-any low other r p.0 (omega arith)) p.1
follow-from (r ∷ rs) low other (suc j) l h =
    let p = follow-parts low r rs h in
    let f = fits-parts low r p.0 in
    let a = f.after in
    follow-from rs (r.start + r.len) other j (omega arith) p.1

-- the regions behind one that begins above an address do so too
pub begins-above : (rs : List Region) (low i j a : ℕ) (d : Region) → follow low rs ≡ true → i < length rs → i ≤ j → a < (get_or rs i d).start → follow (a + 1) (drop j rs) ≡ true
unfolding follow
begins-above [] low i j a d h l m s = absurd (omega arith)
begins-above (r ∷ rs) low zero j a d h l m s =
    let p = follow-parts low r rs h in
    follow-from (r ∷ rs) r.start (a + 1) j (omega arith) (and_from _ _ (fits-any low r.start r p.0 (omega arith)) p.1)
begins-above (r ∷ rs) low (suc i) zero a d h l m s = absurd (omega arith)
begins-above (r ∷ rs) low (suc i) (suc j) a d h l m s = begins-above rs (r.start + r.len) i j a d (follow-parts low r rs h).1 (omega arith) (omega arith) s

-- those in front of a region end at or below its start
pub ends-below : (rs : List Region) (low i : ℕ) (d : Region) → follow low rs ≡ true → i < length rs → end_behind low (take i rs) ≤ (get_or rs i d).start
unfolding end_behind
ends-below [] low i d h l = absurd (omega arith)
ends-below (r ∷ rs) low zero d h l = (fits-parts low r (follow-parts low r rs h).0).after
ends-below (r ∷ rs) low (suc i) d h l = ends-below rs (r.start + r.len) i d (follow-parts low r rs h).1 (omega arith)

-- the regions behind the next one begin above the end of this one
pub next-above : (rs : List Region) (low i : ℕ) (d : Region) → follow low rs ≡ true → i < length rs → follow ((get_or rs i d).start + (get_or rs i d).len + 1) (drop (suc (suc i)) rs) ≡ true
unfolding follow
next-above [] low i d h l = absurd (omega arith)
next-above (r ∷ []) low zero d h l = refl
next-above (r ∷ s ∷ rs) low zero d h l =
    let p = follow-parts low r (s ∷ rs) h in
    let q = follow-parts (r.start + r.len) s rs p.1 in
    let f = fits-parts (r.start + r.len) s q.0 in
    let a = f.after in
    let m = f.some in
    follow-from rs (s.start + s.len) (r.start + r.len + 1) zero (omega arith) q.1
next-above (r ∷ rs) low (suc i) d h l = next-above rs (r.start + r.len) i d (follow-parts low r rs h).1 (omega arith)

next-start : (rs : List Region) (low i : ℕ) (d : Region) → follow low rs ≡ true → suc i < length rs → (get_or rs i d).start + (get_or rs i d).len ≤ (get_or rs (suc i) d).start
next-start [] low i d h l = absurd (omega arith)
next-start (r ∷ []) low i d h l = absurd (omega arith)
next-start (r ∷ s ∷ rs) low zero d h l = (fits-parts (r.start + r.len) s (follow-parts (r.start + r.len) s rs (follow-parts low r (s ∷ rs) h).1).0).after
next-start (r ∷ s ∷ rs) low (suc i) d h l = next-start (s ∷ rs) (r.start + r.len) i d (follow-parts low r (s ∷ rs) h).1 (omega arith)

-- a region begins at or above the end of the one before it
next-begins : (rs : List Region) (low i : ℕ) (d : Region) → follow low rs ≡ true → i < length rs → i + 1 < length rs → (get_or rs i d).start + (get_or rs i d).len ≤ (get_or rs (i + 1) d).start
next-begins rs low i d h l m = let e : i + 1 ≡ suc i = omega arith in rw e (next-start rs low i d h (omega arith))

pub follow-drop : (rs : List Region) (i : ℕ) → follow 0 rs ≡ true → follow 0 (drop i rs) ≡ true
follow-drop rs i h = follow-from rs 0 0 i (omega arith) h

end-above : (rs : List Region) (low : ℕ) → follow low rs ≡ true → low ≤ end_behind low rs
unfolding end_behind
end-above [] low h = omega arith
end-above (r ∷ rs) low h =
    let p = follow-parts low r rs h in
    let f = fits-parts low r p.0 in
    let a = f.after in
    let e = end-above rs (r.start + r.len) p.1 in
    omega arith

covers-past : (r : Region) (a : ℕ) → r.start + r.len ≤ a → covers r a ≡ false
unfolding covers
covers-past r a h = grind (arith, nat_tests)

covers-short : (r : Region) (a : ℕ) → a < r.start → covers r a ≡ false
unfolding covers
covers-short r a h = grind (arith, nat_tests)

place-cons : (r : Region) (rs : List Region) (a : ℕ) → covers r a ≡ false → place (r ∷ rs) a ≡ r.len + place rs a
unfolding place
place-cons r rs a f = rw f refl

place-nil : (a : ℕ) → place [] a ≡ 0
unfolding place
place-nil a = refl

gap-cons : (r : Region) (rs : List Region) (a : ℕ) → covers r a ≡ false → gap_behind (r ∷ rs) a ≡ gap_behind rs a
unfolding gap_behind
gap-cons r rs a f = rw f refl

gap-nil : (a : ℕ) → gap_behind [] a ≡ a
unfolding gap_behind
gap-nil a = refl

-- a region in front of others that end at or below an address doesn't have it
front-past : (r : Region) (rs : List Region) (low i a : ℕ) → follow low (r ∷ rs) ≡ true → end_behind low (take (suc i) (r ∷ rs)) ≤ a → covers r a ≡ false
unfolding end_behind
front-past r rs low i a h l =
    let p = follow-parts low r rs h in
    let u = end-above (take i rs) (r.start + r.len) (follow-take rs (r.start + r.len) i p.1) in
    let m : end_behind (r.start + r.len) (take i rs) ≤ a = l in
    covers-past r a (omega arith)

place-split : (rs : List Region) (low i a : ℕ) → follow low rs ≡ true → end_behind low (take i rs) ≤ a → place rs a ≡ total (take i rs) + place (drop i rs) a
unfolding end_behind
place-split rs low zero a h l = sym (ap (λ n. n + place rs a) total-nil ∙ zero-add (place rs a))
place-split [] low (suc i) a h l = sym (ap (λ n. n + place [] a) total-nil ∙ zero-add (place [] a))
place-split (r ∷ rs) low (suc i) a h l =
    place-cons r rs a (front-past r rs low i a h l) ∙ ap (λ n. r.len + n) (place-split rs (r.start + r.len) i a (follow-parts low r rs h).1 l) ∙ sym (add_assoc r.len (total (take i rs)) (place (drop i rs) a)) ∙ ap (λ n. n + place (drop i rs) a) (sym (total-cons r (take i rs)))

pub gap-split : (rs : List Region) (low i a : ℕ) → follow low rs ≡ true → end_behind low (take i rs) ≤ a → gap_behind rs a ≡ gap_behind (drop i rs) a
unfolding end_behind
gap-split rs low zero a h l = refl
gap-split [] low (suc i) a h l = refl
gap-split (r ∷ rs) low (suc i) a h l =
    gap-cons r rs a (front-past r rs low i a h l) ∙ gap-split rs (r.start + r.len) i a (follow-parts low r rs h).1 l

place-above : (rs : List Region) (low a : ℕ) → follow low rs ≡ true → a < low → place rs a ≡ total rs
place-above [] low a h l = place-nil a ∙ sym total-nil
place-above (r ∷ rs) low a h l =
    let p = follow-parts low r rs h in
    let f = fits-parts low r p.0 in
    let u = f.after in
    place-cons r rs a (covers-short r a (omega arith)) ∙ ap (λ n. r.len + n) (place-above rs (r.start + r.len) a p.1 (omega arith)) ∙ sym (total-cons r rs)

pub gap-above : (rs : List Region) (low a : ℕ) → follow low rs ≡ true → a < low → gap_behind rs a ≡ a
gap-above [] low a h l = gap-nil a
gap-above (r ∷ rs) low a h l =
    let p = follow-parts low r rs h in
    let f = fits-parts low r p.0 in
    let u = f.after in
    gap-cons r rs a (covers-short r a (omega arith)) ∙ gap-above rs (r.start + r.len) a p.1 (omega arith)

-- a gap isn't in front of where its search begins
pub gap-reached : (rs : List Region) (a : ℕ) → a ≤ gap_behind rs a
unfolding gap_behind
gap-reached [] a = omega arith
gap-reached (r ∷ rs) a = elim (cases_Bool (covers r a)) [
  | inl t ↦ let c = covers-at r a t in let e = gap-reached rs (r.start + r.len) in rw t (omega (arith, c.1, e))
  | inr n ↦ rw n (gap-reached rs a)
]

pub follow-none : (rs : List Region) (low i : ℕ) → length rs ≤ i → follow low (drop i rs) ≡ true
unfolding follow
follow-none rs low i h = rw (drop_all i rs h) refl

-- a region that has the address is the one that a search finds
pub found-covered : (rs : List Region) (a i : ℕ) (d : Region) → follow 0 rs ≡ true → i < length rs → covers (get_or rs i d) a ≡ true → IsFound rs a i
found-covered rs a i d h l t =
    let c = covers-at (get_or rs i d) a t in
    let b = ends-below rs 0 i d h l in
    record {
      within = omega arith;
      front = omega (arith, b, c.0);
      behind = elim (cases_lt (i + 1) (length rs)) [
        | inl m ↦
            let n = next-begins rs 0 i d h l m in
            begins-above rs 0 (i + 1) (i + 1) a d h m (omega arith) (omega (arith, n, c.1))
        | inr m ↦ follow-none rs (a + 1) (i + 1) (omega arith)
      ];
    }

-- what a search found says where the address lies
module _ (rs : List Region) (a i : ℕ) (d : Region) (h : follow 0 rs ≡ true) (f : IsFound rs a i) where
  pub found-place : i < length rs → covers (get_or rs i d) a ≡ true → place rs a ≡ total (take i rs) + (a - (get_or rs i d).start)
  found-place l t = place-split rs 0 i a h f.front ∙ ap (λ n. total (take i rs) + n) (place-found rs i d l a t)

  pub no-place : i < length rs → covers (get_or rs i d) a ≡ false → place rs a ≡ total rs
  no-place l n =
      let s = place-split rs 0 i a h f.front in
      let p = place-passed rs i d l a n in
      let u = place-above (drop (i + 1) rs) (a + 1) a f.behind (omega arith) in
      let t = total-step rs i d l in
      let w = total-split rs i in
      omega arith

  pub end-place : length rs ≤ i → place rs a ≡ total rs
  end-place l =
      let s = place-split rs 0 i a h f.front in
      let p = place-end rs i a l in
      let w = total-split rs i in
      let z : total (drop i rs) ≡ 0 = ap total (drop_all i rs l) ∙ total-nil in
      omega arith

  -- the region that was found doesn't have the address
  pub no-gap : i < length rs → covers (get_or rs i d) a ≡ false → gap_behind rs a ≡ a
  no-gap l n = gap-split rs 0 i a h f.front ∙ gap-passed rs i d l a n ∙ gap-above (drop (i + 1) rs) (a + 1) a f.behind (omega arith)

  pub empty-gap : length rs ≤ i → gap_behind rs a ≡ a
  empty-gap l = gap-split rs 0 i a h f.front ∙ gap-end rs i a l

  -- it does, and it is the last one
  pub last-gap : i < length rs → covers (get_or rs i d) a ≡ true → length rs ≤ i + 1 → gap_behind rs a ≡ (get_or rs i d).start + (get_or rs i d).len
  last-gap l t n = gap-split rs 0 i a h f.front ∙ gap-moved rs i d l a t ∙ gap-end rs (i + 1) ((get_or rs i d).start + (get_or rs i d).len) n

  -- it does, and the next one doesn't touch it
  pub apart-gap : i < length rs → covers (get_or rs i d) a ≡ true → i + 1 < length rs → ((get_or rs (i + 1) d).start ≡ (get_or rs i d).start + (get_or rs i d).len → ⊥) → gap_behind rs a ≡ (get_or rs i d).start + (get_or rs i d).len
  apart-gap l t m ne =
      let end = (get_or rs i d).start + (get_or rs i d).len in
      let o = next-begins rs 0 i d h l m in
      gap-split rs 0 i a h f.front ∙ gap-moved rs i d l a t ∙ gap-above (drop (i + 1) rs) (end + 1) end (begins-above rs 0 (i + 1) (i + 1) end d h m (omega arith) (omega (arith, o, ne))) (omega arith)

  -- the gap isn't in front of the end of the region that has the address
  pub end-gap : i < length rs → covers (get_or rs i d) a ≡ true → (get_or rs i d).start + (get_or rs i d).len ≤ gap_behind rs a
  end-gap l t =
      let e = gap-split rs 0 i a h f.front ∙ gap-moved rs i d l a t in
      rw e (gap-reached (drop (i + 1) rs) ((get_or rs i d).start + (get_or rs i d).len))

  pub found-gap : gap_behind rs a ≡ gap_behind (drop i rs) a
  found-gap = gap-split rs 0 i a h f.front

-- bytes that go past the first gap aren't all RAM
pub gap-inside : (ram : List Area) (pa gap n : ℕ) → IsGap ram pa gap → gap < pa + n → AreRam ram pa n → ⊥
gap-inside ram pa gap n g l are =
    let r = g.reached in
    let e : pa + (gap - pa) ≡ gap = omega arith in
    let i : in_ram ram gap ≡ true = rw e at (are.each (gap - pa) (omega arith)) in
    both_ways (in_ram ram gap) g.outside i

pub end-none : (low : ℕ) → end_behind low [] ≡ low
unfolding end_behind
end-none low = refl

-- what is left of a list from a place on
pub rest-is : {X : Type 0} (xs : List X) (i : ℕ) → take (length xs - i) (drop i xs) ≡ drop i xs
rest-is xs i = take_all (length xs - i) (drop i xs) (omega (arith, length-drop i xs))

-- what the first gap says of a guest memory's bytes
module _ (rs xs : List Region) (bs : List ℕ) (ram : List Area) (whole : IsWhole rs bs) (view : areas_of rs bs ≡ ram) (same : xs ≡ rs) (pa n : ℕ) where
  pub range-ram : pa + n ≤ gap_behind xs pa → AreRam ram pa n
  range-ram l = ram-below ram pa (gap_behind rs pa) (gap-view rs bs ram whole view pa) n (rw same at l)

  pub range-past : gap_behind xs pa < pa + n → AreRam ram pa n → ⊥
  range-past l = gap-inside ram pa (gap_behind rs pa) n (gap-view rs bs ram whole view pa) (rw same at l)
