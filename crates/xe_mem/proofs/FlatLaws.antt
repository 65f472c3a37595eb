use Rattle.std.proofs.Common.{ℕ, zero, suc, ◌≡◌, ◌<◌, ◌≤◌, ◌+◌, ◌-◌, List, [], ◌∷◌, ◌++◌, length, drop, take, get_or, set, subst, refl, sym, ap, ◌∙◌, arith, true, false, inl, inr, replicate, length-append, length-drop}
use Rattle.std.proofs.Math.Seq.{drop-cons}
use Rattle.std.proofs.lemmas.Bool.{cases_lt, cases_eq, cases_Bool}
use Rattle.std.specs.Vec.{with_items}
use Rattle.std.proofs.Common.{Vec, Global, append_assoc}
use Rattle.std.proofs.lemmas.List.{with_items_is, drop-drop, take_at, drop_at, take-append-drop, length-set, drop_more, drop_all, get_or_append_left, get_or-append_right, set-append_left, set-append_right, length-take-le, nil_from_length, take-replicate, drop-replicate}
use Rattle.std.proofs.lemmas.List.Sums.{sum_by-cons}
use Rattle.std.proofs.lemmas.List.Edits.{sets, sets-eq}
use Rattle.xe_base.specs.Ram.{Area, holds, in_ram, byte_of, put_byte, bytes_of, put_bytes, AreRam}
use Rattle.xe_base.proofs.Ram.{holds-at, in-put}
use Rattle.xe_mem.specs.declared.region.Region.{Region}
use Rattle.xe_mem.specs.Layout.{covers, follow, total, region_of, regions_of, zeroed, IsGap}
use Rattle.xe_mem.specs.Flat.{areas_of, all_bytes, place, gap_behind, IsWhole}
use Rattle.xe_mem.proofs.LayoutLaws.{holds-region, regions-cons, regions-put, regions-puts, first-parts, above, past, not-held, held}

pub total-cons : (r : Region) (rs : List Region) → total (r ∷ rs) ≡ r.len + total rs
unfolding total
total-cons r rs = sum_by-cons (λ (r : Region). r.len) r rs

pub total-nil : total [] ≡ 0
unfolding total
total-nil = refl

-- The three ways of going between a RAM and its parts.

pub regions-areas : (rs : List Region) (bs : List ℕ) → length bs ≡ total rs → regions_of (areas_of rs bs) ≡ rs
unfolding areas_of regions_of
regions-areas [] bs h = refl
regions-areas (r ∷ rs) bs h =
    let n : length bs ≡ r.len + total rs = h ∙ total-cons r rs in
    let l : length (take r.len bs) ≡ r.len = length-take-le r.len bs (omega arith) in
    let m : length (drop r.len bs) ≡ total rs = omega (arith, length-drop r.len bs) in
    rw (l, regions-areas rs (drop r.len bs) m) refl

pub bytes-areas : (rs : List Region) (bs : List ℕ) → length bs ≡ total rs → all_bytes (areas_of rs bs) ≡ bs
unfolding areas_of all_bytes
bytes-areas [] bs h = sym (nil_from_length bs (h ∙ total-nil))
bytes-areas (r ∷ rs) bs h =
    let n : length bs ≡ r.len + total rs = h ∙ total-cons r rs in
    let m : length (drop r.len bs) ≡ total rs = omega (arith, length-drop r.len bs) in
    rw (bytes-areas rs (drop r.len bs) m) (take-append-drop r.len bs)

pub areas-parts : (ram : List Area) → areas_of (regions_of ram) (all_bytes ram) ≡ ram
unfolding areas_of all_bytes regions_of
areas-parts [] = refl
areas-parts (r ∷ rs) = rw (take_at r.bytes (all_bytes rs) (length r.bytes) refl, drop_at r.bytes (all_bytes rs) (length r.bytes) refl, areas-parts rs) refl

pub length-all : (ram : List Area) → length (all_bytes ram) ≡ total (regions_of ram)
unfolding all_bytes regions_of
length-all [] = sym total-nil
length-all (r ∷ rs) = length-append r.bytes (all_bytes rs) ∙ ap (λ n. length r.bytes + n) (length-all rs) ∙ sym (total-cons (region_of r) (regions_of rs))

-- Where an address lies.

place-here : (r : Area) (rs : List Area) (a : ℕ) → holds r a ≡ true → place (regions_of (r ∷ rs)) a ≡ a - r.start
unfolding place
place-here r rs a h = rw (regions-cons, holds-region r a, h) refl

place-there : (r : Area) (rs : List Area) (a : ℕ) → holds r a ≡ false → place (regions_of (r ∷ rs)) a ≡ length r.bytes + place (regions_of rs) a
unfolding place
place-there r rs a h = rw (regions-cons, holds-region r a, h) refl

place-none : (a : ℕ) → place (regions_of []) a ≡ 0
unfolding place regions_of
place-none a = refl

pub place-le : (ram : List Area) (a : ℕ) → place (regions_of ram) a ≤ length (all_bytes ram)
unfolding all_bytes
place-le [] a = omega (arith, place-none a)
place-le (r ∷ rs) a = elim (cases_Bool (holds r a)) [
  | inl t ↦ let p = holds-at r a t in rw (place-here r rs a t) (omega (arith, length-append r.bytes (all_bytes rs), p.0, p.1))
  | inr f ↦ rw (place-there r rs a f) (omega (arith, length-append r.bytes (all_bytes rs), place-le rs a))
]

pub place-lt : (ram : List Area) (a : ℕ) → in_ram ram a ≡ true → place (regions_of ram) a < length (all_bytes ram)
unfolding all_bytes in_ram
place-lt [] a h = cc
place-lt (r ∷ rs) a h = elim (cases_Bool (holds r a)) [
  | inl t ↦ let p = holds-at r a t in rw (place-here r rs a t) (omega (arith, length-append r.bytes (all_bytes rs), p.0, p.1))
  | inr f ↦ rw (place-there r rs a f) (omega (arith, length-append r.bytes (all_bytes rs), place-lt rs a (rw f at h)))
]

-- RAM at the very place from which the regions follow is the first byte
place-low : (ram : List Area) (low : ℕ) → follow low (regions_of ram) ≡ true → in_ram ram low ≡ true → place (regions_of ram) low ≡ 0
unfolding in_ram
place-low [] low h i = cc
place-low (r ∷ rs) low h i = let p = first-parts low r rs h in elim (cases_Bool (holds r low)) [
  | inl t ↦ let q = holds-at r low t in let l = p.fits.after in place-here r rs low t ∙ omega (arith, q.0)
  | inr f ↦ let l = p.fits.after in let s = p.fits.some in let m = above rs (r.start + length r.bytes) low p.rest (rw f at i) in absurd (omega arith)
]

-- neighbours in RAM are neighbours among the bytes
pub place-next : (ram : List Area) (low a : ℕ) → follow low (regions_of ram) ≡ true → in_ram ram a ≡ true → in_ram ram (a + 1) ≡ true → place (regions_of ram) (a + 1) ≡ place (regions_of ram) a + 1
unfolding in_ram
place-next [] low a h i j = cc
place-next (r ∷ rs) low a h i j = let p = first-parts low r rs h in elim (cases_Bool (holds r a)) [
  | inl t ↦ let q = holds-at r a t in elim (cases_Bool (holds r (a + 1))) [
    | inl u ↦ place-here r rs (a + 1) u ∙ (omega (arith, q.0)) ∙ ap (λ n. n + 1) (sym (place-here r rs a t))
    | inr g ↦
        let e : a + 1 ≡ r.start + length r.bytes = elim (not-held r (a + 1) g) [ inl l ↦ absurd (omega (arith, q.0)) | inr l ↦ omega (arith, q.1) ] in
        let z : place (regions_of rs) (a + 1) ≡ 0 = rw (← e) at (place-low rs (r.start + length r.bytes) p.rest (rw (← e) (rw g at j))) in
        place-there r rs (a + 1) g ∙ (omega (arith, q.0)) ∙ ap (λ n. n + 1) (sym (place-here r rs a t))
  ]
  | inr f ↦
      let m : in_ram rs a ≡ true = rw f at i in
      let b = above rs (r.start + length r.bytes) a p.rest m in
      let g : holds r (a + 1) ≡ false = past r (a + 1) (omega arith) in
      place-there r rs (a + 1) g ∙ ap (λ n. length r.bytes + n) (place-next rs _ a p.rest m (rw g at j)) ∙ (omega arith) ∙ ap (λ n. n + 1) (sym (place-there r rs a f))
]

-- the byte at an address
pub byte-place : (ram : List Area) (a : ℕ) → in_ram ram a ≡ true → byte_of ram a ≡ get_or (all_bytes ram) (place (regions_of ram) a) 0
unfolding in_ram byte_of all_bytes
byte-place [] a h = cc
byte-place (r ∷ rs) a h = elim (cases_Bool (holds r a)) [
  | inl t ↦ let q = holds-at r a t in rw (place-here r rs a t, t) (sym (get_or_append_left r.bytes (all_bytes rs) 0 (a - r.start) (omega (arith, q.0, q.1))))
  | inr f ↦
      let e : length r.bytes + place (regions_of rs) a - length r.bytes ≡ place (regions_of rs) a = omega arith in
      rw (place-there r rs a f, f, get_or-append_right r.bytes (all_bytes rs) (length r.bytes) (length r.bytes + place (regions_of rs) a) 0 refl (omega arith), e) (byte-place rs a (rw f at h))
]

-- the bytes once one was written
pub all-put : (ram : List Area) (a b : ℕ) → in_ram ram a ≡ true → all_bytes (put_byte ram a b) ≡ set (all_bytes ram) (place (regions_of ram) a) b
unfolding in_ram put_byte all_bytes
all-put [] a b h = cc
all-put (r ∷ rs) a b h = elim (cases_Bool (holds r a)) [
  | inl t ↦ let q = holds-at r a t in rw (place-here r rs a t, t) (sym (set-append_left r.bytes (all_bytes rs) (a - r.start) b (omega (arith, q.0, q.1))))
  | inr f ↦
      let e : length r.bytes + place (regions_of rs) a - length r.bytes ≡ place (regions_of rs) a = omega arith in
      rw (place-there r rs a f, f, set-append_right r.bytes (all_bytes rs) (length r.bytes) (length r.bytes + place (regions_of rs) a) b refl (omega arith), e) (ap (λ xs. r.bytes ++ xs) (all-put rs a b (rw f at h)))
]

-- several bytes

pub are-tail : (ram : List Area) (pa n : ℕ) → AreRam ram pa (suc n) → AreRam ram (pa + 1) n
are-tail ram pa n h = record { each = λ k l. let e : pa + 1 + k ≡ pa + suc k = omega arith in rw e (h.each (suc k) (omega arith)) }

pub are-head : (ram : List Area) (pa n : ℕ) → AreRam ram pa (suc n) → in_ram ram pa ≡ true
are-head ram pa n h = let e : pa + 0 ≡ pa = omega arith in rw e at (h.each 0 (omega arith))

pub are-put : (ram : List Area) (a b pa n : ℕ) → AreRam ram pa n → AreRam (put_byte ram a b) pa n
are-put ram a b pa n h = record { each = λ k l. in-put ram a b (pa + k) ∙ h.each k l }

-- the bytes from an address on lie one behind another
pub place-fits : (ram : List Area) (low pa n : ℕ) → follow low (regions_of ram) ≡ true → AreRam ram pa n → place (regions_of ram) pa + n ≤ length (all_bytes ram)
place-fits ram low pa zero h are = let l = place-le ram pa in omega arith
place-fits ram low pa (suc zero) h are = let l = place-lt ram pa (are-head ram pa zero are) in omega arith
place-fits ram low pa (suc (suc n)) h are =
    let t = are-tail ram pa (suc n) are in
    let l = place-fits ram low (pa + 1) (suc n) h t in
    let e = place-next ram low pa h (are-head ram pa (suc n) are) (are-head ram (pa + 1) n t) in
    omega arith

pub bytes-place : (ram : List Area) (low pa n : ℕ) → follow low (regions_of ram) ≡ true → AreRam ram pa n → bytes_of ram pa n ≡ take n (drop (place (regions_of ram) pa) (all_bytes ram))
unfolding bytes_of
bytes-place ram low pa zero h are = refl
bytes-place ram low pa (suc zero) h are =
    let m = are-head ram pa zero are in
    rw (drop-cons (all_bytes ram) (place (regions_of ram) pa) 0 (place-lt ram pa m), byte-place ram pa m) refl
bytes-place ram low pa (suc (suc n)) h are =
    let m = are-head ram pa (suc n) are in
    let t = are-tail ram pa (suc n) are in
    let e : place (regions_of ram) (pa + 1) ≡ suc (place (regions_of ram) pa) = place-next ram low pa h m (are-head ram (pa + 1) n t) ∙ omega arith in
    rw (drop-cons (all_bytes ram) (place (regions_of ram) pa) 0 (place-lt ram pa m), byte-place ram pa m, bytes-place ram low (pa + 1) (suc n) h t, e) refl

-- a sequence of writes
pub all-puts : (ram : List Area) (low pa : ℕ) (bs : List ℕ) → follow low (regions_of ram) ≡ true → AreRam ram pa (length bs) → all_bytes (put_bytes ram pa bs) ≡ sets (all_bytes ram) (place (regions_of ram) pa) bs
unfolding put_bytes
all-puts ram low pa [] h are = refl
all-puts ram low pa (b ∷ []) h are = all-put ram pa b (are-head ram pa zero are)
all-puts ram low pa (b ∷ c ∷ bs) h are =
    let m = are-head ram pa (suc (length bs)) are in
    let t = are-tail ram pa (suc (length bs)) are in
    let e : place (regions_of ram) (pa + 1) ≡ suc (place (regions_of ram) pa) = place-next ram low pa h m (are-head ram (pa + 1) (length bs) t) ∙ omega arith in
    let g : follow low (regions_of (put_byte ram pa b)) ≡ true = rw (regions-put ram pa b) h in
    all-puts (put_byte ram pa b) low (pa + 1) (c ∷ bs) g (are-put ram pa b (pa + 1) (suc (length bs)) t) ∙ rw (regions-put ram pa b, all-put ram pa b m, e) refl

-- RAM of zeros
pub areas-zeros : (rs : List Region) (n : ℕ) → total rs ≡ n → areas_of rs (replicate n 0) ≡ zeroed rs
unfolding areas_of zeroed
areas-zeros [] n h = refl
areas-zeros (r ∷ rs) n h =
    let e : r.len + total rs ≡ n = sym (total-cons r rs) ∙ h in
    rw (take-replicate {X = ℕ} r.len n 0 (omega arith), drop-replicate {X = ℕ} r.len n 0, areas-zeros rs (n - r.len) (omega arith)) refl

-- one region on in a search among regions
module _ (rs : List Region) (i : ℕ) (d : Region) (h : i < length rs) where
  pub total-step : total (drop i rs) ≡ (get_or rs i d).len + total (drop (i + 1) rs)
  total-step = rw (drop_more rs i d h) (total-cons (get_or rs i d) (drop (i + 1) rs))

  module _ (a : ℕ) where
    pub place-found : covers (get_or rs i d) a ≡ true → place (drop i rs) a ≡ a - (get_or rs i d).start
    unfolding place
    place-found t = rw (drop_more rs i d h, t) refl

    pub place-passed : covers (get_or rs i d) a ≡ false → place (drop i rs) a ≡ (get_or rs i d).len + place (drop (i + 1) rs) a
    unfolding place
    place-passed f = rw (drop_more rs i d h, f) refl

    pub gap-passed : covers (get_or rs i d) a ≡ false → gap_behind (drop i rs) a ≡ gap_behind (drop (i + 1) rs) a
    unfolding gap_behind
    gap-passed f = rw (drop_more rs i d h, f) refl

    pub gap-moved : covers (get_or rs i d) a ≡ true → gap_behind (drop i rs) a ≡ gap_behind (drop (i + 1) rs) ((get_or rs i d).start + (get_or rs i d).len)
    unfolding gap_behind
    gap-moved t = rw (drop_more rs i d h, t) refl

pub place-end : (rs : List Region) (i a : ℕ) → length rs ≤ i → place (drop i rs) a ≡ 0
unfolding place
place-end rs i a h = rw (drop_all i rs h) refl

pub gap-end : (rs : List Region) (i a : ℕ) → length rs ≤ i → gap_behind (drop i rs) a ≡ a
unfolding gap_behind
gap-end rs i a h = rw (drop_all i rs h) refl

-- a gap behind the other areas isn't in the first one
gap-free : (r : Area) (rs : List Area) (from gap : ℕ) → holds r from ≡ false → follow (r.start + length r.bytes) (regions_of rs) ≡ true → IsGap rs from gap → holds r gap ≡ false
gap-free r rs from gap f h g = elim (cases_eq gap from) [
  | inl e ↦ rw e f
  | inr ne ↦
      let l = g.reached in
      let m : in_ram rs (gap - 1) ≡ true = g.before (gap - 1) (omega (arith, ne)) (omega (arith, ne)) in
      let b = above rs (r.start + length r.bytes) (gap - 1) h m in
      past r gap (omega (arith, ne))
]

-- the search for a gap finds it
pub is-gap : (ram : List Area) (low from : ℕ) → follow low (regions_of ram) ≡ true → IsGap ram from (gap_behind (regions_of ram) from)
unfolding in_ram gap_behind regions_of
is-gap [] low from h = record { reached = omega arith; before = λ a l m. absurd (omega arith); outside = refl }
is-gap (r ∷ rs) low from h = let p = first-parts low r rs h in elim (cases_Bool (holds r from)) [
  | inl t ↦
      let g = is-gap rs (r.start + length r.bytes) (r.start + length r.bytes) p.rest in
      let q = holds-at r from t in
      rw (holds-region r from, t) (record {
        reached = omega (arith, g.reached, q.1);
        before = λ a l m. elim (cases_lt a (r.start + length r.bytes)) [
          | inl u ↦ let k : holds r a ≡ true = held r a (omega (arith, q.0)) u in rw k refl
          | inr u ↦ let k : holds r a ≡ false = past r a u in rw k (g.before a u m)
        ];
        outside = rw (past r _ g.reached) g.outside;
      })
  | inr f ↦
      let g = is-gap rs (r.start + length r.bytes) from p.rest in
      rw (holds-region r from, f) (record {
        reached = g.reached;
        before = λ a l m. elim (cases_Bool (holds r a)) [
          | inl u ↦ rw u refl
          | inr u ↦ rw u (g.before a l m)
        ];
        outside = rw (gap-free r rs from (gap_behind (regions_of rs) from) f p.rest g) g.outside;
      })
]

-- what a guest memory's fields and its RAM say of each other
module _ (rs : List Region) (bs : List ℕ) (ram : List Area) (whole : IsWhole rs bs) (view : areas_of rs bs ≡ ram) where
  pub regions-view : regions_of ram ≡ rs
  regions-view = rw (← view) (regions-areas rs bs whole.bytes_len)

  pub bytes-view : all_bytes ram ≡ bs
  bytes-view = rw (← view) (bytes-areas rs bs whole.bytes_len)

  pub follow-view : follow 0 (regions_of ram) ≡ true
  follow-view = rw regions-view whole.layout.follows

  pub gap-view : (from : ℕ) → IsGap ram from (gap_behind rs from)
  gap-view from = let e = regions-view in subst (λ xs. IsGap ram from (gap_behind xs from)) e (is-gap ram 0 from follow-view)

  module _ (pa n : ℕ) (are : AreRam ram pa n) where
    pub fits-view : place rs pa + n ≤ length bs
    fits-view = let l = place-fits ram 0 pa n follow-view are in rw (regions-view, bytes-view) at l

    pub load-view : bytes_of ram pa n ≡ take n (drop (place rs pa) bs)
    load-view = let l = bytes-place ram 0 pa n follow-view are in rw (regions-view, bytes-view) at l

  -- another list of bytes behind the same regions
  pub areas-view : (other : List Area) (cs : List ℕ) → regions_of other ≡ regions_of ram → all_bytes other ≡ cs → areas_of rs cs ≡ other
  areas-view other cs r b = rw (← regions-view, ← r, ← b) (areas-parts other)

  pub store-view : (pa : ℕ) (xs : List ℕ) → AreRam ram pa (length xs) → areas_of rs (sets bs (place rs pa) xs) ≡ put_bytes ram pa xs
  store-view pa xs are = areas-view (put_bytes ram pa xs) _ (regions-puts ram pa xs) (rw (all-puts ram 0 pa xs follow-view are, regions-view, bytes-view) refl)

-- a slice that was written in the middle
pub put-sets : (xs ys : List ℕ) (a k : ℕ) → a + length ys ≤ length xs → k ≡ length ys → take a xs ++ (ys ++ drop k (drop a xs)) ≡ sets xs a ys
put-sets xs ys a k h e = rw (sets-eq ys xs a h, append_assoc (take a xs) ys (drop (a + length ys) xs), e, drop-drop (length ys) a xs) refl

pub length-sets : (xs ys : List ℕ) (a : ℕ) → length (sets xs a ys) ≡ length xs
length-sets xs [] a = refl
length-sets xs (y ∷ ys) a = length-sets (set xs a y) ys (suc a) ∙ length-set xs a y

pub vec-put : (v : Vec ℕ Global) (xs ys : List ℕ) (a k : ℕ) → xs ≡ v.items → length xs ≡ v.len → a + length ys ≤ length xs → k ≡ length ys → (with_items v (take a xs ++ (ys ++ drop k (drop a xs)))).items ≡ sets v.items a ys
vec-put v xs ys a k x l h e =
    let p = put-sets xs ys a k h e in
    with_items_is v _ (ap length p ∙ length-sets xs ys a ∙ l) ∙ p ∙ ap (λ zs. sets zs a ys) x
