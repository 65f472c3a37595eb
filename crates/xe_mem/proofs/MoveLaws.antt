use Rattle.std.proofs.Common.{ℕ, zero, suc, ◌≡◌, ◌<◌, ◌≤◌, ◌+◌, ◌-◌, ◌*◌, List, [], ◌∷◌, ◌++◌, length, drop, take, set, refl, sym, ap, ◌∙◌, arith, true, inl, inr, ◌⊎◌, length-append, length-take, length-drop, append_assoc, Vec, Global}
use Rattle.std.specs.Vec.{with_items}
use Rattle.std.proofs.lemmas.List.{take_at, set_comm, drop-drop, drop-take, drop-set-lt, take-set-le, with_items_is, append-nil, take-take}
use Rattle.std.proofs.lemmas.List.Edits.{sets, sets-eq}
use Rattle.std.proofs.Math.Nat.{mul-suc, suc-mul}
use Rattle.xe_base.specs.Ram.{Area, in_ram, put_byte, bytes_of, put_bytes, AreRam}
use Rattle.xe_base.proofs.Ram.{length-bytes}
use Rattle.xe_mem.specs.declared.region.Region.{Region}
use Rattle.xe_mem.specs.Layout.{follow, regions_of}
use Rattle.xe_mem.specs.Moves.{IsUnit, filled, moved, copied_up, copied_down}
use Rattle.xe_mem.specs.Flat.{areas_of, all_bytes, place, IsWhole, repeated, flat_up, flat_down}
use Rattle.xe_mem.proofs.LayoutLaws.{regions-puts}
use Rattle.xe_mem.proofs.FlatLaws.{length-sets, place-next, bytes-place, all-puts, are-put, regions-view, bytes-view, follow-view, areas-view, store-view}

-- Parts of a range.

pub are-part : (ram : List Area) (pa m k n : ℕ) → AreRam ram pa m → k + n ≤ m → AreRam ram (pa + k) n
are-part ram pa m k n are h = record { each = λ j l. let e : pa + k + j ≡ pa + (k + j) = omega arith in rw e (are.each (k + j) (omega arith)) }

pub are-puts : (ram : List Area) (at : ℕ) (bs : List ℕ) (pa n : ℕ) → AreRam ram pa n → AreRam (put_bytes ram at bs) pa n
unfolding put_bytes
are-puts ram at [] pa n are = are
are-puts ram at (b ∷ bs) pa n are = are-puts (put_byte ram at b) (at + 1) bs pa n (are-put ram at b pa n are)

pub place-add : (ram : List Area) (low pa m k : ℕ) → follow low (regions_of ram) ≡ true → AreRam ram pa m → k < m → place (regions_of ram) (pa + k) ≡ place (regions_of ram) pa + k
place-add ram low pa m zero h are l = let e : pa + 0 ≡ pa = omega arith in rw e (omega arith)
place-add ram low pa m (suc k) h are l =
    let e : pa + suc k ≡ pa + k + 1 = omega arith in
    let i = are.each k (omega arith) in
    let j : in_ram ram (pa + k + 1) ≡ true = rw e at (are.each (suc k) l) in
    rw e (place-next ram low (pa + k) h i j ∙ omega (arith, place-add ram low pa m k h are (omega arith)))

-- One element.

pub regions-moved : (ram : List Area) (dst src unit : ℕ) → regions_of (moved ram dst src unit) ≡ regions_of ram
unfolding moved
regions-moved ram dst src unit = regions-puts ram dst (bytes_of ram src unit)

pub are-moved : (ram : List Area) (dst src unit pa n : ℕ) → AreRam ram pa n → AreRam (moved ram dst src unit) pa n
unfolding moved
are-moved ram dst src unit pa n are = are-puts ram dst (bytes_of ram src unit) pa n are

pub all-moved : (ram : List Area) (low dst src unit : ℕ) → follow low (regions_of ram) ≡ true → AreRam ram dst unit → AreRam ram src unit → all_bytes (moved ram dst src unit) ≡ sets (all_bytes ram) (place (regions_of ram) dst) (take unit (drop (place (regions_of ram) src) (all_bytes ram)))
unfolding moved
all-moved ram low dst src unit h d s =
    let n = length-bytes ram src unit in
    let d' : AreRam ram dst (length (bytes_of ram src unit)) = rw n d in
    all-puts ram low dst (bytes_of ram src unit) h d' ∙ ap (λ xs. sets (all_bytes ram) (place (regions_of ram) dst) xs) (bytes-place ram low src unit h s)

-- Elements one after another, in a RAM and in the list of all bytes.

first-of : (unit n : ℕ) → unit ≤ unit * suc n
first-of unit n = omega (arith, mul-suc unit n)

rest-of : (unit n : ℕ) → unit + unit * n ≤ unit * suc n
rest-of unit n = omega (arith, mul-suc unit n)

front-of : (unit n : ℕ) → unit * n ≤ unit * suc n
front-of unit n = omega (arith, mul-suc unit n)

last-of : (unit n : ℕ) → unit * n + unit ≤ unit * suc n
last-of unit n = omega (arith, mul-suc unit n)

second-in : (unit n : ℕ) → 0 < unit → unit < unit * suc (suc n)
second-in unit n u = omega (arith, mul-suc unit (suc n), mul-suc unit n)

last-in : (unit n : ℕ) → 0 < unit → unit * n < unit * suc n
last-in unit n u = omega (arith, mul-suc unit n)

are-first : (ram : List Area) (pa unit n : ℕ) → AreRam ram pa (unit * suc n) → AreRam ram pa unit
are-first ram pa unit n are = record { each = λ k l. are.each k (omega (arith, first-of unit n)) }

are-front : (ram : List Area) (pa unit n : ℕ) → AreRam ram pa (unit * suc n) → AreRam ram pa (unit * n)
are-front ram pa unit n are = record { each = λ k l. are.each k (omega (arith, front-of unit n)) }

are-rest : (ram : List Area) (pa unit n : ℕ) → AreRam ram pa (unit * suc n) → AreRam ram (pa + unit) (unit * n)
are-rest ram pa unit n are = are-part ram pa (unit * suc n) unit (unit * n) are (rest-of unit n)

are-last : (ram : List Area) (pa unit n : ℕ) → AreRam ram pa (unit * suc n) → AreRam ram (pa + unit * n) unit
are-last ram pa unit n are = are-part ram pa (unit * suc n) (unit * n) unit are (last-of unit n)

pub all-up : (n : ℕ) (ram : List Area) (low dst src unit : ℕ) → follow low (regions_of ram) ≡ true → 0 < unit → AreRam ram dst (unit * n) → AreRam ram src (unit * n) → all_bytes (copied_up ram dst src unit n) ≡ flat_up (all_bytes ram) (place (regions_of ram) dst) (place (regions_of ram) src) unit n
unfolding copied_up flat_up
all-up zero ram low dst src unit h u d s = refl
all-up (suc zero) ram low dst src unit h u d s = all-moved ram low dst src unit h (are-first ram dst unit zero d) (are-first ram src unit zero s)
all-up (suc (suc n)) ram low dst src unit h u d s =
    let m = moved ram dst src unit in
    let r = regions-moved ram dst src unit in
    let g : follow low (regions_of m) ≡ true = rw r h in
    let d' = are-moved ram dst src unit (dst + unit) (unit * suc n) (are-rest ram dst unit (suc n) d) in
    let s' = are-moved ram dst src unit (src + unit) (unit * suc n) (are-rest ram src unit (suc n) s) in
    let pd = place-add ram low dst (unit * suc (suc n)) unit h d (second-in unit n u) in
    let ps = place-add ram low src (unit * suc (suc n)) unit h s (second-in unit n u) in
    let a = all-moved ram low dst src unit h (are-first ram dst unit (suc n) d) (are-first ram src unit (suc n) s) in
    all-up (suc n) m low (dst + unit) (src + unit) unit g u d' s' ∙ rw (r, pd, ps, a) refl

pub all-down : (n : ℕ) (ram : List Area) (low dst src unit : ℕ) → follow low (regions_of ram) ≡ true → 0 < unit → AreRam ram dst (unit * n) → AreRam ram src (unit * n) → all_bytes (copied_down ram dst src unit n) ≡ flat_down (all_bytes ram) (place (regions_of ram) dst) (place (regions_of ram) src) unit n
unfolding copied_down flat_down
all-down zero ram low dst src unit h u d s = refl
all-down (suc n) ram low dst src unit h u d s =
    let m = moved ram (dst + unit * n) (src + unit * n) unit in
    let r = regions-moved ram (dst + unit * n) (src + unit * n) unit in
    let g : follow low (regions_of m) ≡ true = rw r h in
    let d' = are-moved ram (dst + unit * n) (src + unit * n) unit dst (unit * n) (are-front ram dst unit n d) in
    let s' = are-moved ram (dst + unit * n) (src + unit * n) unit src (unit * n) (are-front ram src unit n s) in
    let pd = place-add ram low dst (unit * suc n) (unit * n) h d (last-in unit n u) in
    let ps = place-add ram low src (unit * suc n) (unit * n) h s (last-in unit n u) in
    let a = all-moved ram low (dst + unit * n) (src + unit * n) unit h (are-last ram dst unit n d) (are-last ram src unit n s) in
    all-down n m low dst src unit g u d' s' ∙ rw (r, a, pd, ps) refl

-- What stays where it was.

pub regions-up : (n : ℕ) (ram : List Area) (dst src unit : ℕ) → regions_of (copied_up ram dst src unit n) ≡ regions_of ram
unfolding copied_up
regions-up zero ram dst src unit = refl
regions-up (suc n) ram dst src unit = regions-up n (moved ram dst src unit) (dst + unit) (src + unit) unit ∙ regions-moved ram dst src unit

pub regions-down : (n : ℕ) (ram : List Area) (dst src unit : ℕ) → regions_of (copied_down ram dst src unit n) ≡ regions_of ram
unfolding copied_down
regions-down zero ram dst src unit = refl
regions-down (suc n) ram dst src unit = regions-down n (moved ram (dst + unit * n) (src + unit * n) unit) dst src unit ∙ regions-moved ram (dst + unit * n) (src + unit * n) unit

pub regions-filled : (n : ℕ) (ram : List Area) (pa : ℕ) (unit : List ℕ) → regions_of (filled ram pa unit n) ≡ regions_of ram
unfolding filled
regions-filled zero ram pa unit = refl
regions-filled (suc n) ram pa unit = regions-filled n (put_bytes ram pa unit) (pa + length unit) unit ∙ regions-puts ram pa unit

-- Whole slices.

pub sets-append : (xs ys zs : List ℕ) (i : ℕ) → sets xs i (ys ++ zs) ≡ sets (sets xs i ys) (i + length ys) zs
sets-append xs [] zs i = let e : i + 0 ≡ i = omega arith in rw e refl
sets-append xs (y ∷ ys) zs i = let e : i + suc (length ys) ≡ suc i + length ys = omega arith in rw e (sets-append (set xs i y) ys zs (suc i))

-- a part behind the written one, and one in front of it
pub drop-sets : (xs ys : List ℕ) (i n : ℕ) → i + length ys ≤ n → drop n (sets xs i ys) ≡ drop n xs
drop-sets xs [] i n h = refl
drop-sets xs (y ∷ ys) i n h = drop-sets (set xs i y) ys (suc i) n (omega arith) ∙ drop-set-lt n xs i y (omega arith)

pub take-sets : (xs ys : List ℕ) (i n : ℕ) → n ≤ i → take n (sets xs i ys) ≡ take n xs
take-sets xs [] i n h = refl
take-sets xs (y ∷ ys) i n h = take-sets (set xs i y) ys (suc i) n (omega arith) ∙ take-set-le n xs i y h

pub part-sets : (xs ys : List ℕ) (i at n : ℕ) → at + n ≤ i → take n (drop at (sets xs i ys)) ≡ take n (drop at xs)
part-sets xs ys i at n h = sym (drop-take at n (sets xs i ys)) ∙ ap (λ zs. drop at zs) (take-sets xs ys i (at + n) h) ∙ drop-take at n xs

take-nil : (n : ℕ) → take {A = ℕ} n [] ≡ []
take-nil zero = refl
take-nil (suc n) = refl

-- writes to places apart, in either order
set-sets : (xs ys : List ℕ) (i j a : ℕ) → i < j → set (sets xs j ys) i a ≡ sets (set xs i a) j ys
set-sets xs [] i j a h = refl
set-sets xs (y ∷ ys) i j a h = set-sets (set xs j y) ys i (suc j) a (omega arith) ∙ ap (λ zs. sets zs (suc j) ys) (set_comm xs j i y a (λ e. omega arith))

pub sets-sets : (xs ys zs : List ℕ) (i j : ℕ) → i + length ys ≤ j → sets (sets xs j zs) i ys ≡ sets (sets xs i ys) j zs
sets-sets xs [] zs i j h = refl
sets-sets xs (y ∷ ys) zs i j h = ap (λ us. sets us (suc i) ys) (set-sets xs zs i j y (omega arith)) ∙ sets-sets (set xs i y) ys zs (suc i) j (omega arith)

-- two parts that stand one behind another
pub take-two : (n m : ℕ) (xs : List ℕ) → take (n + m) xs ≡ take n xs ++ take m (drop n xs)
take-two zero m xs = let e : 0 + m ≡ m = omega arith in rw e refl
take-two (suc n) m [] = let e : suc n + m ≡ suc (n + m) = omega arith in rw (e, take-nil m) refl
take-two (suc n) m (x ∷ xs) = let e : suc n + m ≡ suc (n + m) = omega arith in rw e (ap (λ zs. x ∷ zs) (take-two n m xs))

-- a copy upwards whose writes don't meet a later read
pub up-whole : (n : ℕ) (xs : List ℕ) (to from unit : ℕ) → to + unit * n ≤ length xs → from + unit * n ≤ length xs → (to ≤ from) ⊎ (from + unit * n ≤ to) → flat_up xs to from unit n ≡ sets xs to (take (unit * n) (drop from xs))
unfolding flat_up
up-whole zero xs to from unit t f apart = let e : unit * 0 ≡ 0 = omega arith in rw e refl
up-whole (suc n) xs to from unit t f apart =
    let e : unit * suc n ≡ unit + unit * n = mul-suc unit n ∙ omega arith in
    let part = take unit (drop from xs) in
    let len : length part ≡ unit = omega (arith, length-take unit (drop from xs), length-drop from xs) in
    let same : take (unit * n) (drop (from + unit) (sets xs to part)) ≡ take (unit * n) (drop (from + unit) xs) = elim apart [
      | inl l ↦ ap (λ zs. take (unit * n) zs) (drop-sets xs part to (from + unit) (omega arith))
      | inr l ↦ part-sets xs part to (from + unit) (unit * n) (omega arith)
    ] in
    let later : (to + unit ≤ from + unit) ⊎ (from + unit + unit * n ≤ to + unit) = elim apart [ inl l ↦ inl (omega arith) | inr l ↦ inr (omega arith) ] in
    let size = length-sets xs part to in
    let i = up-whole n (sets xs to part) (to + unit) (from + unit) unit (omega arith) (omega arith) later in
    let two : take (unit * suc n) (drop from xs) ≡ part ++ take (unit * n) (drop (from + unit) xs) = rw (e, take-two unit (unit * n) (drop from xs), drop-drop unit from xs) refl in
    i ∙ rw (two, sets-append xs part (take (unit * n) (drop (from + unit) xs)) to, len, same) refl

-- a copy downwards whose writes don't meet a later read
pub down-whole : (n : ℕ) (xs : List ℕ) (to from unit : ℕ) → to + unit * n ≤ length xs → from + unit * n ≤ length xs → (from ≤ to) ⊎ (to + unit * n ≤ from) → flat_down xs to from unit n ≡ sets xs to (take (unit * n) (drop from xs))
unfolding flat_down
down-whole zero xs to from unit t f apart = let e : unit * 0 ≡ 0 = omega arith in rw e refl
down-whole (suc n) xs to from unit t f apart =
    let e : unit * suc n ≡ unit * n + unit = mul-suc unit n in
    let part = take unit (drop (from + unit * n) xs) in
    let len : length part ≡ unit = omega (arith, length-take unit (drop (from + unit * n) xs), length-drop (from + unit * n) xs) in
    let front = take (unit * n) (drop from xs) in
    let front_len : length front ≡ unit * n = omega (arith, length-take (unit * n) (drop from xs), length-drop from xs) in
    let same : take (unit * n) (drop from (sets xs (to + unit * n) part)) ≡ front = elim apart [
      | inl l ↦ part-sets xs part (to + unit * n) from (unit * n) (omega arith)
      | inr l ↦ ap (λ zs. take (unit * n) zs) (drop-sets xs part (to + unit * n) from (omega arith))
    ] in
    let later : (from ≤ to) ⊎ (to + unit * n ≤ from) = elim apart [ inl l ↦ inl l | inr l ↦ inr (omega arith) ] in
    let size = length-sets xs part (to + unit * n) in
    let i = down-whole n (sets xs (to + unit * n) part) to from unit (omega arith) (omega arith) later in
    let two : take (unit * suc n) (drop from xs) ≡ front ++ part = rw (e, take-two (unit * n) unit (drop from xs), drop-drop (unit * n) from xs) refl in
    i ∙ rw (two, sets-append xs front part to, front_len, same) (sets-sets xs front part to (to + unit * n) (omega arith))

-- Fills.

pub puts-append : (ram : List Area) (pa : ℕ) (xs ys : List ℕ) → put_bytes ram pa (xs ++ ys) ≡ put_bytes (put_bytes ram pa xs) (pa + length xs) ys
unfolding put_bytes
puts-append ram pa [] ys = let e : pa + 0 ≡ pa = omega arith in rw e refl
puts-append ram pa (x ∷ xs) ys = let e : pa + suc (length xs) ≡ pa + 1 + length xs = omega arith in rw e (puts-append (put_byte ram pa x) (pa + 1) xs ys)

-- a fill is one write of all the units
pub filled-whole : (n : ℕ) (ram : List Area) (pa : ℕ) (unit : List ℕ) → filled ram pa unit n ≡ put_bytes ram pa (repeated unit n)
unfolding filled repeated put_bytes
filled-whole zero ram pa unit = refl
filled-whole (suc n) ram pa unit = filled-whole n (put_bytes ram pa unit) (pa + length unit) unit ∙ sym (puts-append ram pa unit (repeated unit n))

pub length-repeated : (unit : List ℕ) (n : ℕ) → length (repeated unit n) ≡ length unit * n
unfolding repeated
length-repeated unit zero = let e : length unit * 0 ≡ 0 = omega arith in rw e refl
length-repeated unit (suc n) = omega (arith, length-append unit (repeated unit n), length-repeated unit n, mul-suc (length unit) n)

pub repeated-add : (unit : List ℕ) (n m : ℕ) → repeated unit (n + m) ≡ repeated unit n ++ repeated unit m
unfolding repeated
repeated-add unit zero m = let e : 0 + m ≡ m = omega arith in rw e refl
repeated-add unit (suc n) m = let e : suc n + m ≡ suc (n + m) = omega arith in rw e (ap (λ zs. unit ++ zs) (repeated-add unit n m) ∙ sym (append_assoc unit (repeated unit n) (repeated unit m)))

-- the first units of more of them
pub take-repeated : (unit : List ℕ) (n m : ℕ) → n ≤ m → take (length unit * n) (repeated unit m) ≡ repeated unit n
take-repeated unit n m h =
    let e : m ≡ n + (m - n) = omega arith in
    rw (e, repeated-add unit n (m - n)) (take_at (repeated unit n) (repeated unit (m - n)) (length unit * n) (length-repeated unit n))

-- The copies and the fill behind the fields of a guest memory.

module _ (rs : List Region) (bs : List ℕ) (ram : List Area) (whole : IsWhole rs bs) (view : areas_of rs bs ≡ ram) where
  pub up-view : (dst src unit n : ℕ) → 0 < unit → AreRam ram dst (unit * n) → AreRam ram src (unit * n) → areas_of rs (flat_up bs (place rs dst) (place rs src) unit n) ≡ copied_up ram dst src unit n
  up-view dst src unit n u d s = areas-view rs bs ram whole view (copied_up ram dst src unit n) _ (regions-up n ram dst src unit) (rw (all-up n ram 0 dst src unit (follow-view rs bs ram whole view) u d s, regions-view rs bs ram whole view, bytes-view rs bs ram whole view) refl)

  pub down-view : (dst src unit n : ℕ) → 0 < unit → AreRam ram dst (unit * n) → AreRam ram src (unit * n) → areas_of rs (flat_down bs (place rs dst) (place rs src) unit n) ≡ copied_down ram dst src unit n
  down-view dst src unit n u d s = areas-view rs bs ram whole view (copied_down ram dst src unit n) _ (regions-down n ram dst src unit) (rw (all-down n ram 0 dst src unit (follow-view rs bs ram whole view) u d s, regions-view rs bs ram whole view, bytes-view rs bs ram whole view) refl)

  pub fill-view : (pa : ℕ) (unit : List ℕ) (n : ℕ) → AreRam ram pa (length unit * n) → areas_of rs (sets bs (place rs pa) (repeated unit n)) ≡ filled ram pa unit n
  fill-view pa unit n are =
      let len = length-repeated unit n in
      let are' : AreRam ram pa (length (repeated unit n)) = rw len are in
      store-view rs bs ram whole view pa (repeated unit n) are' ∙ sym (filled-whole n ram pa unit)

pub length-flat_up : (n : ℕ) (xs : List ℕ) (to from unit : ℕ) → length (flat_up xs to from unit n) ≡ length xs
unfolding flat_up
length-flat_up zero xs to from unit = refl
length-flat_up (suc n) xs to from unit = length-flat_up n (sets xs to (take unit (drop from xs))) (to + unit) (from + unit) unit ∙ length-sets xs (take unit (drop from xs)) to

pub length-flat_down : (n : ℕ) (xs : List ℕ) (to from unit : ℕ) → length (flat_down xs to from unit n) ≡ length xs
unfolding flat_down
length-flat_down zero xs to from unit = refl
length-flat_down (suc n) xs to from unit = length-flat_down n (sets xs (to + unit * n) (take unit (drop (from + unit * n) xs))) to from unit ∙ length-sets xs (take unit (drop (from + unit * n) xs)) (to + unit * n)

-- a part of a slice that was copied within it
pub paste-sets : (xs : List ℕ) (to from n m : ℕ) → to + n ≤ length xs → from + n ≤ length xs → m ≡ n → take to xs ++ take m (drop from xs) ++ drop (to + m) xs ≡ sets xs to (take n (drop from xs))
paste-sets xs to from n m t f e =
    let len : length (take n (drop from xs)) ≡ n = omega (arith, length-take n (drop from xs), length-drop from xs) in
    rw (e, sets-eq (take n (drop from xs)) xs to (omega arith), len) refl

pub vec-with : (v : Vec ℕ Global) (xs ys : List ℕ) → length xs ≡ v.len → ys ≡ xs → (with_items v ys).items ≡ xs
vec-with v xs ys l e = with_items_is v ys (ap length e ∙ l) ∙ e

-- The steps of the loops.

pub part-in : (unit k count : ℕ) → k < count → unit * k + unit ≤ unit * count
part-in unit k count h = grind arith

pub up-step : (xs : List ℕ) (to from unit count k : ℕ) → k < count → flat_up (sets xs (to + unit * k) (take unit (drop (from + unit * k) xs))) (to + unit * (k + 1)) (from + unit * (k + 1)) unit (count - (k + 1)) ≡ flat_up xs (to + unit * k) (from + unit * k) unit (count - k)
unfolding flat_up
up-step xs to from unit count k h =
    let e : count - k ≡ suc (count - (k + 1)) = omega arith in
    let m : unit * (k + 1) ≡ unit * k + unit = grind arith in
    let a : to + unit * (k + 1) ≡ to + unit * k + unit = omega arith in
    let b : from + unit * (k + 1) ≡ from + unit * k + unit = omega arith in
    rw (e, a, b) refl

pub down-step : (xs : List ℕ) (to from unit left : ℕ) → 0 < left → flat_down (sets xs (to + unit * (left - 1)) (take unit (drop (from + unit * (left - 1)) xs))) to from unit (left - 1) ≡ flat_down xs to from unit left
unfolding flat_down
down-step xs to from unit (suc n) h = let e : suc n - 1 ≡ n = omega arith in rw e refl
down-step xs to from unit zero h = absurd (omega arith)

pub up-none : (xs : List ℕ) (to from unit n : ℕ) → n ≡ 0 → flat_up xs to from unit n ≡ xs
unfolding flat_up
up-none xs to from unit n e = rw e refl

pub down-none : (xs : List ℕ) (to from unit n : ℕ) → n ≡ 0 → flat_down xs to from unit n ≡ xs
unfolding flat_down
down-none xs to from unit n e = rw e refl

-- the part that is filled grows by as many units as are copied behind it
pub repeat-step : (out unit : List ℕ) (done more count m : ℕ) → length out ≡ length unit * count → take (length unit * done) out ≡ repeated unit done → more ≤ done → done + more ≤ count → m ≡ length unit * more → take (length unit * (done + more)) (take (done * length unit) out ++ take m out ++ drop (done * length unit + m) out) ≡ repeated unit (done + more)
repeat-step out unit done more count m len filled le few e =
    let d : done * length unit ≡ length unit * done = grind arith in
    let p : length unit * more ≤ length unit * done = grind arith in
    let b : take (length unit * more) out ≡ repeated unit more = sym (take-take (length unit * more) (length unit * done) out p) ∙ ap (λ xs. take (length unit * more) xs) filled ∙ take-repeated unit more done le in
    rw (d, e, filled, b, ← repeated-add unit done more) (take_at (repeated unit (done + more)) _ (length unit * (done + more)) (length-repeated unit (done + more)))

pub repeat-in : (n done more count : ℕ) → done + more ≤ count → done * n + more * n ≤ n * count
repeat-in n done more count h =
    let e : count ≡ done + more + (count - (done + more)) = omega arith in
    rw e (grind arith)

pub repeated-none : (unit : List ℕ) (n : ℕ) → n ≡ 0 → repeated unit n ≡ []
unfolding repeated
repeated-none unit n e = rw e refl

pub repeated-one : (unit : List ℕ) → repeated unit 1 ≡ unit
unfolding repeated
repeated-one unit = append-nil unit

pub unit-some : (n : ℕ) → IsUnit n → 0 < n
unit-some n (inl (inl e)) = omega arith
unit-some n (inl (inr e)) = omega arith
unit-some n (inr (inl e)) = omega arith
unit-some n (inr (inr e)) = omega arith

pub count-le : (n count : ℕ) → 0 < n → count ≤ n * count
count-le (suc n) count h = omega (arith, suc-mul n count)
count-le zero count h = absurd (omega arith)
