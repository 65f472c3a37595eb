use Rattle.std.proofs.Common.{ℕ, zero, suc, ◌≡◌, ◌<◌, ◌≤◌, ◌+◌, ◌-◌, ◌%◌, List, [], ◌∷◌, ◌++◌, length, drop, get_or, subst, refl, sym, ap, ◌∙◌, arith, add-one, append_assoc, Bool, true, false, ◌&&◌, nat_lt, if◌then◌else◌, ◌==◌}
use Rattle.std.proofs.lemmas.List.{append-nil, length-append, drop_all}
use Rattle.std.proofs.Math.Seq.{drop-cons}
use Rattle.std.proofs.lemmas.Bool.{cases_lt}
use Rattle.std.proofs.Common.{inl, inr}
use Rattle.std.proofs.lemmas.Bool.Decides.{nat_tests}
use Rattle.xe_ctx.specs.Chunks.{first_size, chunks_from, chunks, Within, is_size, most}
use Rattle.xe_base.specs.Access.{is_size_in}
use Rattle.xe_base.specs.declared.access.Space.TheVariants.{Mem}
use Rattle.xe_ctx.specs.declared.chunk.Chunk.{Chunk}

pub first-small : (pa n : ℕ) → 0 < n → first_size pa n ≤ n
unfolding first_size
first-small pa n h = grind (arith, nat_tests)

pub first-pos : (pa n : ℕ) → 0 < first_size pa n
unfolding first_size
first-pos pa n = grind (arith, nat_tests)

pub first-mod : (pa n : ℕ) → first_size (pa % 8) n ≡ first_size pa n
unfolding first_size
first-mod pa n =
    let a : pa % 8 % 8 ≡ pa % 8 = omega arith in
    let b : pa % 8 % 4 ≡ pa % 4 = omega arith in
    let d : pa % 8 % 2 ≡ pa % 2 = omega arith in
    rw (a, b, d) refl

-- enough steps are all the same
pub from-enough : (j k pa at n : ℕ) → n ≤ j → n ≤ k → chunks_from j pa at n ≡ chunks_from k pa at n
unfolding chunks_from
from-enough zero zero pa at n p q = refl
from-enough zero (suc k) pa at zero p q = refl
from-enough zero (suc k) pa at (suc n) p q = absurd (omega arith)
from-enough (suc j) zero pa at zero p q = refl
from-enough (suc j) zero pa at (suc n) p q = absurd (omega arith)
from-enough (suc j) (suc k) pa at zero p q = refl
from-enough (suc j) (suc k) pa at (suc n) p q =
    let s : 0 < first_size pa (suc n) = first-pos pa (suc n) in
    ap (λ cs. record { pa = pa; at = at; size = first_size pa (suc n) } ∷ cs) (from-enough j k _ _ _ (omega arith) (omega arith))

-- the first chunk, and the rest
pub from-step : (pa at n : ℕ) → 0 < n → chunks_from n pa at n ≡ record { pa = pa; at = at; size = first_size pa n } ∷ chunks_from (n - first_size pa n) (pa + first_size pa n) (at + first_size pa n) (n - first_size pa n)
unfolding chunks_from
from-step pa at zero h = absurd (omega arith)
from-step pa at (suc n) h =
    let s : 0 < first_size pa (suc n) = first-pos pa (suc n) in
    ap (λ cs. record { pa = pa; at = at; size = first_size pa (suc n) } ∷ cs) (from-enough n (suc n - first_size pa (suc n)) _ _ _ (omega arith) (omega arith))

pub from-none : (steps pa at : ℕ) → chunks_from steps pa at 0 ≡ []
unfolding chunks_from
from-none zero pa at = refl
from-none (suc k) pa at = refl

-- how many chunks, by the address modulo 8
pub count : ℕ → ℕ → ℕ → ℕ
count zero r n = 0
count (suc steps) r zero = 0
count (suc steps) r (suc m) = suc (count steps ((r + first_size r (suc m)) % 8) (suc m - first_size r (suc m)))

pub length-from : (steps pa at n : ℕ) → length (chunks_from steps pa at n) ≡ count steps (pa % 8) n
unfolding chunks_from count
length-from zero pa at n = refl
length-from (suc k) pa at zero = refl
length-from (suc k) pa at (suc m) =
    let e : first_size (pa % 8) (suc m) ≡ first_size pa (suc m) = first-mod pa (suc m) in
    let f : (pa + first_size pa (suc m)) % 8 ≡ (pa % 8 + first_size pa (suc m)) % 8 = omega arith in
    rw (e, ← f) (ap suc (length-from k (pa + first_size pa (suc m)) (at + first_size pa (suc m)) (suc m - first_size pa (suc m))))

abbrev all_below : ℕ → (ℕ → Bool) → Bool
all_below zero p = true
all_below (suc n) p = p n && all_below n p

both : (a b : Bool) → a && b ≡ true → (a ≡ true) × (b ≡ true)
both true b h = (refl, h)
both false b h = cc

below-holds : (n : ℕ) (p : ℕ → Bool) → all_below n p ≡ true → (k : ℕ) → k < n → p k ≡ true
below-holds zero p h k l = absurd (omega arith)
below-holds (suc n) p h k l =
    let two = both (p n) (all_below n p) h in
    elim (cases_lt k n) [
      | inl m ↦ below-holds n p two.1 k m
      | inr m ↦ let e : k ≡ n = omega arith in rw e two.0
    ]

-- n bytes are at most so many chunks, wherever they lie
few : ℕ → Bool
few n = all_below 8 (λ r. nat_lt (count n r n) 7)

few-all : all_below 17 few ≡ true
unfolding few count first_size
few-all = refl

few-at : (r n : ℕ) → r < 8 → n < 17 → nat_lt (count n r n) 7 ≡ true
unfolding few
few-at r n h l = below-holds 8 (λ r. nat_lt (count n r n) 7) (below-holds 17 few few-all n l) r h

pub length-chunks : (pa n : ℕ) → n ≤ 16 → length (chunks pa n) ≤ 6
unfolding chunks
length-chunks pa n h =
    let e = few-at (pa % 8) n (omega arith) (omega arith) in
    rw (length-from n pa 0 n) (grind (arith, nat_tests))

-- a loop that cuts: what it has and what is left are all
pub cut-start : (pa n : ℕ) → chunks_from n (pa + 0) 0 n ≡ chunks pa n
unfolding chunks
cut-start pa n = let e : pa + 0 ≡ pa = omega arith in rw e refl

pub cut-room : (all : List Chunk) (pa at n m : ℕ) → n ≤ 16 → 0 < m → all ++ chunks_from m (pa + at) at m ≡ chunks pa n → length all < 6
cut-room all pa at n m small more e =
    let a : length (all ++ chunks_from m (pa + at) at m) ≤ 6 = rw e (length-chunks pa n small) in
    let b : length (chunks_from m (pa + at) at m) ≡ suc (length (chunks_from (m - first_size (pa + at) m) (pa + at + first_size (pa + at) m) (at + first_size (pa + at) m) (m - first_size (pa + at) m))) = ap length (from-step (pa + at) at m more) in
    let d = length-append all (chunks_from m (pa + at) at m) in
    omega arith

pub cut-step : (all : List Chunk) (pa at n : ℕ) → at < n → all ++ chunks_from (n - at) (pa + at) at (n - at) ≡ chunks pa n → (all ++ record { pa = pa + at; at = at; size = first_size (pa + at) (n - at) } ∷ []) ++ chunks_from (n - (at + first_size (pa + at) (n - at))) (pa + (at + first_size (pa + at) (n - at))) (at + first_size (pa + at) (n - at)) (n - (at + first_size (pa + at) (n - at))) ≡ chunks pa n
cut-step all pa at n h e =
    let a : n - (at + first_size (pa + at) (n - at)) ≡ n - at - first_size (pa + at) (n - at) = omega arith in
    let b : pa + (at + first_size (pa + at) (n - at)) ≡ pa + at + first_size (pa + at) (n - at) = omega arith in
    rw (a, b, append_assoc) (ap (λ cs. all ++ cs) (sym (from-step (pa + at) at (n - at) (omega arith))) ∙ e)

pub cut-done : (all : List Chunk) (pa at n : ℕ) → n ≤ at → all ++ chunks_from (n - at) (pa + at) at (n - at) ≡ chunks pa n → all ≡ chunks pa n
cut-done all pa at n h e =
    let a : n - at ≡ 0 = omega arith in
    let b : all ++ [] ≡ chunks pa n = rw (← from-none 0 (pa + at) at, ← a) e in
    sym (append-nil all) ∙ b

pub ruleset cut_rules = (first-small, first-pos, cut-start, cut-room, cut-step, cut-done)

-- the chunks lie one behind another, from a place to the end of the access
pub record Tile (at n : ℕ) (c : Chunk) : Type 0 where
  pub place : c.at ≡ at
  pub within : Within n c

pub Tiles : ℕ → ℕ → List Chunk → Type 0
Tiles at n [] = at ≡ n
Tiles at n (c ∷ cs) = Tile at n c × Tiles (at + c.size) n cs

sized : (a b c : Bool) → is_size_in Mem (if a then 8 else (if b then 4 else (if c then 2 else 1))) ≡ true
sized true b c = refl
sized false true c = refl
sized false false true = refl
sized false false false = refl

first-sized : (pa n : ℕ) → is_size_in Mem (first_size pa n) ≡ true
unfolding first_size
first-sized pa n = sized (nat_lt 7 n && (pa % 8 == 0)) (nat_lt 3 n && (pa % 4 == 0)) (nat_lt 1 n && (pa % 2 == 0))

-- a size of a chunk is at most 8
pub size-small : (n : ℕ) → is_size_in Mem n ≡ true → n ≤ 8
size-small n h = grind (arith, nat_tests)

tiles-from : (steps pa at n : ℕ) → n ≤ steps → Tiles at (at + n) (chunks_from steps pa at n)
unfolding Tiles chunks_from
tiles-from zero pa at n h = omega arith
tiles-from (suc k) pa at zero h = omega arith
tiles-from (suc k) pa at (suc m) h =
    let s = first-small pa (suc m) (omega arith) in
    let p = first-pos pa (suc m) in
    let e : at + first_size pa (suc m) + (suc m - first_size pa (suc m)) ≡ at + suc m = omega arith in
    let rest = tiles-from k (pa + first_size pa (suc m)) (at + first_size pa (suc m)) (suc m - first_size pa (suc m)) (omega arith) in
    (record { place = refl; within = record { size = first-sized pa (suc m); inside = omega arith } }, subst (λ t. Tiles (at + first_size pa (suc m)) t (chunks_from k (pa + first_size pa (suc m)) (at + first_size pa (suc m)) (suc m - first_size pa (suc m)))) e rest)

pub tiles-chunks : (pa n : ℕ) → Tiles 0 n (chunks pa n)
unfolding chunks
tiles-chunks pa n = let e : 0 + n ≡ n = omega arith in subst (λ t. Tiles 0 t (chunks_from n pa 0 n)) e (tiles-from n pa 0 n (omega arith))

tile-now : (at n : ℕ) (c : Chunk) (cs : List Chunk) → Tiles at n (c ∷ cs) → Tile at n c
unfolding Tiles
tile-now at n c cs t = t.0

tile-rest : (at n : ℕ) (c : Chunk) (cs : List Chunk) → Tiles at n (c ∷ cs) → Tiles (at + c.size) n cs
unfolding Tiles
tile-rest at n c cs t = t.1

pub tiles-at : (cs : List Chunk) (i at n : ℕ) (d : Chunk) → i < length cs → Tiles at n (drop i cs) → Tile at n (get_or cs i d)
tiles-at cs i at n d h t = tile-now at n (get_or cs i d) (drop (suc i) cs) (subst (Tiles at n) (drop-cons cs i d h) t)

pub tiles-more : (cs : List Chunk) (i at n : ℕ) (d : Chunk) → i < length cs → Tiles at n (drop i cs) → Tiles (at + (get_or cs i d).size) n (drop (i + 1) cs)
tiles-more cs i at n d h t = rw add-one (tile-rest at n (get_or cs i d) (drop (suc i) cs) (subst (Tiles at n) (drop-cons cs i d h) t))

-- the same in the words of a loop over a slice that appends what it reads
pub tiles-step : {Y : Type 0} (cs slice : List Chunk) (out bytes new : List Y) (i n : ℕ) (d : Chunk) → slice ≡ cs → i < length slice → length bytes ≡ (get_or slice i d).size → new ≡ out ++ bytes → Tiles (length out) n (drop i cs) → Tiles (length new) n (drop (i + 1) cs)
tiles-step cs slice out bytes new i n d e h size more t =
    let k : i < length cs = rw (← e) h in
    let f : length new ≡ length out + (get_or cs i d).size = ap length more ∙ length-append out bytes ∙ rw (size, e) refl in
    rw f (tiles-more cs i (length out) n d k t)

pub tile-of : (cs slice : List Chunk) (i at n : ℕ) (d : Chunk) → slice ≡ cs → i < length slice → Tiles at n (drop i cs) → Tile at n (get_or slice i d)
tile-of cs slice i at n d e h t =
    let k : i < length cs = rw (← e) h in
    rw e (tiles-at cs i at n d k t)

pub tiles-end : (cs : List Chunk) (i at n : ℕ) → length cs ≤ i → Tiles at n (drop i cs) → at ≡ n
unfolding Tiles
tiles-end cs i at n h t = subst (Tiles at n) (drop_all i cs h) t

tiles-within : (cs : List Chunk) (at n : ℕ) → Tiles at n cs → (i : ℕ) (d : Chunk) → i < length cs → Within n (get_or cs i d)
unfolding Tiles
tiles-within [] at n t i d h = absurd (omega arith)
tiles-within (c ∷ cs) at n t zero d h = t.0.within
tiles-within (c ∷ cs) at n t (suc i) d h = tiles-within cs (at + c.size) n t.1 i d (omega arith)

pub chunk-within : (pa n i : ℕ) (d : Chunk) → i < length (chunks pa n) → Within n (get_or (chunks pa n) i d)
chunk-within pa n i d h = tiles-within (chunks pa n) 0 n (tiles-chunks pa n) i d h

-- each chunk lies at a multiple of its size
divides : (pa : ℕ) (a b c : Bool) → (a ≡ true → pa % 8 ≡ 0) → (b ≡ true → pa % 4 ≡ 0) → (c ≡ true → pa % 2 ≡ 0) → pa % (if a then 8 else (if b then 4 else (if c then 2 else 1))) ≡ 0
divides pa true b c p q r = p refl
divides pa false true c p q r = q refl
divides pa false false true p q r = r refl
divides pa false false false p q r = omega arith

both-1 : (a b : Bool) → a && b ≡ true → b ≡ true
both-1 true b h = h
both-1 false b h = cc

eq-zero : (a : ℕ) → (a == 0) ≡ true → a ≡ 0
eq-zero a h = grind (arith, nat_tests)

first-divides : (pa n : ℕ) → pa % first_size pa n ≡ 0
unfolding first_size
first-divides pa n = divides pa (nat_lt 7 n && (pa % 8 == 0)) (nat_lt 3 n && (pa % 4 == 0)) (nat_lt 1 n && (pa % 2 == 0)) (λ h. eq-zero _ (both-1 _ _ h)) (λ h. eq-zero _ (both-1 _ _ h)) (λ h. eq-zero _ (both-1 _ _ h))

from-aligned : (steps pa at n i : ℕ) (d : Chunk) → i < length (chunks_from steps pa at n) → (get_or (chunks_from steps pa at n) i d).pa % (get_or (chunks_from steps pa at n) i d).size ≡ 0
unfolding chunks_from
from-aligned zero pa at n i d h = absurd (omega arith)
from-aligned (suc k) pa at zero i d h = absurd (omega arith)
from-aligned (suc k) pa at (suc m) zero d h = first-divides pa (suc m)
from-aligned (suc k) pa at (suc m) (suc i) d h = from-aligned k (pa + first_size pa (suc m)) (at + first_size pa (suc m)) (suc m - first_size pa (suc m)) i d (omega arith)

pub chunk-aligned : (pa n i : ℕ) (d : Chunk) → i < length (chunks pa n) → (get_or (chunks pa n) i d).pa % (get_or (chunks pa n) i d).size ≡ 0
unfolding chunks
chunk-aligned pa n i d h = from-aligned n pa 0 n i d h

pub ruleset tile_rules = (tiles-chunks, tiles-end, tiles-step, tile-of, chunk-within)

-- an access of a size, whole or in two pieces at a page's end
implies : Bool → Bool → Bool
implies true b = b
implies false b = true

must : (a b : Bool) → implies a b ≡ true → a ≡ true → b ≡ true
unfolding implies
must true b h e = h
must false b h e = cc

within-most : ℕ → Bool
within-most n = implies (is_size n) (all_below 8 (λ r. nat_lt (count n r n) (most n + 1)))

within-most-all : all_below 17 within-most ≡ true
unfolding within-most implies count first_size
within-most-all = refl

two-most : ℕ → Bool
two-most n = implies (is_size n) (all_below n (λ k. nat_lt (count k ((8 - k % 8) % 8) k + count (n - k) 0 (n - k)) (most n + 1)))

two-most-all : all_below 17 two-most ≡ true
unfolding two-most implies count first_size
two-most-all = refl

lt-most : (a n : ℕ) → nat_lt a (n + 1) ≡ true → a ≤ n
lt-most a n h = grind (arith, nat_tests)

pub most-one : (pa n : ℕ) → is_size n ≡ true → n ≤ 16 → length (chunks pa n) ≤ most n
unfolding chunks within-most
most-one pa n s h =
    let m = must _ _ (below-holds 17 within-most within-most-all n (omega arith)) s in
    let t = below-holds 8 (λ r. nat_lt (count n r n) (most n + 1)) m (pa % 8) (omega arith) in
    rw (length-from n pa 0 n) (lt-most _ _ t)

pub most-two : (pa pb n k : ℕ) → is_size n ≡ true → n ≤ 16 → k < n → pa % 8 ≡ (8 - k % 8) % 8 → pb % 8 ≡ 0 → length (chunks pa k) + length (chunks pb (n - k)) ≤ most n
unfolding chunks two-most
most-two pa pb n k s h l a b =
    let m = must _ _ (below-holds 17 two-most two-most-all n (omega arith)) s in
    let t = below-holds n (λ k. nat_lt (count k ((8 - k % 8) % 8) k + count (n - k) 0 (n - k)) (most n + 1)) m k l in
    rw (length-from k pa 0 k, length-from (n - k) pb 0 (n - k), a, b) (lt-most _ _ t)
