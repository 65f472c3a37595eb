use Rattle.std.proofs.Common.{ℕ, zero, suc, ◌≡◌, ◌<◌, ◌≤◌, ◌+◌, ◌-◌, ◌%◌, ◌^◌, List, [], ◌∷◌, ◌++◌, All, refl, sym, ap, ◌∙◌, arith, inl, inr, append-nil}
use Rattle.std.specs.List.{range_with_len}
use Rattle.std.proofs.Math.Nat.{mod-eq_of_lt, zero-mod}
use Rattle.std.proofs.Math.Pow.{mod-mod-pow}
use Rattle.std.proofs.lemmas.Bool.{cases_lt}
use Rattle.std.proofs.lemmas.List.Elements.{All-nil, All-cons}
use Rattle.xe_ctx.specs.Chunks.{first_size, chunks_from, chunks, addresses_of, places_of}
use Rattle.xe_ctx.specs.Memory.{Piece, pieces, piece_places, next_page, IsInPage, IsPieceOf}
use Rattle.xe_ctx.proofs.Cut.{first-small, first-pos}
use Rattle.xe_ctx.proofs.Pieces.{one-piece, two-pieces}

-- numbers in order, in two parts
range-append : (a k m : ℕ) → range_with_len a k ++ range_with_len (a + k) m ≡ range_with_len a (k + m)
range-append a zero m = let e : a + 0 ≡ a = omega arith in let f : 0 + m ≡ m = omega arith in rw (e, f) refl
range-append a (suc k) m =
    let e : a + suc k ≡ a + 1 + k = omega arith in
    let f : suc k + m ≡ suc (k + m) = omega arith in
    rw (e, f) (ap (λ (xs : List ℕ). a ∷ xs) (range-append (a + 1) k m))

range-parts : (a k n : ℕ) → k ≤ n → range_with_len a k ++ range_with_len (a + k) (n - k) ≡ range_with_len a n
range-parts a k n h = let e : k + (n - k) ≡ n = omega arith in range-append a k (n - k) ∙ ap (λ (m : ℕ). range_with_len a m) e

-- ---- chunks

from-addresses : (steps pa at n : ℕ) → n ≤ steps → addresses_of (chunks_from steps pa at n) ≡ range_with_len pa n
unfolding chunks_from
from-addresses zero pa at n h = let e : n ≡ 0 = omega arith in rw e refl
from-addresses (suc k) pa at zero h = refl
from-addresses (suc k) pa at (suc m) h =
    let s = first-small pa (suc m) (omega arith) in
    let p = first-pos pa (suc m) in
    ap (λ (xs : List ℕ). range_with_len pa (first_size pa (suc m)) ++ xs) (from-addresses k (pa + first_size pa (suc m)) (at + first_size pa (suc m)) (suc m - first_size pa (suc m)) (omega arith))
    ∙ range-parts pa (first_size pa (suc m)) (suc m) s

from-places : (steps pa at n : ℕ) → n ≤ steps → places_of (chunks_from steps pa at n) ≡ range_with_len at n
unfolding chunks_from
from-places zero pa at n h = let e : n ≡ 0 = omega arith in rw e refl
from-places (suc k) pa at zero h = refl
from-places (suc k) pa at (suc m) h =
    let s = first-small pa (suc m) (omega arith) in
    let p = first-pos pa (suc m) in
    ap (λ (xs : List ℕ). range_with_len at (first_size pa (suc m)) ++ xs) (from-places k (pa + first_size pa (suc m)) (at + first_size pa (suc m)) (suc m - first_size pa (suc m)) (omega arith))
    ∙ range-parts at (first_size pa (suc m)) (suc m) s

pub chunk_addresses : (pa n : ℕ) → addresses_of (chunks pa n) ≡ range_with_len pa n
unfolding chunks
chunk_addresses pa n = from-addresses n pa 0 n (omega arith)

pub chunk_places : (pa n : ℕ) → places_of (chunks pa n) ≡ range_with_len 0 n
unfolding chunks
chunk_places pa n = from-places n pa 0 n (omega arith)

-- ---- pieces

all-one : (P : Piece → Type 0) (p : Piece) → P p → All P (p ∷ [])
all-one P p h = All-cons P p [] h (All-nil P)

all-two : (P : Piece → Type 0) (p q : Piece) → P p → P q → All P (p ∷ q ∷ [])
all-two P p q h g = All-cons P p (q ∷ []) h (all-one P q g)

-- the next page begins at a multiple of 4096
next-starts : (bits la : ℕ) → next_page bits la % 4096 ≡ 0
next-starts bits la =
    let x : (la + (4096 - la % 4096)) % 2 ^ 12 ≡ 0 = omega arith in
    elim (cases_lt bits 12) [
      | inl m ↦
          let j : 12 - bits + bits ≡ 12 = omega arith in
          let f : (la + (4096 - la % 4096)) % 2 ^ bits ≡ 0 = sym (mod-mod-pow (la + (4096 - la % 4096)) (12 - bits) bits) ∙ ap (λ k. (la + (4096 - la % 4096)) % 2 ^ k % 2 ^ bits) j ∙ ap (λ r. r % 2 ^ bits) x ∙ zero-mod (2 ^ bits) in
          rw f refl
      | inr m ↦
          let j : bits - 12 + 12 ≡ bits = omega arith in
          ap (λ k. (la + (4096 - la % 4096)) % 2 ^ k % 4096) (sym j) ∙ mod-mod-pow (la + (4096 - la % 4096)) (bits - 12) 12 ∙ x
    ]

pub pieces_in_page : (bits la n : ℕ) → n ≤ 4096 → All IsInPage (pieces bits la n)
pieces_in_page bits la n h = elim (cases_lt (4096 - la % 4096) n) [
  | inl m ↦ let k : next_page bits la % 4096 ≡ 0 = next-starts bits la in rw (two-pieces bits la n m) (all-two IsInPage _ _ (omega arith) (omega arith))
  | inr m ↦ rw (one-piece bits la n m) (all-one IsInPage _ (omega arith))
]

pub pieces_of : (bits la n : ℕ) → la < 2 ^ bits → All (IsPieceOf bits la) (pieces bits la n)
pieces_of bits la n h =
    let z : la + 0 ≡ la = omega arith in
    let whole : la ≡ (la + 0) % 2 ^ bits = rw z (sym (mod-eq_of_lt h)) in
    elim (cases_lt (4096 - la % 4096) n) [
      | inl m ↦ rw (two-pieces bits la n m) (all-two (IsPieceOf bits la) _ _ whole refl)
      | inr m ↦ rw (one-piece bits la n m) (all-one (IsPieceOf bits la) _ whole)
    ]

pub pieces_places : (bits la n : ℕ) → piece_places (pieces bits la n) ≡ range_with_len 0 n
pieces_places bits la n = elim (cases_lt (4096 - la % 4096) n) [
  | inl m ↦ let e : 0 + (4096 - la % 4096) ≡ 4096 - la % 4096 = omega arith in rw (two-pieces bits la n m, append-nil) (rw e at (range-parts 0 (4096 - la % 4096) n (omega arith)))
  | inr m ↦ rw (one-piece bits la n m) (append-nil (range_with_len 0 n))
]
