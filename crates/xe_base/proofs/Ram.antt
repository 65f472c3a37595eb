use Rattle.std.proofs.Common.{ℕ, zero, suc, ◌≡◌, ◌<◌, ◌≤◌, ◌+◌, ◌-◌, List, [], ◌∷◌, ◌++◌, length, drop, take, set, refl, sym, ap, arith, Bool, true, false, ◌&&◌, nat_le, ◌%◌, ◌==◌, bit_or, slice_set, inl, inr, ◌⊎◌}
use Rattle.std.proofs.lemmas.List.{get_or-set_same, get_or-set_other, set-get_or, length-set}
use Rattle.std.proofs.Math.Seq.{drop-cons}
use Rattle.std.proofs.lemmas.Bool.{cases_eq, cases_Bool}
use Rattle.std.proofs.lemmas.Bool.Decides.{nat_tests}
use Rattle.xe_base.specs.Ram.{Area}
use Rattle.xe_base.specs.Ram.{holds, in_ram, byte_of, put_byte, bytes_of, put_bytes, in_one, AreRam, Apart, Paged, set_bits, ordered}

pub holds-at : (r : Area) (a : ℕ) → holds r a ≡ true → (r.start ≤ a) × (a < r.start + length r.bytes)
unfolding holds
holds-at r a h = (grind (arith, nat_tests), grind (arith, nat_tests))

holds-set : (r : Area) (i b c : ℕ) → holds (record r { bytes = slice_set r.bytes i b }) c ≡ holds r c
unfolding holds
holds-set r i b c = rw (length-set r.bytes i b) refl

held : (r : Area) (a : ℕ) → r.start ≤ a → a < r.start + length r.bytes → holds r a ≡ true
unfolding holds
held r a h l = grind (arith, nat_tests)

le-true : (a b : ℕ) → nat_le a b ≡ true → a ≤ b
le-true a b h = grind (arith, nat_tests)

-- a write changes nowhere what is RAM
pub in-put : (ram : List Area) (a b c : ℕ) → in_ram (put_byte ram a b) c ≡ in_ram ram c
unfolding in_ram put_byte
in-put [] a b c = refl
in-put (r ∷ rs) a b c = elim (cases_Bool (holds r a)) [
  | inl t ↦ rw (t, holds-set r (a - r.start) b c) refl
  | inr f ↦ rw (f, in-put rs a b c) refl
]

-- the byte that was written
pub byte-put_same : (ram : List Area) (a b : ℕ) → in_ram ram a ≡ true → byte_of (put_byte ram a b) a ≡ b
unfolding in_ram byte_of put_byte
byte-put_same [] a b h = cc
byte-put_same (r ∷ rs) a b h = elim (cases_Bool (holds r a)) [
  | inl t ↦ let at = holds-at r a t in rw (t, holds-set r (a - r.start) b a, t) (get_or-set_same r.bytes (a - r.start) b 0 (omega arith))
  | inr f ↦ let g = rw f at h in rw (f, f) (byte-put_same rs a b g)
]

-- each other byte stays
pub byte-put_other : (ram : List Area) (a b c : ℕ) → (c ≡ a → ⊥) → byte_of (put_byte ram a b) c ≡ byte_of ram c
unfolding byte_of put_byte
byte-put_other [] a b c ne = refl
byte-put_other (r ∷ rs) a b c ne = elim (cases_Bool (holds r a)) [
  | inl t ↦ rw (t, holds-set r (a - r.start) b c) (elim (cases_Bool (holds r c)) [
    | inl u ↦ let p = holds-at r a t in let q = holds-at r c u in rw (u) (get_or-set_other r.bytes (a - r.start) (c - r.start) b 0 (λ e. ne (omega arith)))
    | inr u ↦ rw (u) refl
  ])
  | inr f ↦ rw (f, byte-put_other rs a b c ne) refl
]

-- a byte written back
pub put-same : (ram : List Area) (a : ℕ) → put_byte ram a (byte_of ram a) ≡ ram
unfolding byte_of put_byte
put-same [] a = refl
put-same (r ∷ rs) a = elim (cases_Bool (holds r a)) [
  | inl t ↦ rw t (ap (λ bytes. (record r { bytes = bytes }) ∷ rs) (set-get_or r.bytes (a - r.start) 0))
  | inr f ↦ rw f (ap (λ xs. r ∷ xs) (put-same rs a))
]

pub length-bytes : (ram : List Area) (pa n : ℕ) → length (bytes_of ram pa n) ≡ n
unfolding bytes_of
length-bytes ram pa zero = refl
length-bytes ram pa (suc n) = ap suc (length-bytes ram (pa + 1) n)

-- a write outside the bytes that are read
pub bytes-put_out : (ram : List Area) (a b pa n : ℕ) → (a < pa) ⊎ (pa + n ≤ a) → bytes_of (put_byte ram a b) pa n ≡ bytes_of ram pa n
unfolding bytes_of
bytes-put_out ram a b pa zero h = refl
bytes-put_out ram a b pa (suc n) h =
    let head : byte_of (put_byte ram a b) pa ≡ byte_of ram pa = byte-put_other ram a b pa (λ e. omega (arith, h)) in
    let more : (a < pa + 1) ⊎ (pa + 1 + n ≤ a) = elim h [ inl l ↦ inl (omega arith) | inr l ↦ inr (omega arith) ] in
    rw (head, bytes-put_out ram a b (pa + 1) n more) refl

are-tail : (ram : List Area) (pa n : ℕ) → AreRam ram pa (suc n) → AreRam ram (pa + 1) n
are-tail ram pa n h = record { each = λ k l. let e : pa + 1 + k ≡ pa + suc k = omega arith in rw e (h.each (suc k) (omega arith)) }

are-head : (ram : List Area) (pa n : ℕ) → AreRam ram pa (suc n) → in_ram ram pa ≡ true
are-head ram pa n h = let e : pa + 0 ≡ pa = omega arith in rw e at (h.each 0 (omega arith))

-- a write to one of them
pub bytes-put_in : (ram : List Area) (a b pa n : ℕ) → AreRam ram pa n → pa ≤ a → a < pa + n → bytes_of (put_byte ram a b) pa n ≡ set (bytes_of ram pa n) (a - pa) b
unfolding bytes_of
bytes-put_in ram a b pa zero h l m = absurd (omega arith)
bytes-put_in ram a b pa (suc n) h l m = elim (cases_eq a pa) [
  | inl e ↦
      let z : a - pa ≡ 0 = omega arith in
      let k : in_ram ram a ≡ true = rw e (are-head ram pa n h) in
      let head : byte_of (put_byte ram a b) pa ≡ b = rw (← e) (byte-put_same ram a b k) in
      rw (z, head, bytes-put_out ram a b (pa + 1) n (inl (omega arith))) refl
  | inr ne ↦
      let s : a - pa ≡ suc (a - (pa + 1)) = omega (arith, ne) in
      let head : byte_of (put_byte ram a b) pa ≡ byte_of ram pa = byte-put_other ram a b pa (λ e. ne (sym e)) in
      rw (s, head, bytes-put_in ram a b (pa + 1) n (are-tail ram pa n h) (omega (arith, ne)) (omega arith)) refl
]

within : (r : Area) (a n k : ℕ) → r.start ≤ a → nat_le (a + n) (r.start + length r.bytes) ≡ true → k < n → holds r (a + k) ≡ true
unfolding holds
within r a n k l h m = grind (arith, nat_tests)

after : (r : Area) (rs : List Area) (a : ℕ) → in_ram rs a ≡ true → in_ram (r ∷ rs) a ≡ true
unfolding in_ram
after r rs a h = elim (cases_Bool (holds r a)) [ inl t ↦ rw t refl | inr f ↦ rw f h ]

-- bytes in one area
pub one-are : (ram : List Area) (a n : ℕ) → in_one ram a n ≡ true → AreRam ram a n
unfolding in_one in_ram
one-are [] a n h = cc
one-are (r ∷ rs) a n h = elim (cases_Bool (holds r a)) [
  | inl t ↦
      let g = rw t at h in
      let p = holds-at r a t in
      record { each = λ k l. let u : holds r (a + k) ≡ true = within r a n k p.0 g l in rw u refl }
  | inr f ↦
      let g = rw f at h in
      record { each = λ k l. after r rs (a + k) ((one-are rs a n g).each k l) }
]

-- the bytes of an area that holds them all
here : (r : Area) (rs : List Area) (pa n : ℕ) → r.start ≤ pa → pa + n ≤ r.start + length r.bytes → bytes_of (r ∷ rs) pa n ≡ take n (drop (pa - r.start) r.bytes)
unfolding bytes_of byte_of
here r rs pa zero l h = refl
here r rs pa (suc n) l h =
    let t : holds r pa ≡ true = held r pa l (omega arith) in
    let s : pa - r.start < length r.bytes = omega arith in
    let e : pa + 1 - r.start ≡ suc (pa - r.start) = omega arith in
    rw (drop-cons r.bytes (pa - r.start) 0 s, t, here r rs (pa + 1) n (omega arith) (omega arith), e) refl

pub one-here : (r : Area) (rs : List Area) (pa n : ℕ) → holds r pa ≡ true → in_one (r ∷ rs) pa n ≡ true → (pa - r.start + n ≤ length r.bytes) × (bytes_of (r ∷ rs) pa n ≡ take n (drop (pa - r.start) r.bytes))
unfolding in_one
one-here r rs pa n t h =
    let g = rw t at h in
    let p = holds-at r pa t in
    let f : pa + n ≤ r.start + length r.bytes = le-true (pa + n) (r.start + length r.bytes) g in
    (omega arith, here r rs pa n p.0 f)

-- the bytes of the areas behind one that doesn't hold the first
skip : (r : Area) (rs : List Area) (pa n : ℕ) → ((a : ℕ) → in_ram rs a ≡ true → holds r a ≡ false) → AreRam rs pa n → bytes_of (r ∷ rs) pa n ≡ bytes_of rs pa n
unfolding bytes_of byte_of
skip r rs pa zero apart h = refl
skip r rs pa (suc n) apart h =
    let f : holds r pa ≡ false = apart pa (are-head rs pa n h) in
    rw (f, skip r rs (pa + 1) n apart (are-tail rs pa n h)) refl

pub one-after : (r : Area) (rs : List Area) (pa n : ℕ) → holds r pa ≡ false → in_one (r ∷ rs) pa n ≡ true → in_one rs pa n ≡ true
unfolding in_one
one-after r rs pa n f h = rw f at h

pub bytes-after : (r : Area) (rs : List Area) (pa n : ℕ) → Apart (r ∷ rs) → in_one rs pa n ≡ true → bytes_of (r ∷ rs) pa n ≡ bytes_of rs pa n
unfolding Apart
bytes-after r rs pa n a h = skip r rs pa n a.0 (one-are rs pa n h)

pub apart-after : (r : Area) (rs : List Area) → Apart (r ∷ rs) → Apart rs
unfolding Apart
apart-after r rs a = a.1

pub one-none : (pa n : ℕ) → in_one [] pa n ≡ true → ⊥
unfolding in_one
one-none pa n h = cc

pub in-here : (r : Area) (rs : List Area) (a : ℕ) → holds r a ≡ true → in_ram (r ∷ rs) a ≡ true
unfolding in_ram
in-here r rs a t = rw t refl

pub in-after : (r : Area) (rs : List Area) (a : ℕ) → holds r a ≡ false → in_ram (r ∷ rs) a ≡ in_ram rs a
unfolding in_ram
in-after r rs a f = rw f refl

pub in-none : (a : ℕ) → in_ram [] a ≡ false
unfolding in_ram
in-none a = refl

page-end : (r : Area) (a n : ℕ) → r.start % 4096 ≡ 0 → length r.bytes % 4096 ≡ 0 → a < r.start + length r.bytes → a % 4096 + n ≤ 4096 → nat_le (a + n) (r.start + length r.bytes) ≡ true
page-end r a n s l h m = let k : a + n ≤ r.start + length r.bytes = omega arith in grind (arith, nat_tests)

-- bytes within a page, of which the first is RAM
pub one-paged : (ram : List Area) (a n : ℕ) → Paged ram → in_ram ram a ≡ true → a % 4096 + n ≤ 4096 → in_one ram a n ≡ true
unfolding Paged in_ram in_one
one-paged [] a n p h m = cc
one-paged (r ∷ rs) a n p h m = elim (cases_Bool (holds r a)) [
  | inl t ↦ let b = holds-at r a t in rw t (page-end r a n p.0 p.1 b.1 m)
  | inr f ↦ rw f (one-paged rs a n p.2 (rw f at h) m)
]

pub bytes-none : (ram : List Area) (pa : ℕ) → put_bytes ram pa [] ≡ ram
unfolding put_bytes
bytes-none ram pa = refl

pub bytes-push : (ram : List Area) (pa : ℕ) (bs : List ℕ) (b : ℕ) → put_bytes ram pa (bs ++ b ∷ []) ≡ put_byte (put_bytes ram pa bs) (pa + length bs) b
unfolding put_bytes
bytes-push ram pa [] b = let e : pa + 0 ≡ pa = omega arith in rw e refl
bytes-push ram pa (x ∷ bs) b = let e : pa + suc (length bs) ≡ pa + 1 + length bs = omega arith in rw e (bytes-push (put_byte ram pa x) (pa + 1) bs b)

pub bits-put : (ram : List Area) (a bits byte : ℕ) → byte ≡ bit_or (byte_of ram a) bits → put_byte ram a byte ≡ set_bits ram a bits
unfolding set_bits
bits-put ram a bits byte e = rw e refl

-- bits that are set already
pub bits-same : (ram : List Area) (a bits : ℕ) → bit_or (byte_of ram a) bits ≡ byte_of ram a → set_bits ram a bits ≡ ram
unfolding set_bits
bits-same ram a bits e = rw e (put-same ram a)

pub in-bits : (ram : List Area) (a bits c : ℕ) → in_ram (set_bits ram a bits) c ≡ in_ram ram c
unfolding set_bits
in-bits ram a bits c = in-put ram a _ c

both : (a b : Bool) → a && b ≡ true → (a ≡ true) × (b ≡ true)
both true b h = (refl, h)
both false b h = cc

eq-true : (a b : ℕ) → (a == b) ≡ true → a ≡ b
eq-true a b h = grind (arith, nat_tests)

record Order (low : ℕ) (r : Area) (rs : List Area) : Type 0 where
  above_low : low ≤ r.start
  start : r.start % 4096 ≡ 0
  len : length r.bytes % 4096 ≡ 0
  rest : ordered (r.start + length r.bytes) rs ≡ true

order : (low : ℕ) (r : Area) (rs : List Area) → ordered low (r ∷ rs) ≡ true → Order low r rs
unfolding ordered
order low r rs h =
    let a = both _ _ h in
    let b = both _ _ a.1 in
    let c = both _ _ b.1 in
    record { above_low = le-true _ _ a.0; start = eq-true _ _ b.0; len = eq-true _ _ c.0; rest = c.1 }

pub ordered-paged : (ram : List Area) (low : ℕ) → ordered low ram ≡ true → Paged ram
unfolding Paged
ordered-paged [] low h = tt
ordered-paged (r ∷ rs) low h = let o = order low r rs h in (o.start, o.len, ordered-paged rs _ o.rest)

above : (ram : List Area) (low a : ℕ) → ordered low ram ≡ true → in_ram ram a ≡ true → low ≤ a
unfolding in_ram
above [] low a h i = cc
above (r ∷ rs) low a h i = let o = order low r rs h in elim (cases_Bool (holds r a)) [
  | inl t ↦ let p = holds-at r a t in let q = p.0 in let l = o.above_low in omega arith
  | inr f ↦ let l = o.above_low in let m = above rs (r.start + length r.bytes) a o.rest (rw f at i) in omega arith
]

past : (r : Area) (a : ℕ) → r.start + length r.bytes ≤ a → holds r a ≡ false
unfolding holds
past r a h = grind (arith, nat_tests)

pub ordered-apart : (ram : List Area) (low : ℕ) → ordered low ram ≡ true → Apart ram
unfolding Apart
ordered-apart [] low h = tt
ordered-apart (r ∷ rs) low h = let o = order low r rs h in (λ a i. past r a (above rs (r.start + length r.bytes) a o.rest i), ordered-apart rs _ o.rest)

pub put-outside : (ram : List Area) (a b : ℕ) → in_ram ram a ≡ false → put_byte ram a b ≡ ram
unfolding in_ram put_byte
put-outside [] a b h = refl
put-outside (r ∷ rs) a b h = elim (cases_Bool (holds r a)) [
  | inl t ↦ let g = rw t at h in cc
  | inr f ↦ rw f (ap (λ xs. r ∷ xs) (put-outside rs a b (rw f at h)))
]

pub bits-outside : (ram : List Area) (a bits : ℕ) → in_ram ram a ≡ false → set_bits ram a bits ≡ ram
unfolding set_bits
bits-outside ram a bits h = put-outside ram a _ h

pub bytes-one : (ram : List Area) (pa : ℕ) → bytes_of ram pa 1 ≡ byte_of ram pa ∷ []
unfolding bytes_of
bytes-one ram pa = refl

pub byte-outside : (ram : List Area) (a : ℕ) → in_ram ram a ≡ false → byte_of ram a ≡ 0
unfolding in_ram byte_of
byte-outside [] a h = refl
byte-outside (r ∷ rs) a h = elim (cases_Bool (holds r a)) [
  | inl t ↦ let g = rw t at h in cc
  | inr f ↦ rw f (byte-outside rs a (rw f at h))
]
