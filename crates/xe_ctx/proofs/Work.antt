use Rattle.std.proofs.Common.{ℕ, zero, suc, ◌≡◌, ◌<◌, ◌+◌, List, [], ◌∷◌, ◌++◌, refl, sym, ◌∙◌, arith, true, false, Bool, inl, inr, Option, Some, None}
use Rattle.std.specs.Prelude.{IsSome, OnSome, IfNone}
use Rattle.std.proofs.lemmas.Bool.{cases_Bool}
use Rattle.xe_base.specs.Ram.{Area, in_ram, put_byte, AreRam}
use Rattle.xe_base.proofs.Ram.{in-put}
use Rattle.xe_ctx.specs.Memory.{are_ram}
use Rattle.xe_ctx.specs.Work.{Cell, patched}

pub patched-none : (ram : List Area) → patched ram [] ≡ ram
unfolding patched
patched-none ram = refl

pub patched-push : (ram : List Area) (cells : List Cell) (c : Cell) → patched ram (cells ++ c ∷ []) ≡ put_byte (patched ram cells) c.at c.byte
unfolding patched
patched-push ram [] c = refl
patched-push ram (d ∷ cells) c = patched-push (put_byte ram d.at d.byte) cells c

pub in-patched : (ram : List Area) (cells : List Cell) (a : ℕ) → in_ram (patched ram cells) a ≡ in_ram ram a
unfolding patched
in-patched ram [] a = refl
in-patched ram (c ∷ cells) a = in-patched (put_byte ram c.at c.byte) cells a ∙ in-put ram c.at c.byte a

are-patched : (ram : List Area) (cells : List Cell) (a n : ℕ) → AreRam ram a n → AreRam (patched ram cells) a n
are-patched ram cells a n h = record { each = λ k l. in-patched ram cells (a + k) ∙ h.each k l }

-- ---- the test whether bytes are RAM

pub are_ram-patched : (ram : List Area) (cells : List Cell) (pa n : ℕ) → are_ram (patched ram cells) pa n ≡ are_ram ram pa n
unfolding are_ram
are_ram-patched ram cells pa zero = refl
are_ram-patched ram cells pa (suc n) = rw (in-patched ram cells pa, are_ram-patched ram cells (pa + 1) n) refl

pub are-to : (ram : List Area) (pa n : ℕ) → AreRam ram pa n → are_ram ram pa n ≡ true
unfolding are_ram
are-to ram pa zero h = refl
are-to ram pa (suc n) h =
    let z : pa + 0 ≡ pa = omega arith in
    let first : in_ram ram pa ≡ true = rw z at (h.each 0 (omega arith)) in
    let rest : AreRam ram (pa + 1) n = record { each = λ k l. let e : pa + 1 + k ≡ pa + suc k = omega arith in rw e (h.each (suc k) (omega arith)) } in
    rw first (are-to ram (pa + 1) n rest)

record Begins (ram : List Area) (pa n : ℕ) : Type 0 where
  first : in_ram ram pa ≡ true
  rest : are_ram ram (pa + 1) n ≡ true

begins : (ram : List Area) (pa n : ℕ) → are_ram ram pa (suc n) ≡ true → Begins ram pa n
unfolding are_ram
begins ram pa n h = elim (cases_Bool (in_ram ram pa)) [
  | inl t ↦ record { first = t; rest = rw t at h }
  | inr f ↦ let g = rw f at h in cc
]

pub first-and-rest : (ram : List Area) (pa n : ℕ) → in_ram ram pa ≡ true → AreRam ram (pa + 1) n → (k : ℕ) → k < suc n → in_ram ram (pa + k) ≡ true
first-and-rest ram pa n f r zero l = let z : pa + 0 ≡ pa = omega arith in rw z f
first-and-rest ram pa n f r (suc k) l = let e : pa + suc k ≡ pa + 1 + k = omega arith in rw e (r.each k (omega arith))

pub are-from : (ram : List Area) (pa n : ℕ) → are_ram ram pa n ≡ true → AreRam ram pa n
are-from ram pa zero h = record { each = λ k l. absurd (omega arith) }
are-from ram pa (suc n) h = let b = begins ram pa n h in record { each = first-and-rest ram pa n b.first (are-from ram (pa + 1) n b.rest) }

-- a test that answers exactly where the bytes are RAM
pub are_ram-same : (ram : List Area) (pa n : ℕ) (b : Bool) → (b ≡ true → AreRam ram pa n) → (AreRam ram pa n → b ≡ true) → b ≡ are_ram ram pa n
are_ram-same ram pa n b to from = elim (cases_Bool b) [
  | inl t ↦ t ∙ sym (are-to ram pa n (to t))
  | inr f ↦ elim (cases_Bool (are_ram ram pa n)) [
    | inl u ↦ let g = from (are-from ram pa n u) in cc
    | inr u ↦ f ∙ sym u
  ]
]

-- an answer that is there exactly where the bytes are RAM
pub present-some : {A : Type 0} (answer : Option A) (ram : List Area) (pa n : ℕ) → (IsSome answer → AreRam ram pa n) → OnSome answer (are_ram ram pa n ≡ true)
present-some (Some x) ram pa n to = are-to ram pa n (to refl)
present-some None ram pa n to = tt

pub present-none : {A : Type 0} (answer : Option A) (ram : List Area) (pa n : ℕ) → (AreRam ram pa n → IsSome answer) → IfNone answer (are_ram ram pa n ≡ false)
present-none (Some x) ram pa n from = tt
present-none None ram pa n from = elim (cases_Bool (are_ram ram pa n)) [
  | inl t ↦ let some = from (are-from ram pa n t) in cc
  | inr f ↦ f
]

pub are-len : (ram : List Area) (a n m : ℕ) → m ≡ n → AreRam ram a n → AreRam ram a m
are-len ram a n m e h = rw e h

pub ruleset work_rules = (patched-none)
