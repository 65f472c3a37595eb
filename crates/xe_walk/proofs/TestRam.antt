use Rattle.std.proofs.Common.{ℕ, zero, suc, ◌≡◌, ◌<◌, ◌≤◌, ◌+◌, ◌-◌, ◌⊎◌, inl, inr, List, [], ◌∷◌, length, take, drop, refl, arith, true, false, Some, None}
use Rattle.std.proofs.lemmas.Bool.{cases_lt}
use Rattle.std.proofs.lemmas.Bool.Decides.{nat_tests}
use Rattle.xe_base.proofs.Ram.{in-here, in-after, in-none, one-here}
use Rattle.xe_base.specs.Bytes.{num}
use Rattle.xe_base.specs.Ram.{Area, holds, in_one, bytes_of}
use Rattle.xe_walk.specs.Entry.{are_ram, entry_of}

-- The RAM of the tests: one area from address 0 on.

abbrev area : List ℕ → Area
area bytes = record { start = 0; bytes = bytes }

holds-in : (bytes : List ℕ) (a : ℕ) → a < length bytes → holds (area bytes) a ≡ true
unfolding holds
holds-in bytes a h = grind (arith, nat_tests)

holds-out : (bytes : List ℕ) (a : ℕ) → length bytes ≤ a → holds (area bytes) a ≡ false
unfolding holds
holds-out bytes a h = grind (arith, nat_tests)

inside : (bytes : List ℕ) (pa n : ℕ) → pa + n ≤ length bytes → are_ram (area bytes ∷ []) pa n ≡ true
unfolding are_ram
inside bytes pa zero h = refl
inside bytes pa (suc n) h = rw (in-here (area bytes) [] pa (holds-in bytes pa (omega arith)), inside bytes (pa + 1) n (omega arith)) refl

outside : (bytes : List ℕ) (pa n : ℕ) → length bytes < pa + n → 0 < n → are_ram (area bytes ∷ []) pa n ≡ false
unfolding are_ram
outside bytes pa zero h p = absurd (omega arith)
outside bytes pa (suc n) h p = elim (cases_lt pa (length bytes)) [
  | inl l ↦ rw (in-here (area bytes) [] pa (holds-in bytes pa l), outside bytes (pa + 1) n (omega arith) (omega arith)) refl
  | inr g ↦ rw (in-after (area bytes) [] pa (holds-out bytes pa (omega (arith, g))), in-none pa) refl
]

one : (bytes : List ℕ) (pa n : ℕ) → 0 < n → pa + n ≤ length bytes → in_one (area bytes ∷ []) pa n ≡ true
unfolding in_one
one bytes pa n p h = rw (holds-in bytes pa (omega arith)) (grind (arith, nat_tests))

-- an entry within the area
pub entry_within : (bytes : List ℕ) (pa n value : ℕ) → (n ≡ 4) ⊎ (n ≡ 8) → pa + n ≤ length bytes → value ≡ num (take (pa + n - pa) (drop pa bytes)) → Some value ≡ entry_of (area bytes ∷ []) pa n
entry_within bytes pa n value size h v =
    let p : 0 < n = omega arith in
    let z : pa - 0 ≡ pa = omega arith in
    let m : pa + n - pa ≡ n = omega arith in
    let b = (one-here (area bytes) [] pa n (holds-in bytes pa (omega arith)) (one bytes pa n p h)).1 in
    let c : bytes_of (area bytes ∷ []) pa n ≡ take n (drop pa bytes) = rw z at b in
    let w : value ≡ num (take n (drop pa bytes)) = rw m at v in
    rw (inside bytes pa n h, c, w) refl

-- an entry that reaches past it
pub entry_past : (bytes : List ℕ) (pa n : ℕ) → (n ≡ 4) ⊎ (n ≡ 8) → length bytes < pa + n → None ≡ entry_of (area bytes ∷ []) pa n
entry_past bytes pa n size h = rw (outside bytes pa n h (omega arith)) refl
