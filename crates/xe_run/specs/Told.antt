-- What a source has left and a sink has written, where they tell it; and their counts of faults.
-- This project's choice.
use Rattle.std.specs.Prelude.{◌≡◌, ℕ, ◌-◌, ◌^◌, ◌<◌, ◌≤◌, Bool, true, false, List, ◌++◌, Option, Some, None, Result, Ok, Err}

-- whether something is told
abbrev pub is_told : Option (List ℕ) → Bool
is_told None = false
is_told (Some bytes) = true

-- what is told, with a piece at its end
abbrev pub followed_by : Option (List ℕ) → List ℕ → Option (List ℕ)
followed_by None piece = None
followed_by (Some bytes) piece = Some (bytes ++ piece)

-- what is told, with a piece at its front
abbrev pub preceded_by : List ℕ → Option (List ℕ) → Option (List ℕ)
preceded_by piece None = None
preceded_by piece (Some bytes) = Some (piece ++ bytes)

-- the last value of a count of faults, at which it stays
abbrev pub last_count : ℕ
last_count = 2 ^ 64 - 1

-- a count rose, or stands at its last value
abbrev pub Rose : ℕ → ℕ → Type 0
Rose old new = new < last_count → old < new

-- a count did not rise, and stands below its last value
abbrev pub Quiet : ℕ → ℕ → Type 0
Quiet old new = (new ≤ old) × (new < last_count)

-- a front of a piece came at the end, and no more
pub record FollowedByFront (old : Option (List ℕ)) (piece : List ℕ) (new : Option (List ℕ)) : Type 0 where
  pub front : List ℕ
  pub back : List ℕ
  pub parts : piece ≡ front ++ back
  pub written : new ≡ followed_by old front

-- a write of these bytes, in one call or in several: all came, or a front
abbrev pub Writes : {A E : Type 0} → Result A E → Option (List ℕ) → List ℕ → Option (List ℕ) → Type 0
Writes (Ok done) old bytes new = new ≡ followed_by old bytes
Writes (Err e) old bytes new = FollowedByFront old bytes new
