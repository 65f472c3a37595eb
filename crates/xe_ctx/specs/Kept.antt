use Rattle.std.specs.Prelude.{ℕ, zero, suc, ◌≡◌, ◌≤◌, ◌&&◌, ◌==◌, List, [], ◌∷◌, length, All, Option, Some, None, Bool}
use Rattle.xe_base.specs.Access.{IsWellFormed, IsWellMade}
use Rattle.xe_base.specs.declared.access.Access.{Access}
use Rattle.xe_base.specs.declared.access.Made.{Made}
use Rattle.xe_ctx.specs.Tape.{same_bool, space_number}

-- What a suspended step keeps: the accesses that were answered, with their answers, and the one that was asked and has none yet.
-- A record without an asked access keeps nothing.
pub record Kept : Type 0 where
  pub answers : List Made
  pub asked : Option Access

-- it keeps nothing
abbrev pub nothing : Kept
nothing = record { answers = []; asked = None }

-- what every record keeps to: well-formed accesses with answers that they can have, at most 255, and none without an asked access
pub record IsKept (answers : List Made) (asked : Option Access) : Type 0 where
  pub well_made : All IsWellMade answers
  pub well_formed : (a : Access) → asked ≡ Some a → IsWellFormed a
  pub few : length answers ≤ 255
  pub empty : asked ≡ None → answers ≡ []

-- two accesses are the same
abbrev pub same_access : Access → Access → Bool
same_access a b = space_number a.space == space_number b.space && (same_bool a.write b.write && (a.address == b.address && (a.size == b.size && a.value == b.value)))

-- the access that is expected at a place of the step: that of a kept answer, and behind these the asked one
abbrev pub expected_from : List Made → Option Access → ℕ → Option Access
expected_from [] asked zero = asked
expected_from [] asked (suc k) = None
expected_from (m ∷ ms) asked zero = Some m.access
expected_from (m ∷ ms) asked (suc k) = expected_from ms asked k

abbrev pub expected : Kept → ℕ → Option Access
expected k = expected_from k.answers k.asked

-- the accesses of a step are those that were kept, with the kept answers, as far as both go; and the first behind them is the asked one
abbrev pub Agrees : List Made → Option Access → List Made → Type 0
Agrees ks asked [] = Unit {0}
Agrees [] None (m ∷ ms) = Unit {0}
Agrees [] (Some a) (m ∷ ms) = m.access ≡ a
Agrees (k ∷ ks) asked (m ∷ ms) = (m ≡ k) × Agrees ks asked ms
