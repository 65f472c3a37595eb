-- What playing a scene writes, or why it didn't.
use Rattle.std.specs.Prelude.{◌≡◌, ℕ, List, Option, Result, Ok, Err}
use Rattle.xe_run.specs.Told.{followed_by, FollowedByFront}
use Rattle.xe_run.specs.declared.play.PlayFault.{PlayFault}
use Rattle.xe_run.specs.declared.play.PlayFault.TheVariants.{NoMemory, Write}

-- all bytes came, or a front, or memory was refused before the first
abbrev pub Plays : Result (Unit {0}) PlayFault → Option (List ℕ) → List ℕ → Option (List ℕ) → Type 0
Plays (Ok done) old bytes new = new ≡ followed_by old bytes
Plays (Err NoMemory) old bytes new = new ≡ old
Plays (Err Write) old bytes new = FollowedByFront old bytes new
