-- What the program writes for its words and a text, and its status. This project's choice.
use Rattle.std.specs.Prelude.{◌≡◌, ℕ, List, [], ◌∷◌, ◌++◌, Option, Some, None, Result, Ok, Err, codes, if◌then◌else◌}
use Rattle.std.specs.Str.{bytes_eq}
use Rattle.xe_run.specs.Told.{followed_by, FollowedByFront}
use Rattle.xe_scene.specs.Content.{Content}
use Rattle.xe_scene.specs.Scene.{Bad, scene}
use Rattle.xe_run.specs.Text.{text, refusal_text}
use Rattle.xe_run.specs.Drive.{drive}
use Rattle.xe_run.specs.declared.mode.Mode.{Mode}
use Rattle.xe_run.specs.declared.mode.Mode.TheVariants as modes
use Rattle.xe_run.specs.declared.status.Status.{Status}
use Rattle.xe_run.specs.declared.status.Status.TheVariants as status

pub record Output : Type 0 where
  pub bytes : List ℕ
  pub status : Status

abbrev pub mode_named : List ℕ → Option Mode
mode_named word = if bytes_eq word (codes "run") then Some modes.Run else (if bytes_eq word (codes "check") then Some modes.Check else None)

-- what the words ask for
abbrev pub mode_of : List (List ℕ) → Option Mode
mode_of [] = None
mode_of (word ∷ []) = mode_named word
mode_of (word ∷ other ∷ more) = None

-- the bytes for a scene: its trace, or that it is accepted
abbrev pub accepted : Mode → Content → List ℕ
accepted modes.Run scene = text (drive scene.regions scene.commands)
accepted modes.Check scene = codes "ok" ++ 10 ∷ []

-- what a text gives: what its scene gives, or the line of its first bad line
abbrev pub answer : Mode → Result Content Bad → Output
answer mode (Ok scene) = record { bytes = accepted mode scene; status = status.Ok }
answer mode (Err bad) = record { bytes = refusal_text bad.number bad.reason; status = status.Refused }

abbrev pub usage : Output
usage = record { bytes = codes "usage: x86emu run | check | gen SEED COUNT" ++ 10 ∷ []; status = status.Usage }

abbrev pub output_in : Option Mode → List ℕ → Output
output_in None bytes = usage
output_in (Some mode) bytes = answer mode (scene bytes)

-- what is written for these words and a text, and the status
unfoldable pub output : List (List ℕ) → List ℕ → Output
output words bytes = output_in (mode_of words) bytes

-- what each status says of the bytes that were written
abbrev pub Answers : Status → Output → Option (List ℕ) → Option (List ℕ) → Type 0
Answers status.Ok o old new = (new ≡ followed_by old o.bytes) × (o.status ≡ status.Ok)
Answers status.Refused o old new = (new ≡ followed_by old o.bytes) × (o.status ≡ status.Refused)
Answers status.Usage o old new = (new ≡ followed_by old o.bytes) × (o.status ≡ status.Usage)
Answers status.ReadFault o old new = new ≡ old
Answers status.WriteFault o old new = FollowedByFront old o.bytes new
Answers status.NoMemory o old new = new ≡ old

-- a status with which the whole output was written
abbrev pub IsWhole : Status → Type 0
IsWhole status.Ok = Unit {0}
IsWhole status.Refused = Unit {0}
IsWhole status.Usage = Unit {0}
IsWhole status.ReadFault = ⊥
IsWhole status.WriteFault = ⊥
IsWhole status.NoMemory = ⊥

-- the number that the program ends with
abbrev pub number_of : Status → ℕ
number_of status.Ok = 0
number_of status.Refused = 1
number_of status.Usage = 2
number_of status.ReadFault = 3
number_of status.WriteFault = 4
number_of status.NoMemory = 5
