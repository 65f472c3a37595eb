-- What the reader of a text answers: its scene, or its first bad line. Want of memory stands for itself: no text can tell it.
use Rattle.std.specs.Prelude.{◌≡◌, ℕ, Result, Ok, Err}
use Rattle.xe_scene.specs.declared.command.Scene.{Scene}
use Rattle.xe_scene.specs.declared.reader.LineFault.{LineFault}
use Rattle.xe_scene.specs.declared.reader.LineFault.TheVariants as lines
use Rattle.xe_scene.specs.declared.text.SceneFault.{SceneFault}
use Rattle.xe_scene.specs.declared.text.SceneFault.TheVariants.{NoMemory, Line}
use Rattle.xe_scene.specs.Reasons.{reason_number}
use Rattle.xe_scene.specs.Content.{Content}
use Rattle.xe_scene.specs.Scene.{Bad}

abbrev pub content_of : Scene → Content
content_of s = record { regions = s.regions.items; commands = s.commands }

-- the answer is that of the text, or memory ran out
abbrev pub Reads : Result Scene SceneFault → Result Content Bad → Type 0
Reads (Ok scene) read = read ≡ Ok (content_of scene)
Reads (Err NoMemory) read = Unit {0}
Reads (Err (Line number reason)) read = read ≡ Err (record { number = number; reason = reason })

-- a fault of line n
abbrev pub located : LineFault → ℕ → SceneFault
located lines.NoMemory n = NoMemory
located (lines.Bad r) n = Line n (reason_number r)
