-- What the reader of a line answers.
use Rattle.std.specs.Prelude.{◌≡◌, List, [], ◌∷◌, ◌++◌, Option, Some, None, Result, Ok, Err}
use Rattle.xe_scene.specs.declared.reason.Reason.{Reason}
use Rattle.xe_scene.specs.declared.reader.LineFault.{LineFault}
use Rattle.xe_scene.specs.declared.reader.LineFault.TheVariants.{NoMemory, Bad}
use Rattle.xe_scene.specs.Content.{Content}

-- the content, or the reason of the line, or memory ran out
abbrev pub Puts : Result (Unit {0}) LineFault → Result Content Reason → Content → Type 0
Puts (Ok done) said new = said ≡ Ok new
Puts (Err NoMemory) said new = Unit {0}
Puts (Err (Bad r)) said new = said ≡ Err r

-- a list with one more, if there is one
abbrev pub with_new : {A : Type 0} → List A → Option A → List A
with_new qs None = qs
with_new qs (Some q) = qs ++ q ∷ []
