-- The first bad line, as a relation: what a refusal promises to someone who mends a text from its top.
use Rattle.std.specs.Prelude.{◌≡◌, ℕ, ◌+◌, List, ◌∷◌, ◌++◌, length, Ok, Err}
use Rattle.xe_scene.specs.declared.reason.Reason.{Reason}
use Rattle.xe_scene.specs.Content.{Content}
use Rattle.xe_scene.specs.Scene.{Bad, bad_line, line_after, lines_say}

-- the lines before are good and have this content; this line is bad after them, whatever follows
pub record IsFirstBad (n : ℕ) (start : Content) (lines : List (List ℕ)) (bad : Bad) : Type 0 where
  pub before : List (List ℕ)
  pub line : List ℕ
  pub after : List (List ℕ)
  pub parts : lines ≡ before ++ line ∷ after
  pub content : Content
  pub good : lines_say n start before ≡ Ok content
  pub reason : Reason
  pub refused : line_after (n + length before) content line ≡ Err reason
  pub told : bad ≡ bad_line (n + length before + 1) reason
