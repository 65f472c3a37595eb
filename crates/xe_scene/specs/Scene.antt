-- What a text says, or its first bad line. The first line names the version of the grammar; a bound on the length stands before all
-- else, so that a reader needs no more memory than that.
use Rattle.std.specs.Prelude.{ℕ, ◌+◌, ◌==◌, nat_lt, if◌then◌else◌, List, [], ◌∷◌, length, take, Result, Ok, Err, codes, Bool}
use Rattle.std.specs.List.{slice_split, count_by}
use Rattle.std.specs.Str.{bytes_eq}
use Rattle.xe_scene.specs.declared.reason.Reason.{Reason}
use Rattle.xe_scene.specs.declared.reason.Reason.TheVariants.{Header, TooLong}
use Rattle.xe_scene.specs.Reasons.{reason_number}
use Rattle.xe_scene.specs.Chain.{◌>>=◌}
use Rattle.xe_scene.specs.Content.{Content, line_says}

-- which line is bad, and why
pub record Bad : Type 0 where
  pub number : ℕ
  pub reason : ℕ

abbrev pub bad_line : ℕ → Reason → Bad
bad_line n reason = record { number = n; reason = reason_number reason }

abbrev pub is_newline : ℕ → Bool
is_newline b = b == 10

-- the bytes that a text has at most
abbrev pub text_most : ℕ
text_most = 1048576

abbrev pub header : Content → List ℕ → Result Content Reason
header d line = if bytes_eq line (codes "x86emu 1") then Ok d else Err Header

-- what the lines up to line n + 1 say, before which there are n lines
unfoldable pub line_after : ℕ → Content → List ℕ → Result Content Reason
line_after n d line = if n == 0 then header d line else line_says d line

abbrev pub at_line : ℕ → Result Content Reason → Result Content Bad
at_line n (Ok d) = Ok d
at_line n (Err reason) = Err (bad_line n reason)

-- the content after the lines that follow n lines, or the first bad line
unfoldable pub lines_say : ℕ → Content → List (List ℕ) → Result Content Bad
lines_say n d [] = Ok d
lines_say n d (line ∷ lines) = at_line (n + 1) (line_after n d line) >>= λ e. lines_say (n + 1) e lines

abbrev pub nothing : Content
nothing = record { regions = []; commands = [] }

-- the lines between newlines; what follows the last newline is one of them, and does nothing where it is empty
abbrev pub lines_of : List ℕ → List (List ℕ)
lines_of bytes = slice_split is_newline bytes

-- what a text of at most so many bytes says, or its first bad line
unfoldable pub scene_within : ℕ → List ℕ → Result Content Bad
scene_within most bytes =
    if nat_lt most (length bytes) then Err (bad_line (1 + count_by is_newline (take most bytes)) TooLong)
    else lines_say 0 nothing (lines_of bytes)

-- what a text says, or its first bad line
abbrev pub scene : List ℕ → Result Content Bad
scene bytes = scene_within text_most bytes
