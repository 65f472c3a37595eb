-- A text is refused for one of the reasons that are printed.
use Rattle.std.proofs.Common.{◌≡◌, ℕ, ◌+◌, List, [], ◌∷◌, Bool, true, false, Result, Ok, Err, length, refl, ap, lit≤, if◌then◌else◌}
use Rattle.std.specs.Prelude.{nat_lt, take}
use Rattle.std.specs.List.{count_by}
use Rattle.xe_scene.specs.Chain.{◌>>=◌}
use Rattle.xe_scene.specs.Content.{Content}
use Rattle.xe_scene.specs.Reasons.{reason_number}
use Rattle.xe_scene.specs.Scene.{Bad, bad_line, at_line, line_after, lines_say, lines_of, nothing, is_newline, scene, scene_within, text_most}
use Rattle.xe_scene.specs.Faults.{Reads}
use Rattle.xe_scene.specs.declared.reason.Reason.{Reason}
use Rattle.xe_scene.specs.declared.reason.Reason.TheVariants as reasons
use Rattle.xe_scene.specs.declared.text.SceneFault.{SceneFault}
use Rattle.xe_scene.specs.declared.text.SceneFault.TheVariants.{Line}
use Rattle.xe_run.specs.Text.{IsReason}

number_of : (r : Reason) → IsReason (reason_number r)
number_of reasons.Header = (lit≤ tt, lit≤ tt)
number_of reasons.BadByte = (lit≤ tt, lit≤ tt)
number_of reasons.LongLine = (lit≤ tt, lit≤ tt)
number_of reasons.Spacing = (lit≤ tt, lit≤ tt)
number_of reasons.UnknownCommand = (lit≤ tt, lit≤ tt)
number_of reasons.WordCount = (lit≤ tt, lit≤ tt)
number_of reasons.UnknownName = (lit≤ tt, lit≤ tt)
number_of reasons.BadNumber = (lit≤ tt, lit≤ tt)
number_of reasons.BadBytes = (lit≤ tt, lit≤ tt)
number_of reasons.BadRegion = (lit≤ tt, lit≤ tt)
number_of reasons.TooMuchRam = (lit≤ tt, lit≤ tt)
number_of reasons.LateRam = (lit≤ tt, lit≤ tt)
number_of reasons.TooMany = (lit≤ tt, lit≤ tt)
number_of reasons.TooLong = (lit≤ tt, lit≤ tt)

err_same : {A : Type 0} (b bad : Bad) (r : Result A Bad) → r ≡ Err b → r ≡ Err bad → b ≡ bad
err_same b bad r e f = cc

line_reason : {A : Type 0} (n : ℕ) (x : Reason) (bad : Bad) (r : Result A Bad) → r ≡ Err (bad_line n x) → r ≡ Err bad → IsReason bad.reason
line_reason n x bad r e f =
    let same : reason_number x ≡ bad.reason = ap (λ (b : Bad). b.reason) (err_same (bad_line n x) bad r e f) in
    rw (← same) (number_of x)

after_line : (n : ℕ) (lines : List (List ℕ)) (bad : Bad) → ((d : Content) → lines_say (n + 1) d lines ≡ Err bad → IsReason bad.reason)
    → (r : Result Content Reason) → (at_line (n + 1) r >>= λ d. lines_say (n + 1) d lines) ≡ Err bad → IsReason bad.reason
after_line n lines bad rest (Ok d) e = rest d e
after_line n lines bad rest (Err x) e = line_reason {A = Content} (n + 1) x bad (Err (bad_line (n + 1) x)) refl e

lines_reason : (lines : List (List ℕ)) (n : ℕ) (d : Content) (bad : Bad) → lines_say n d lines ≡ Err bad → IsReason bad.reason
unfolding lines_say
lines_reason [] n d bad e = absurd (cc)
lines_reason (line ∷ lines) n d bad e = after_line n lines bad (λ x h. lines_reason lines (n + 1) x bad h) (line_after n d line) e

within_reason : (long : Bool) (most : ℕ) (bytes : List ℕ) (bad : Bad)
    → (if long then Err (bad_line (1 + count_by is_newline (take most bytes)) reasons.TooLong) else lines_say 0 nothing (lines_of bytes)) ≡ Err bad → IsReason bad.reason
within_reason true most bytes bad e = line_reason {A = Content} (1 + count_by is_newline (take most bytes)) reasons.TooLong bad (Err (bad_line (1 + count_by is_newline (take most bytes)) reasons.TooLong)) refl e
within_reason false most bytes bad e = lines_reason (lines_of bytes) 0 nothing bad e

pub refused-for : (bytes : List ℕ) (bad : Bad) → scene bytes ≡ Err bad → IsReason bad.reason
unfolding scene_within
refused-for bytes bad e = within_reason (nat_lt text_most (length bytes)) text_most bytes bad e

-- as the reader of the text tells it
pub refused_line : (fault : SceneFault) (number reason : ℕ) (text : List ℕ) → fault ≡ Line number reason → Reads (Err fault) (scene text) → IsReason reason
refused_line fault number reason text e r = refused-for text (record { number = number; reason = reason }) (rw e at r)
