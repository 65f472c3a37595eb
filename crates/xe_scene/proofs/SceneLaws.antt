-- Reading one line after another.
use Rattle.std.proofs.Common.{◌≡◌, ℕ, ◌+◌, ◌<◌, ◌≤◌, List, length, drop, get_or, Result, Ok, Err, sym, ap, ◌∙◌}
use Rattle.std.proofs.lemmas.List.{drop_more, drop_all}
use Rattle.xe_scene.specs.Chain.{◌>>=◌}
use Rattle.xe_scene.specs.Content.{Content}
use Rattle.xe_scene.specs.declared.reader.LineFault.{LineFault}
use Rattle.xe_scene.specs.declared.reader.LineFault.TheVariants as faults
use Rattle.xe_scene.specs.declared.reason.Reason.{Reason}
use Rattle.xe_scene.specs.Puts.{Puts}
use Rattle.xe_scene.specs.Faults.{Reads, located}
use Rattle.xe_scene.specs.Scene.{Bad, at_line, line_after, lines_say}

lines_next : (ls : List (List ℕ)) (n : ℕ) (d : Content) (line : List ℕ) → n < length ls → line ≡ get_or ls n line
    → lines_say n d (drop n ls) ≡ (at_line (n + 1) (line_after n d line) >>= λ e. lines_say (n + 1) e (drop (n + 1) ls))
unfolding lines_say
lines_next ls n d line lt e = ap (lines_say n d) (drop_more ls n line lt) ∙ ap (λ (l : List ℕ). at_line (n + 1) (line_after n d l) >>= λ e. lines_say (n + 1) e (drop (n + 1) ls)) (sym e)

pub lines_step : (ls : List (List ℕ)) (n : ℕ) (d e : Content) (line : List ℕ) (all : Result Content Bad) → n < length ls → line ≡ get_or ls n line → line_after n d line ≡ Ok e
    → lines_say n d (drop n ls) ≡ all → lines_say (n + 1) e (drop (n + 1) ls) ≡ all
lines_step ls n d e line all lt same h so_far =
    sym (lines_next ls n d line lt same ∙ ap (λ (r : Result Content Reason). at_line (n + 1) r >>= λ e. lines_say (n + 1) e (drop (n + 1) ls)) h) ∙ so_far

pub lines_stop : (ls : List (List ℕ)) (n : ℕ) (d new : Content) (line : List ℕ) (f : LineFault) (all : Result Content Bad) → n < length ls → line ≡ get_or ls n line → Puts (Err f) (line_after n d line) new
    → lines_say n d (drop n ls) ≡ all → Reads (Err (located f (n + 1))) all
lines_stop ls n d new line faults.NoMemory all lt same h so_far = tt
lines_stop ls n d new line (faults.Bad r) all lt same h so_far =
    sym so_far ∙ lines_next ls n d line lt same ∙ ap (λ (r : Result Content Reason). at_line (n + 1) r >>= λ e. lines_say (n + 1) e (drop (n + 1) ls)) h

pub lines_end : (ls : List (List ℕ)) (n : ℕ) (d : Content) (all : Result Content Bad) → length ls ≤ n → lines_say n d (drop n ls) ≡ all → all ≡ Ok d
unfolding lines_say
lines_end ls n d all le so_far = sym so_far ∙ ap (lines_say n d) (drop_all n ls le)
