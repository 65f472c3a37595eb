-- The first bad line.
use Rattle.std.proofs.Common.{◌≡◌, ℕ, ◌+◌, List, [], ◌∷◌, ◌++◌, length, Result, Ok, Err, refl, sym, ap, ◌∙◌, arith, add-zero}
use Rattle.xe_scene.specs.declared.reason.Reason.{Reason}
use Rattle.xe_scene.specs.Chain.{◌>>=◌}
use Rattle.xe_scene.specs.Content.{Content}
use Rattle.xe_scene.specs.Scene.{Bad, bad_line, at_line, line_after, lines_say}
use Rattle.xe_scene.specs.First.{IsFirstBad}

unfold_lines : (n : ℕ) (d : Content) (l : List ℕ) (ls : List (List ℕ)) → lines_say n d (l ∷ ls) ≡ (at_line (n + 1) (line_after n d l) >>= λ e. lines_say (n + 1) e ls)
unfolding lines_say
unfold_lines n d l ls = refl

no_lines : (n : ℕ) (d : Content) (b : Bad) → lines_say n d [] ≡ Err b → ⊥
unfolding lines_say
no_lines n d b h = cc

said : (n : ℕ) (d e : Content) (l : List ℕ) (ls : List (List ℕ)) → line_after n d l ≡ Ok e → lines_say n d (l ∷ ls) ≡ lines_say (n + 1) e ls
said n d e l ls h = unfold_lines n d l ls ∙ ap (λ (r : Result Content Reason). at_line (n + 1) r >>= λ e. lines_say (n + 1) e ls) h

refused : (n : ℕ) (d : Content) (l : List ℕ) (ls : List (List ℕ)) (r : Reason) → line_after n d l ≡ Err r → lines_say n d (l ∷ ls) ≡ Err (bad_line (n + 1) r)
refused n d l ls r h = unfold_lines n d l ls ∙ ap (λ (r : Result Content Reason). at_line (n + 1) r >>= λ e. lines_say (n + 1) e ls) h

none_said : (n : ℕ) (d : Content) → lines_say n d [] ≡ Ok d
unfolding lines_say
none_said n d = refl

same_bad : (a b : Bad) (r : Result Content Bad) → r ≡ Err a → r ≡ Err b → a ≡ b
same_bad a b r h k = cc

later : (n : ℕ) (d e : Content) (l : List ℕ) (ls : List (List ℕ)) (b : Bad) → line_after n d l ≡ Ok e → IsFirstBad (n + 1) e ls b → IsFirstBad n d (l ∷ ls) b
later n d e l ls b h f =
    let k : n + 1 + length f.before ≡ n + length (l ∷ f.before) = omega arith in
    record {
      before = l ∷ f.before;
      line = f.line;
      after = f.after;
      parts = ap (λ (x : List (List ℕ)). l ∷ x) f.parts;
      content = f.content;
      good = said n d e l f.before h ∙ f.good;
      reason = f.reason;
      refused = ap (λ (m : ℕ). line_after m f.content f.line) (sym k) ∙ f.refused;
      told = f.told ∙ ap (λ (m : ℕ). bad_line (m + 1) f.reason) k;
    }

now : (n : ℕ) (d : Content) (l : List ℕ) (ls : List (List ℕ)) (b : Bad) (r : Reason) → line_after n d l ≡ Err r → b ≡ bad_line (n + 1) r → IsFirstBad n d (l ∷ ls) b
now n d l ls b r h e = record {
  before = [];
  line = l;
  after = ls;
  parts = refl;
  content = d;
  good = none_said n d;
  reason = r;
  refused = ap (λ (m : ℕ). line_after m d l) (add-zero n) ∙ h;
  told = e ∙ ap (λ (m : ℕ). bad_line (m + 1) r) (sym (add-zero n));
}

-- a refusal is that of the first bad line
pub first_bad : (lines : List (List ℕ)) (n : ℕ) (d : Content) (b : Bad) → lines_say n d lines ≡ Err b → IsFirstBad n d lines b
first_bad [] n d b h = absurd (no_lines n d b h)
first_bad (l ∷ ls) n d b h =
    let at : (r : Result Content Reason) → line_after n d l ≡ r → IsFirstBad n d (l ∷ ls) b = λ r.
    elim r as (λ r. line_after n d l ≡ r → IsFirstBad n d (l ∷ ls) b) [
      | Ok e ↦ λ k. later n d e l ls b k (first_bad ls (n + 1) e b (sym (said n d e l ls k) ∙ h))
      | Err r ↦ λ k. now n d l ls b r k (same_bad b _ (lines_say n d (l ∷ ls)) h (refused n d l ls r k))
    ] in
    at (line_after n d l) refl

not_both : (b : Bad) (e : Content) (r : Result Content Bad) → r ≡ Err b → r ≡ Ok e → ⊥
not_both b e r h k = cc

same_content : (n : ℕ) (d e : Content) → lines_say n d [] ≡ Ok e → d ≡ e
unfolding lines_say
same_content n d e h = cc

append_said : (before more : List (List ℕ)) (n : ℕ) (d e : Content) → lines_say n d before ≡ Ok e → lines_say n d (before ++ more) ≡ lines_say (n + length before) e more
append_said [] more n d e h =
    let same : d ≡ e = same_content n d e h in
    ap (λ (x : Content). lines_say n x more) same ∙ ap (λ (m : ℕ). lines_say m e more) (sym (add-zero n))
append_said (l ∷ ls) more n d e h =
    let at : (r : Result Content Reason) → line_after n d l ≡ r → lines_say n d (l ∷ ls ++ more) ≡ lines_say (n + length (l ∷ ls)) e more = λ r.
    elim r as (λ r. line_after n d l ≡ r → lines_say n d (l ∷ ls ++ more) ≡ lines_say (n + length (l ∷ ls)) e more) [
      | Ok f ↦ λ k.
          said n d f l (ls ++ more) k ∙ append_said ls more (n + 1) f e (sym (said n d f l ls k) ∙ h)
          ∙ ap (λ (m : ℕ). lines_say m e more) (let t : n + 1 + length ls ≡ n + length (l ∷ ls) = omega arith in t)
      | Err r ↦ λ k. absurd (not_both _ e (lines_say n d (l ∷ ls)) (refused n d l ls r k) h)
    ] in
    at (line_after n d l) refl

-- and it is refused so, whatever follows
pub bad_first : (lines : List (List ℕ)) (n : ℕ) (d : Content) (b : Bad) → IsFirstBad n d lines b → lines_say n d lines ≡ Err b
bad_first lines n d b f =
    ap (lines_say n d) f.parts ∙ append_said f.before (f.line ∷ f.after) n d f.content f.good ∙ refused (n + length f.before) f.content f.line f.after f.reason f.refused
    ∙ ap (λ (x : Bad). Err x) (sym f.told)
