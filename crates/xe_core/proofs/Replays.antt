use Rattle.std.proofs.Common.{ℕ, ◌≡◌, ◌<◌, ◌≤◌, ◌==◌, List, [], ◌∷◌, ◌++◌, length, Bool, true, false, Option, Some, None, refl, sym, ap, subst, ◌∙◌, append_assoc, arith}
use Rattle.std.proofs.lemmas.Bool.Decides.{nat_tests}
use Rattle.std.proofs.lemmas.List.{append-nil}
use Rattle.xe_base.specs.declared.access.Access.{Access}
use Rattle.xe_base.specs.declared.access.Made.{Made}
use Rattle.xe_opmap.specs.declared.row.Row.{Row}
use Rattle.xe_ctx.specs.Kept.{Agrees, expected_from, same_access}
use Rattle.xe_core.specs.Call.{Divergence, differs, diverges, standing, StandsEach}
use Rattle.xe_core.specs.Step.{Stepped}
use Rattle.xe_ctx.specs.Supply.{Supply, answers_alone, answers}
use Rattle.xe_ctx.specs.Tape.{same_bool}

-- A record beside the step that it belongs to, or not.

same-number : (n : ℕ) → (n == n) ≡ true
same-number n = grind (arith, nat_tests)

same-truth : (b : Bool) → same_bool b b ≡ true
same-truth true = refl
same-truth false = refl

pub same_refl : (a : Access) → same_access a a ≡ true
same_refl a = rw (same-number _, same-truth a.write, same-number a.address, same-number a.size, same-number a.value) refl

module _ (stepping : Supply → Stepped) (row : Option Row) (asked : Access) where
  -- a step that stands at the expected access
  differs-none : (at : ℕ) (a : Access) (made : List Made) (came : Stepped) → came ≡ standing row a made → differs at a came ≡ None
  differs-none at a made came e = rw (e, same_refl a) refl

  along : (before : List Made) (k m : Made) (came : Stepped) → m ≡ k → came ≡ standing row m.access before → differs (length before) k.access came ≡ None
  along before k m came same e = differs-none (length before) k.access before came (e ∙ ap (λ (x : Made). standing row x.access before) same)

  on : (before ms : List Made) (k m : Made) → m ≡ k → StandsEach stepping row (before ++ m ∷ []) ms → StandsEach stepping row (before ++ k ∷ []) ms
  on before ms k m same e = subst (λ x. StandsEach stepping row (before ++ x ∷ []) ms) same e

  -- the step has made all that was kept, and what was asked
  pub diverges-none : (ks ms before : List Made) → StandsEach stepping row before ms → Agrees ks (Some asked) ms → length ks < length ms → diverges stepping before ks asked ≡ None
  unfolding diverges
  diverges-none [] [] before st ag l = absurd (omega arith)
  diverges-none (k ∷ ks) [] before st ag l = absurd (omega arith)
  diverges-none [] (m ∷ ms) before st ag l = differs-none (length before) asked before _ (st.0 ∙ ap (λ a. standing row a before) ag)
  diverges-none (k ∷ ks) (m ∷ ms) before st ag l = rw (along before k m _ ag.0 st.0) (diverges-none ks ms (before ++ k ∷ []) (on before ms k m ag.0 st.1) ag.1 (omega arith))

  -- the place behind these, with one that is kept
  place : (before ms : List Made) (m : Made) → (before ++ m ∷ []) ++ ms ≡ before ++ m ∷ ms
  place before ms m = append_assoc before (m ∷ []) ms

  -- the step has made some of what was kept, and then differs
  pub diverges-last : (ks ms before : List Made) (x : Access) (d : Divergence) → StandsEach stepping row before ms → Agrees ks (Some asked) ms → expected_from ks (Some asked) (length ms) ≡ Some x → differs (length (before ++ ms)) x (stepping (answers_alone (answers (before ++ ms)))) ≡ Some d → diverges stepping before ks asked ≡ Some d
  unfolding diverges
  diverges-last [] [] before x d st ag e last = let same : asked ≡ x = cc in rw same (rw (append-nil before) at last)
  diverges-last (k ∷ ks) [] before x d st ag e last =
      let same : k.access ≡ x = cc in
      let here : differs (length before) x (stepping (answers_alone (answers before))) ≡ Some d = rw (append-nil before) at last in
      rw (same, here) refl
  diverges-last [] (m ∷ ms) before x d st ag e last = let none : None ≡ Some x = e in cc
  diverges-last (k ∷ ks) (m ∷ ms) before x d st ag e last =
      let rest : Agrees ks (Some asked) ms = ag.1 in
      let next : expected_from ks (Some asked) (length ms) ≡ Some x = e in
      let here : (before ++ k ∷ []) ++ ms ≡ before ++ m ∷ ms = place before ms k ∙ ap (λ y. before ++ y ∷ ms) (sym ag.0) in
      rw (along before k m _ ag.0 st.0) (diverges-last ks ms (before ++ k ∷ []) x d (on before ms k m ag.0 st.1) rest next (rw here last))

  -- the step has made all that was kept, and stands at what was asked
  pub diverges-asked : (ks ms before : List Made) → StandsEach stepping row before ms → Agrees ks (Some asked) ms → length ms ≡ length ks → stepping (answers_alone (answers (before ++ ms))) ≡ standing row asked (before ++ ms) → diverges stepping before ks asked ≡ None
  unfolding diverges
  diverges-asked [] [] before st ag l last = differs-none (length before) asked before _ (rw (append-nil before) at last)
  diverges-asked (k ∷ ks) [] before st ag l last = absurd (omega arith)
  diverges-asked [] (m ∷ ms) before st ag l last = absurd (omega arith)
  diverges-asked (k ∷ ks) (m ∷ ms) before st ag l last =
      let here : (before ++ k ∷ []) ++ ms ≡ before ++ m ∷ ms = place before ms k ∙ ap (λ y. before ++ y ∷ ms) (sym ag.0) in
      rw (along before k m _ ag.0 st.0) (diverges-asked ks ms (before ++ k ∷ []) (on before ms k m ag.0 st.1) ag.1 (omega arith) (rw here last))

-- the kept ones are the first of those made
pub agrees-front : (ks ms : List Made) (asked : Option Access) → Agrees ks asked ms → length ks ≤ length ms → (rest : List Made) × (ms ≡ ks ++ rest)
agrees-front [] ms asked ag l = (ms, refl)
agrees-front (k ∷ ks) [] asked ag l = absurd (omega arith)
agrees-front (k ∷ ks) (m ∷ ms) asked ag l = let r = agrees-front ks ms asked ag.1 (omega arith) in (r.0, rw (ag.0, ← r.1) refl)
