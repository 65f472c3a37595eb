-- Laws of what is told.
use Rattle.std.proofs.Common.{◌≡◌, ℕ, ◌+◌, ◌-◌, List, [], ◌++◌, Option, Some, None, Result, Ok, Err, length, take, drop, refl, sym, ap, ◌∙◌, append_assoc, arith}
use Rattle.std.proofs.Math.Seq.{take-append_seam}
use Rattle.std.proofs.lemmas.List.{append-nil, take-append-drop, drop-drop}
use Rattle.std.specs.Result.{IsErr}
use Rattle.xe_run.specs.Told.{followed_by, preceded_by, FollowedByFront, Writes}

pub preceded_by-nil : (o : Option (List ℕ)) → preceded_by [] o ≡ o
preceded_by-nil None = refl
preceded_by-nil (Some bytes) = refl

pub preceded_by-append : (a b : List ℕ) (o : Option (List ℕ)) → preceded_by (a ++ b) o ≡ preceded_by a (preceded_by b o)
preceded_by-append a b None = refl
preceded_by-append a b (Some bytes) = ap (λ (x : List ℕ). Some x) (append_assoc a b bytes)

pub followed_by-nil : (o : Option (List ℕ)) → followed_by o [] ≡ o
followed_by-nil None = refl
followed_by-nil (Some bytes) = ap (λ (x : List ℕ). Some x) (append-nil bytes)

pub followed_by-append : (o : Option (List ℕ)) (a b : List ℕ) → followed_by o (a ++ b) ≡ followed_by (followed_by o a) b
followed_by-append None a b = refl
followed_by-append (Some bytes) a b = ap (λ (x : List ℕ). Some x) (sym (append_assoc bytes a b))

-- what is left is what was read, and what is left after it
pub read_front : (xs ys front back : List ℕ) (a k : ℕ) → ys ≡ xs → front ≡ take (a + k - a) (drop a ys) → length front ≡ k → drop a xs ≡ take k (front ++ back) ++ drop (a + k) xs
read_front xs ys front back a k same e n =
    let whole : take k (front ++ back) ≡ front = rw (← n) (take-append_seam front back) in
    let rest : drop (a + k) xs ≡ drop k (drop a xs) = sym (drop-drop k a xs) in
    let count : a + k - a ≡ k = omega arith in
    let piece : front ≡ take k (drop a xs) = e ∙ rw (count, same) refl in
    rw (whole, rest, piece) (sym (take-append-drop k (drop a xs)))

-- a part of all was written, and this rest is still to come
pub record Progress (old : Option (List ℕ)) (all : List ℕ) (now : Option (List ℕ)) (rest : List ℕ) : Type 0 where
  pub front : List ℕ
  pub written : now ≡ followed_by old front
  pub parts : front ++ rest ≡ all

pub progress_begins : (old : Option (List ℕ)) (all : List ℕ) → Progress old all old all
progress_begins old all = record { front = []; written = sym (followed_by-nil old); parts = refl }

pub progress_more : (old : Option (List ℕ)) (all : List ℕ) (now : Option (List ℕ)) (rest line more : List ℕ) (new : Option (List ℕ))
    → Progress old all now rest → rest ≡ line ++ more → new ≡ followed_by now line → Progress old all new more
progress_more old all now rest line more new p e w = record {
  front = p.front ++ line;
  written = w ∙ ap (λ (o : Option (List ℕ)). followed_by o line) p.written ∙ sym (followed_by-append old p.front line);
  parts = append_assoc p.front line more ∙ ap (λ (x : List ℕ). p.front ++ x) (sym e) ∙ p.parts;
}

pub progress_ends : (old : Option (List ℕ)) (all : List ℕ) (now : Option (List ℕ)) (rest : List ℕ)
    → Progress old all now rest → rest ≡ [] → now ≡ followed_by old all
progress_ends old all now rest p e =
    let whole : p.front ≡ all = sym (append-nil p.front) ∙ ap (λ (x : List ℕ). p.front ++ x) (sym e) ∙ p.parts in
    p.written ∙ ap (λ (x : List ℕ). followed_by old x) whole

regroup : (a b c d : List ℕ) → a ++ (b ++ c ++ d) ≡ (a ++ b) ++ (c ++ d)
regroup a b c d = simp append_assoc

pub progress_stops : (old : Option (List ℕ)) (all : List ℕ) (now : Option (List ℕ)) (rest line more : List ℕ) (new : Option (List ℕ))
    → Progress old all now rest → rest ≡ line ++ more → FollowedByFront now line new → FollowedByFront old all new
progress_stops old all now rest line more new p e f = record {
  front = p.front ++ f.front;
  back = f.back ++ more;
  parts = sym p.parts ∙ ap (λ (x : List ℕ). p.front ++ x) (e ∙ ap (λ (x : List ℕ). x ++ more) f.parts) ∙ regroup p.front f.front f.back more;
  written = f.written ∙ ap (λ (o : Option (List ℕ)). followed_by o f.front) p.written ∙ sym (followed_by-append old p.front f.front);
}

-- what a failure on the way says of the whole
pub progress_fails : {A E : Type 0} (r : Result A E) (old : Option (List ℕ)) (all : List ℕ) (now : Option (List ℕ)) (rest line more : List ℕ) (new : Option (List ℕ))
    → IsErr r → Progress old all now rest → rest ≡ line ++ more → FollowedByFront now line new → Writes r old all new
progress_fails (Ok done) old all now rest line more new h p e f = cc
progress_fails (Err error) old all now rest line more new h p e f = progress_stops old all now rest line more new p e f

-- one piece after another that came
pub writes_then : {A E : Type 0} (r : Result A E) (old mid : Option (List ℕ)) (a b : List ℕ) (new : Option (List ℕ))
    → mid ≡ followed_by old a → Writes r mid b new → Writes r old (a ++ b) new
writes_then (Ok done) old mid a b new e w = w ∙ ap (λ (o : Option (List ℕ)). followed_by o b) e ∙ sym (followed_by-append old a b)
writes_then (Err error) old mid a b new e w = record {
  front = a ++ w.front;
  back = w.back;
  parts = ap (λ (x : List ℕ). a ++ x) w.parts ∙ sym (append_assoc a w.front w.back);
  written = w.written ∙ ap (λ (o : Option (List ℕ)). followed_by o w.front) e ∙ sym (followed_by-append old a w.front);
}

-- a piece that failed, with what was to follow it
pub writes_fails : {A E : Type 0} (r : Result A E) (old : Option (List ℕ)) (a b : List ℕ) (new : Option (List ℕ))
    → IsErr r → FollowedByFront old a new → Writes r old (a ++ b) new
writes_fails (Ok done) old a b new h f = cc
writes_fails (Err error) old a b new h f = record { front = f.front; back = f.back ++ b; parts = ap (λ (x : List ℕ). x ++ b) f.parts ∙ append_assoc f.front f.back b; written = f.written }

pub writes_err : {A E : Type 0} (r : Result A E) (old : Option (List ℕ)) (bytes : List ℕ) (new : Option (List ℕ)) → IsErr r → FollowedByFront old bytes new → Writes r old bytes new
writes_err (Ok done) old bytes new h f = cc
writes_err (Err error) old bytes new h f = f

pub ruleset told_rules = (preceded_by-nil, preceded_by-append, followed_by-nil, followed_by-append)
