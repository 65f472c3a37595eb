use Rattle.std.proofs.Common.{ℕ, zero, suc, ◌≡◌, ◌+◌, ◌-◌, ◌==◌, ◌&&◌, Bool, true, false, Option, None, List, if◌then◌else◌, refl, sym, ap, ◌∙◌, arith, inl, inr, ◌⊎◌}
use Rattle.std.proofs.lemmas.Bool.Decides.{nat_tests}
use Rattle.xe_opmap.specs.declared.row.Row.{Row}
use Rattle.xe_ctx.specs.State.{State}
use Rattle.xe_ctx.specs.Supply.{Supply}
use Rattle.xe_ctx.specs.declared.report.Outcome.{Outcome}
use Rattle.xe_ctx.specs.declared.report.Outcome.TheVariants as outcomes
use Rattle.xe_core.specs.Step.{Stepped, Ended, Ends, Wants, is_done}
use Rattle.xe_core.specs.Turn.{Steps, Turn, has_more, none_made, leaves_more, goes_on, taken, behind, then_on, turn_of, last_goes_on, left_over, TurnsJoin, after_step, after_steps, Silent, no_steps, one_more}

-- Turns cut into turns.

and-left : (a b : Bool) → (a && b) ≡ true → a ≡ true
and-left true b e = refl
and-left false b e = e

more-done : (o : Outcome) → has_more o ≡ true → is_done o ≡ true
more-done (outcomes.Done more retire) h = refl
more-done (outcomes.Pending a) h = h
more-done (outcomes.Fault f) h = h
more-done (outcomes.Intercept x) h = h
more-done (outcomes.Event kind vector next) h = h
more-done (outcomes.Handoff x) h = h
more-done outcomes.Unhandled h = h
more-done (outcomes.BusFault a) h = h
more-done (outcomes.Diverged at kept wanted) h = h

-- a step that another one may follow has finished
pub goes-done : (o : Outcome) (made : List _) → leaves_more o made ≡ true → is_done o ≡ true
goes-done o made h = more-done o (and-left (has_more o) (none_made made) h)

-- ---- behind steps that finished

pub both-zero : (b t : ℕ) → ((b + t) == 0) ≡ ((b == 0) && (t == 0))
both-zero zero t = grind (arith, nat_tests)
both-zero (suc b) t = grind (arith, nat_tests)

pub choose : (p q r : Bool) (x y z : Option Row) → p ≡ (r && q) → (if p then x else if q then y else z) ≡ (if q then (if r then x else y) else z)
choose p true true x y z e = rw e refl
choose p true false x y z e = rw e refl
choose p false true x y z e = rw e refl
choose p false false x y z e = rw e refl

pub behind_behind : (a b : ℕ) (x y : Option Row) (t : Turn) → behind a x (behind b y t) ≡ behind (a + b) (if b == 0 then x else y) t
behind_behind a b x y t =
    let count : a + (b + t.elements) ≡ a + b + t.elements = omega arith in
    let last : (if (b + t.elements) == 0 then x else if t.elements == 0 then y else t.finished) ≡ (if t.elements == 0 then (if b == 0 then x else y) else t.finished) = choose _ (t.elements == 0) (b == 0) x y t.finished (both-zero b t.elements) in
    rw (count, last) refl

module _ (steps : Steps) where
  -- a turn and what follows it
  abbrev joined : Turn → ℕ → Turn
  joined t b = behind t.elements t.finished (turn_of steps b t.state (left_over t.last))

  join-one : (b : ℕ) (s : State) (came : Stepped) → last_goes_on (taken s came).last ≡ true → then_on (λ e. turn_of steps b e.state e.rest) s came ≡ joined (taken s came) b
  join-one b s (Ends e) h = let d = goes-done e.outcome e.made h in rw (h, d) refl
  join-one b s (Wants w) h = cc

  join-more : (a b : ℕ) (s : State) (came : Stepped) → ((u : State) (rest : Supply) → last_goes_on (turn_of steps a u rest).last ≡ true → turn_of steps (suc (a + b)) u rest ≡ joined (turn_of steps a u rest) b) → last_goes_on (then_on (λ e. turn_of steps a e.state e.rest) s came).last ≡ true → then_on (λ e. turn_of steps (suc (a + b)) e.state e.rest) s came ≡ joined (then_on (λ e. turn_of steps a e.state e.rest) s came) b
  join-more a b s (Ends e) hyp h = by-test (goes_on e) refl where
    by-test : (g : Bool) → goes_on e ≡ g → then_on (λ e. turn_of steps (suc (a + b)) e.state e.rest) s (Ends e) ≡ joined (then_on (λ e. turn_of steps a e.state e.rest) s (Ends e)) b
    by-test true g =
        let on : last_goes_on (turn_of steps a e.state e.rest).last ≡ true = rw g at h in
        let all = hyp e.state e.rest on in
        rw (g, all) (behind_behind 1 (turn_of steps a e.state e.rest).elements e.row (turn_of steps a e.state e.rest).finished (turn_of steps b (turn_of steps a e.state e.rest).state (left_over (turn_of steps a e.state e.rest).last)))
    by-test false g = (let un : false ≡ true = (let h2 : goes_on e ≡ true = rw g at h in sym g ∙ h2) in cc)
  join-more a b s (Wants w) hyp h = cc

  pub join-of : (a b : ℕ) (s : State) (supply : Supply) → last_goes_on (turn_of steps a s supply).last ≡ true → turn_of steps (suc (a + b)) s supply ≡ joined (turn_of steps a s supply) b
  unfolding turn_of
  join-of zero b s supply h = let e : suc (zero + b) ≡ suc b = omega arith in ap (λ n. turn_of steps n s supply) e ∙ join-one b s (steps s supply) h
  join-of (suc a) b s supply h = let e : suc (suc a + b) ≡ suc (suc (a + b)) = omega arith in ap (λ n. turn_of steps n s supply) e ∙ join-more a b s (steps s supply) (λ u rest g. join-of a b u rest g) h

  -- ---- silent steps

  -- nothing finished, no row
  unfinished : (t : Turn) → (t.elements == 0 ≡ true → t.finished ≡ None) → behind 0 None t ≡ t
  unfinished t h = by-test (t.elements == 0) refl where
    by-test : (z : Bool) → (t.elements == 0) ≡ z → behind 0 None t ≡ t
    by-test true z = let f = h z in let e : 0 + t.elements ≡ t.elements = omega arith in rw (e, z, ← f) refl
    by-test false z = let e : 0 + t.elements ≡ t.elements = omega arith in rw (e, z) refl

  one-unfinished : (s : State) (came : Stepped) → (taken s came).elements == 0 ≡ true → (taken s came).finished ≡ None
  one-unfinished s (Wants w) h = refl
  one-unfinished s (Ends e) h = by-test (is_done e.outcome) refl where
    by-test : (d : Bool) → is_done e.outcome ≡ d → (if is_done e.outcome then e.row else None) ≡ None
    by-test true d = (let un : (1 == 0) ≡ true = rw d at h in cc)
    by-test false d = rw d refl

  then-unfinished : (onward : Ended → Turn) (s : State) (came : Stepped) → (then_on onward s came).elements == 0 ≡ true → (then_on onward s came).finished ≡ None
  then-unfinished onward s (Wants w) h = refl
  then-unfinished onward s (Ends e) h = by-test (goes_on e) refl where
    by-test : (g : Bool) → goes_on e ≡ g → (then_on onward s (Ends e)).finished ≡ None
    by-test true g = (let z : ((1 + (onward e).elements) == 0) ≡ true = rw g at h in absurd (grind (arith, nat_tests)))
    by-test false g = (let z : ((taken s (Ends e)).elements == 0) ≡ true = rw g at h in rw g (one-unfinished s (Ends e) z))

  pub turn-unfinished : (m : ℕ) (s : State) (supply : Supply) → (turn_of steps m s supply).elements == 0 ≡ true → (turn_of steps m s supply).finished ≡ None
  unfolding turn_of
  turn-unfinished zero s supply h = one-unfinished s (steps s supply) h
  turn-unfinished (suc m) s supply h = then-unfinished _ s (steps s supply) h

  pub silent_turn : (s : State) (supply : Supply) (m : ℕ) {k : ℕ} {row : Option Row} {mid : State} → Silent steps s k row mid → turn_of steps (k + m) s supply ≡ behind k row (turn_of steps m mid supply)
  unfolding turn_of
  silent_turn s supply m no_steps = let e : 0 + m ≡ m = omega arith in ap (λ n. turn_of steps n s supply) e ∙ sym (unfinished (turn_of steps m s supply) (turn-unfinished m s supply))
  silent_turn s supply m (one_more {k = k} {row = row} {next = next} {mid = mid} {after = after} before g) =
      let e : suc k + m ≡ k + suc m = omega arith in
      let here : turn_of steps (suc m) mid supply ≡ behind 1 next (turn_of steps m after supply) = ap (λ came. then_on (λ x. turn_of steps m x.state x.rest) mid came) (g.comes supply) in
      let one : k + 1 ≡ suc k = omega arith in
      ap (λ n. turn_of steps n s supply) e ∙ silent_turn s supply (suc m) before ∙ ap (behind k row) here ∙ behind_behind k 1 row next (turn_of steps m after supply) ∙ ap (λ n. behind n next (turn_of steps m after supply)) one

  pub silent_state : (s : State) (supply : Supply) (j : ℕ) {k : ℕ} {row : Option Row} {mid : State} → Silent steps s k row mid → after_steps steps (k + j) s supply ≡ after_steps steps j mid supply
  unfolding after_steps
  silent_state s supply j no_steps = let e : 0 + j ≡ j = omega arith in ap (λ n. after_steps steps n s supply) e
  silent_state s supply j (one_more {k = k} {mid = mid} {after = after} before g) =
      let e : suc k + j ≡ k + suc j = omega arith in
      let here : after_steps steps (suc j) mid supply ≡ after_steps steps j after supply = ap (λ came. after_step (λ x. after_steps steps j x.state x.rest) mid came) (g.comes supply) in
      ap (λ n. after_steps steps n s supply) e ∙ silent_state s supply (suc j) before ∙ here

  pub state_none : (s : State) (supply : Supply) → after_steps steps 0 s supply ≡ s
  unfolding after_steps
  state_none s supply = refl

  pub state_once : (s : State) (supply : Supply) (e : Ended) → steps s supply ≡ Ends e → after_steps steps 1 s supply ≡ e.state
  unfolding after_steps
  state_once s supply e h = ap (λ came. after_step (λ x. after_steps steps 0 x.state x.rest) s came) h

  -- a turn that ends with its first step
  single-then : (onward : Ended → Turn) (s : State) (came : Stepped) → last_goes_on came ≡ false → then_on onward s came ≡ taken s came
  single-then onward s (Ends e) h = rw h refl
  single-then onward s (Wants w) h = refl

  pub single : (m : ℕ) (s : State) (supply : Supply) → (m ≡ 0) ⊎ (last_goes_on (steps s supply) ≡ false) → turn_of steps m s supply ≡ taken s (steps s supply)
  unfolding turn_of
  single zero s supply h = refl
  single (suc m) s supply (inl e) = absurd (omega arith)
  single (suc m) s supply (inr h) = single-then _ s (steps s supply) h

pub turns_join : (steps : Steps) → TurnsJoin steps
turns_join steps k n s supply one below h =
    let e : n - 1 ≡ suc (k - 1 + (n - k - 1)) = omega arith in
    ap (λ m. turn_of steps m s supply) e ∙ join-of steps (k - 1) (n - k - 1) s supply h
