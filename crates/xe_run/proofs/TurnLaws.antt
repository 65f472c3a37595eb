-- The calls of one turn, and the steps before its last one.
use Rattle.std.proofs.Common.{◌≡◌, ℕ, zero, suc, ◌==◌, subst, ◌+◌, ◌-◌, ◌<◌, ◌≤◌, List, [], ◌∷◌, ◌++◌, length, Bool, true, false, Option, Some, None, refl, sym, ap, ◌∙◌, arith, if◌then◌else◌, inl, inr, ◌⊎◌}
use Rattle.std.proofs.lemmas.List.{length-append}
use Rattle.xe_base.specs.declared.access.Access.{Access}
use Rattle.xe_base.specs.declared.access.Made.{Made}
use Rattle.xe_opmap.specs.declared.row.Row.{Row}
use Rattle.xe_core.specs.Call.{Call, Tells, Stands, StandsEach, Played, LeftBy, FollowsTape, Fits, Led, divergence, called, lacking, lacking_last, waiting, standing, one_call, steps_before, before_last, alone}
use Rattle.xe_core.specs.Tried.{called_once}
use Rattle.xe_core.specs.Turn.{Steps, Silent, no_steps, one_more, taken, leaves_more, goes_on, last_goes_on}
use Rattle.xe_core.specs.Turn as cores
use Rattle.xe_core.proofs.TurnLaws.{single, choose, both-zero}
use Rattle.xe_core.proofs.Turning.{lacking_taken, goes-as}
use Rattle.xe_icpt.specs.declared.exit.Exit.{Exit}
use Rattle.xe_icpt.specs.declared.point.Point.{Point}
use Rattle.xe_core.specs.Call as calls
use Rattle.xe_ctx.specs.Kept.{Kept, nothing}
use Rattle.xe_ctx.specs.State.{State}
use Rattle.xe_core.specs.Step.{Stepped, Ends, Wants, Ended, is_diverged}
use Rattle.xe_ctx.specs.Supply.{Supply, Lack, Lacks, Unanswered, Unready, Failing, answers, answers_alone, from_tape, next_answer}
use Rattle.xe_ctx.specs.Tape.{Tape, ask}
use Rattle.xe_ctx.specs.declared.report.Outcome.{Outcome}
use Rattle.xe_ctx.specs.declared.report.Outcome.TheVariants as ends
use Rattle.xe_ctx.specs.declared.report.Report.{Report}
use Rattle.xe_core.specs.Emulate.{step_of, steps_of}
use Rattle.xe_run.specs.Reported.{reported, count_at, with_waits, is_pending}
use Rattle.xe_run.specs.Turn.{Answered, Turn, counted, rounds, step_over, led, going_on, turn_over}
use Rattle.xe_run.proofs.StepLaws.{from, resumes_first, waits_left, round-ends, round-waits, round-fails, left-waits, lacks_unready, lacks_failing, given_first, stands_behind, goes-on-by}

-- ---- the calls of one turn

-- between two calls of a turn: the turn is what follows from the answers that are kept
pub record Going (hits : Point → Option Exit) (V : Turn) (s : State) (kept : Kept) (counts : List ℕ) (t : Tape) : Type 0 where
  pub whole : V ≡ from (rounds - length kept.answers) s (step_of s hits) kept.answers counts t
  pub few : length kept.answers ≤ 256
  pub reached : length counts ≤ length kept.answers + 1
  pub fits : Fits (step_of s hits) kept

-- the measure of the calls of a turn: how often a device will still not be ready
abbrev pub waits_ahead : (Point → Option Exit) → State → Kept → Tape → ℕ
waits_ahead hits s kept t = waits_left (rounds - length kept.answers) (step_of s hits) (answers kept.answers) t

-- the measure between two of its calls, where the last one ended so
abbrev pub measure : (Point → Option Exit) → Report → State → Kept → Tape → ℕ
measure hits r s kept t = if is_pending r.outcome then waits_ahead hits s kept t + 1 else 0

-- what one call of a turn says: from the old state, record and script to the new ones
pub record Calls (hits : Point → Option Exit) (s : State) (kept : Kept) (t : Tape) (r : Report) (after : State) (left : Kept) (new : Tape) : Type 0 where
  pub tells : Tells (divergence (step_of s hits) kept) (steps_of hits) 1 s kept r after left
  pub fitting : Fits (step_of s hits) kept → is_diverged r.outcome ≡ false
  pub asks : is_diverged r.outcome ≡ false → StandsEach (step_of s hits) r.row [] r.accesses.items
  pub stands : Stands r.outcome (step_of s hits) r.row r.accesses.items
  pub plays : is_diverged r.outcome ≡ false → Played kept t r (Some new)
  pub fits : is_diverged r.outcome ≡ false → Fits (step_of after hits) left
  pub most : length r.accesses.items ≤ 256

-- what has become of a turn after one call of it
record After (hits : Point → Option Exit) (V : Turn) (s : State) (kept : Kept) (counts : List ℕ) (t : Tape) (r : Report) (after : State) (left : Kept) (new : Tape) : Type 0 where
  pub tape : Tape
  pub whole : V ≡ from (rounds - length r.accesses.items) s (step_of s hits) r.accesses.items counts tape
  ahead : waits_ahead hits s kept t ≡ waits_left (rounds - length r.accesses.items) (step_of s hits) (answers r.accesses.items) tape
  pub reached : length counts ≤ length r.accesses.items + 1
  pub more : length kept.answers ≤ length r.accesses.items
  left_ : LeftBy r.outcome (from_tape tape) (from_tape new)
  pub told : called_once s (lacking r.outcome (step_of s hits (answers_alone (answers r.accesses.items)))) ≡ calls.reported r after left None

some_same : (t u : Tape) → Some t ≡ Some u → u ≡ t
some_same t u e = cc

left_same : (o : Outcome) (mid other rest : Supply) → mid ≡ other → LeftBy o mid rest → LeftBy o other rest
left_same o mid other rest e h = rw (← e) h

length_of : (all front back : List Made) → all ≡ front ++ back → length all ≡ length front + length back
length_of all front back e = ap (λ (l : List Made). length l) e ∙ length-append front back

pub told-once : (hits : Point → Option Exit) (s : State) (r : Report) (after : State) (left : Kept) → called (lacking_last r.outcome (cores.turn (steps_of hits) 1 s (answers_alone (answers r.accesses.items)))) ≡ calls.reported r after left None → called_once s (lacking r.outcome (step_of s hits (answers_alone (answers r.accesses.items)))) ≡ calls.reported r after left None
told-once hits s r after left h =
    let zero_left : 1 - 1 ≡ 0 = omega arith in
    let one : cores.turn (steps_of hits) 1 s (answers_alone (answers r.accesses.items)) ≡ taken s (step_of s hits (answers_alone (answers r.accesses.items))) = ap (λ k. cores.turn_of (steps_of hits) k s (answers_alone (answers r.accesses.items))) zero_left ∙ single (steps_of hits) 0 s (answers_alone (answers r.accesses.items)) (inl refl) in
    sym (ap (λ x. called (lacking_last r.outcome x)) one ∙ ap called (lacking_taken s r.outcome (step_of s hits (answers_alone (answers r.accesses.items))))) ∙ h

gone_on : (hits : Point → Option Exit) (V : Turn) (s : State) (kept : Kept) (counts : List ℕ) (t : Tape) (r : Report) (after : State) (left : Kept) (new : Tape)
    → Going hits V s kept counts t → Calls hits s kept t r after left new → After hits V s kept counts t r after left new
gone_on hits V s kept counts t r after left new g c =
    let stepping = step_of s hits in
    let same = c.fitting g.fits in
    let told = rw g.fits at c.tells in
    let fresh = told.0 in
    let played = c.plays same in
    let n : length r.accesses.items ≡ length kept.answers + length fresh = length_of r.accesses.items kept.answers fresh told.1 in
    let behind = stands_behind stepping r.row [] kept.answers fresh (rw told.1 at c.asks same) in
    let supplies = given_first kept.answers fresh (Some t) played.mid (rw told.1 at played.supplies) in
    let on = goes-on-by (rounds - length kept.answers) (rounds - length r.accesses.items) s stepping r.row kept.answers fresh counts t played.mid (omega (arith, n, c.most)) g.reached behind supplies in
    record {
      tape = on.tape;
      whole = g.whole ∙ on.whole ∙ ap (λ (l : List Made). from (rounds - length r.accesses.items) s stepping l counts on.tape) (sym told.1);
      ahead = on.left ∙ ap (λ (l : List Made). waits_left (rounds - length r.accesses.items) stepping (answers l) on.tape) (sym told.1);
      reached = omega (arith, n, g.reached);
      more = omega (arith, n);
      left_ = rw (some_same new played.tape played.after_is) at (left_same r.outcome played.mid (from_tape on.tape) (from_tape played.tape) on.is played.left);
      told = told-once hits s r after left told.2;
    }

-- ---- a call that ended at a device that isn't ready

pending_at : (o : Outcome) → is_pending o ≡ true → (a : Access) × (o ≡ ends.Pending a)
pending_at (ends.Pending a) h = (a, refl)
pending_at (ends.Done more retire) h = absurd (cc)
pending_at (ends.Fault fault) h = absurd (cc)
pending_at (ends.Intercept exit) h = absurd (cc)
pending_at (ends.Event kind vector next) h = absurd (cc)
pending_at (ends.Handoff handoff) h = absurd (cc)
pending_at ends.Unhandled h = absurd (cc)
pending_at (ends.BusFault a) h = absurd (cc)
pending_at (ends.Diverged at kept wanted) h = absurd (cc)

-- the turn goes on, and a device will be found not ready once less
pub record Again (hits : Point → Option Exit) (V : Turn) (s : State) (kept : Kept) (t : Tape) (made : ℕ) (after : State) (left : Kept) (counts : List ℕ) (new : Tape) : Type 0 where
  pub going : Going hits V after left counts new
  pub less : waits_ahead hits after left new < waits_ahead hits s kept t
  pub keeps : length left.answers ≡ made
  pub more : length kept.answers ≤ made

tape_same : (t u : Tape) → from_tape t ≡ from_tape u → t ≡ u
tape_same t u e = sym (some_same t u (ap (λ (x : Supply). x.tape) e))

left_pending : (o : Outcome) (a : Access) (mid rest : Supply) → o ≡ ends.Pending a → LeftBy o mid rest → next_answer mid a ≡ Lacks Unready rest
left_pending o a mid rest e h = rw e at h

left_failing : (o : Outcome) (a : Access) (mid rest : Supply) → o ≡ ends.BusFault a → LeftBy o mid rest → next_answer mid a ≡ Lacks Failing rest
left_failing o a mid rest e h = rw e at h

lacking_pending : (o : Outcome) (a : Access) (came : Stepped) → o ≡ ends.Pending a → lacking o came ≡ came
lacking_pending o a came e = rw e refl

-- a step that stands at an access whose device failed
abbrev failing : Option Row → Access → List Made → Stepped
failing row a made = Wants (record { row = row; access = a; lack = Failing; made = made; rest = answers_alone [] })

lacking_failing : (o : Outcome) (a : Access) (row : Option Row) (made : List Made) (came : Stepped) → o ≡ ends.BusFault a → came ≡ standing row a made → lacking o came ≡ failing row a made
lacking_failing o a row made came e h = rw (e, h) refl

stands_pending : (o : Outcome) (a : Access) (stepping : Supply → Stepped) (row : Option Row) (made : List Made) → o ≡ ends.Pending a → Stands o stepping row made → stepping (answers_alone (answers made)) ≡ standing row a made
stands_pending o a stepping row made e h = rw e at h

stands_failing : (o : Outcome) (a : Access) (stepping : Supply → Stepped) (row : Option Row) (made : List Made) → o ≡ ends.BusFault a → Stands o stepping row made → stepping (answers_alone (answers made)) ≡ standing row a made
stands_failing o a stepping row made e h = rw e at h

pub goes-again : (hits : Point → Option Exit) (V : Turn) (s : State) (kept : Kept) (old counts : List ℕ) (t : Tape) (r : Report) (after : State) (left : Kept) (new : Tape)
    → Going hits V s kept old t → Calls hits s kept t r after left new → is_pending r.outcome ≡ true
    → length left.answers ≤ 255 → length counts ≡ length left.answers + 1
    → ((k : ℕ) → k < length left.answers → count_at counts k ≡ count_at old k) → count_at counts (length left.answers) ≡ counted (count_at old (length left.answers) + 1)
    → Again hits V s kept t (length r.accesses.items) after left counts new
goes-again hits V s kept old counts t r after left new g c pending few reached before here =
    let stepping = step_of s hits in
    let made = r.accesses.items in
    let x = gone_on hits V s kept old t r after left new g c in
    let at = pending_at r.outcome pending in
    let a = at.0 in
    let stands = stands_pending r.outcome a stepping r.row made at.1 c.stands in
    let told : called_once s (standing r.row a made) ≡ calls.reported r after left None =
    ap (λ (came : Stepped). called_once s came) (sym (lacking_pending r.outcome a (stepping (answers_alone (answers made))) at.1 ∙ stands)) ∙ x.told in
    let keeps : left.answers ≡ made = sym (ap (λ (d : Call). d.kept.answers) told) in
    let stays : after ≡ s = sym (ap (λ (d : Call). d.state) told) in
    let lacks = lacks_unready (ask x.tape a).reply (from_tape (ask x.tape a).after) (from_tape new) (left_pending r.outcome a (from_tape x.tape) (from_tape new) at.1 x.left_) in
    let moved : new ≡ (ask x.tape a).after = tape_same new (ask x.tape a).after lacks.1 in
    let one : rounds - length made ≡ (rounds - length made - 1) + 1 = omega (arith, c.most) in
    let next = round-waits (rounds - length made) (rounds - length made - 1) s stepping r.row made old counts x.tape a one stands lacks.0 (rw keeps at before) (rw keeps at here) in
    let less = left-waits (rounds - length made) (rounds - length made - 1) stepping r.row made x.tape a one stands lacks.0 in
    record {
      going = record {
        whole = rw (keeps, stays, moved) (x.whole ∙ next);
        few = omega (arith, few);
        reached = omega (arith, reached);
        fits = c.fits (c.fitting g.fits);
      };
      less = rw (keeps, stays, moved) (omega (arith, x.ahead, less));
      keeps = ap (λ (l : List Made). length l) keeps;
      more = x.more;
    }

-- what is known of a call that ended at a device that isn't ready: devices will be found not ready once less behind it
pub record Suspends (hits : Point → Option Exit) (s : State) (kept : Kept) (counts : List ℕ) (t : Tape) (made : ℕ) (after : State) (left : Kept) (new : Tape) : Type 0 where
  pub less : waits_ahead hits after left new < waits_ahead hits s kept t
  pub reached : length counts ≤ length left.answers + 1
  pub keeps : length left.answers ≡ made
  pub more : length kept.answers ≤ made

pub suspends : (hits : Point → Option Exit) (V : Turn) (s : State) (kept : Kept) (counts : List ℕ) (t : Tape) (r : Report) (after : State) (left : Kept) (new : Tape)
    → Going hits V s kept counts t → Calls hits s kept t r after left new → is_pending r.outcome ≡ true → Suspends hits s kept counts t (length r.accesses.items) after left new
suspends hits V s kept counts t r after left new g c pending =
    let stepping = step_of s hits in
    let made = r.accesses.items in
    let x = gone_on hits V s kept counts t r after left new g c in
    let at = pending_at r.outcome pending in
    let a = at.0 in
    let stands = stands_pending r.outcome a stepping r.row made at.1 c.stands in
    let told : called_once s (standing r.row a made) ≡ calls.reported r after left None =
    ap (λ (came : Stepped). called_once s came) (sym (lacking_pending r.outcome a (stepping (answers_alone (answers made))) at.1 ∙ stands)) ∙ x.told in
    let keeps : left.answers ≡ made = sym (ap (λ (d : Call). d.kept.answers) told) in
    let stays : after ≡ s = sym (ap (λ (d : Call). d.state) told) in
    let lacks = lacks_unready (ask x.tape a).reply (from_tape (ask x.tape a).after) (from_tape new) (left_pending r.outcome a (from_tape x.tape) (from_tape new) at.1 x.left_) in
    let moved : new ≡ (ask x.tape a).after = tape_same new (ask x.tape a).after lacks.1 in
    let one : rounds - length made ≡ (rounds - length made - 1) + 1 = omega (arith, c.most) in
    let less = left-waits (rounds - length made) (rounds - length made - 1) stepping r.row made x.tape a one stands lacks.0 in
    record {
      less = rw (keeps, stays, moved) (omega (arith, x.ahead, less));
      reached = rw keeps x.reached;
      keeps = ap (λ (l : List Made). length l) keeps;
      more = x.more;
    }

-- ---- a call that ended the turn

abbrev is_bus_fault : Outcome → Bool
is_bus_fault (ends.BusFault a) = true
is_bus_fault _ = false

fails_or : (o : Outcome) → ((a : Access) × (o ≡ ends.BusFault a)) ⊎ (is_bus_fault o ≡ false)
fails_or (ends.BusFault a) = inl (a, refl)
fails_or (ends.Pending a) = inr refl
fails_or (ends.Done more retire) = inr refl
fails_or (ends.Fault fault) = inr refl
fails_or (ends.Intercept exit) = inr refl
fails_or (ends.Event kind vector next) = inr refl
fails_or (ends.Handoff handoff) = inr refl
fails_or ends.Unhandled = inr refl
fails_or (ends.Diverged at kept wanted) = inr refl

lacking_same : (o : Outcome) (came : Stepped) → is_bus_fault o ≡ false → lacking o came ≡ came
lacking_same (ends.BusFault a) came h = absurd (cc)
lacking_same (ends.Pending a) came h = refl
lacking_same (ends.Done more retire) came h = refl
lacking_same (ends.Fault fault) came h = refl
lacking_same (ends.Intercept exit) came h = refl
lacking_same (ends.Event kind vector next) came h = refl
lacking_same (ends.Handoff handoff) came h = refl
lacking_same ends.Unhandled came h = refl
lacking_same (ends.Diverged at kept wanted) came h = refl

left_plain : (o : Outcome) (mid rest : Supply) → is_pending o ≡ false → is_bus_fault o ≡ false → LeftBy o mid rest → mid ≡ rest
left_plain (ends.BusFault a) mid rest p h l = absurd (cc)
left_plain (ends.Pending a) mid rest p h l = absurd (cc)
left_plain (ends.Done more retire) mid rest p h l = l
left_plain (ends.Fault fault) mid rest p h l = l
left_plain (ends.Intercept exit) mid rest p h l = l
left_plain (ends.Event kind vector next) mid rest p h l = l
left_plain (ends.Handoff handoff) mid rest p h l = l
left_plain ends.Unhandled mid rest p h l = l
left_plain (ends.Diverged at kept wanted) mid rest p h l = l

-- a turn of one call
abbrev turn_by : List Answered → Tape → Call → Turn
turn_by so_far t c = record { steps = c.elements; finished = c.finished; row = c.row; accesses = so_far; outcome = c.outcome; state = c.state; tape = t }

waits_so : (lack : Lack) (a : Access) (o : Outcome) → waiting lack a ≡ o → is_pending o ≡ false → is_bus_fault o ≡ false → ⊥
waits_so Unanswered a o e p f = cc
waits_so Unready a o e p f = cc
waits_so Failing a o e p f = cc

-- a step that came to an end of its own
ends_so : (n m : ℕ) (s : State) (stepping : Supply → Stepped) (counts : List ℕ) (tape : Tape) (r : Report) (after : State) (left : Kept) (came : Stepped)
    → n ≡ m + 1 → stepping (answers_alone (answers r.accesses.items)) ≡ came → called_once s came ≡ calls.reported r after left None
    → is_pending r.outcome ≡ false → is_bus_fault r.outcome ≡ false
    → from n s stepping r.accesses.items counts tape ≡ reported r counts after tape
ends_so n m s stepping counts tape r after left (Ends e) one h told p f =
    round-ends n m s stepping r.accesses.items counts tape e one h ∙ ap (λ (c : Call). turn_by (with_waits r.accesses.items counts) tape c) told
ends_so n m s stepping counts tape r after left (Wants x) one h told p f = absurd (waits_so x.lack x.access r.outcome (ap (λ (c : Call). c.outcome) told) p f)

pub step-ends : (hits : Point → Option Exit) (V : Turn) (s : State) (kept : Kept) (counts : List ℕ) (t : Tape) (r : Report) (after : State) (left : Kept) (new : Tape)
    → Going hits V s kept counts t → Calls hits s kept t r after left new → is_pending r.outcome ≡ false → V ≡ reported r counts after new
step-ends hits V s kept counts t r after left new g c ended_ =
    let stepping = step_of s hits in
    let made = r.accesses.items in
    let x = gone_on hits V s kept counts t r after left new g c in
    let one : rounds - length made ≡ (rounds - length made - 1) + 1 = omega (arith, c.most) in
    elim (fails_or r.outcome) [
      | inl at ↦
          (let a = at.0 in
          let stands = stands_failing r.outcome a stepping r.row made at.1 c.stands in
          let told : called_once s (failing r.row a made) ≡ calls.reported r after left None =
          ap (λ (came : Stepped). called_once s came) (sym (lacking_failing r.outcome a r.row made (stepping (answers_alone (answers made))) at.1 stands)) ∙ x.told in
          let lacks = lacks_failing (ask x.tape a).reply (from_tape (ask x.tape a).after) (from_tape new) (left_failing r.outcome a (from_tape x.tape) (from_tape new) at.1 x.left_) in
          let moved : (ask x.tape a).after ≡ new = sym (tape_same new (ask x.tape a).after lacks.1) in
          x.whole
          ∙ round-fails (rounds - length made) (rounds - length made - 1) s stepping r.row made counts x.tape a one stands lacks.0
          ∙ ap (λ (c : Call). turn_by (with_waits made counts) (ask x.tape a).after c) told
          ∙ ap (λ (u : Tape). reported r counts after u) moved)
      | inr plain ↦
          (let moved : x.tape ≡ new = tape_same x.tape new (left_plain r.outcome (from_tape x.tape) (from_tape new) ended_ plain x.left_) in
          x.whole
          ∙ ends_so (rounds - length made) (rounds - length made - 1) s stepping counts x.tape r after left (stepping (answers_alone (answers made))) one refl
          (ap (λ (came : Stepped). called_once s came) (sym (lacking_same r.outcome (stepping (answers_alone (answers made))) plain)) ∙ x.told) ended_ plain
          ∙ ap (λ (u : Tape). reported r counts after u) moved)
    ]

-- ---- the steps before the last one

led_led : (a b : ℕ) (x y : Option Row) (t : Turn) → led a x (led b y t) ≡ led (a + b) (if b == 0 then x else y) t
led_led a b x y t =
    let count : a + (b + t.steps) ≡ a + b + t.steps = omega arith in
    let last : (if (b + t.steps) == 0 then x else if t.steps == 0 then y else t.finished) ≡ (if t.steps == 0 then (if b == 0 then x else y) else t.finished) = choose _ (t.steps == 0) (b == 0) x y t.finished (both-zero b t.steps) in
    rw (count, last) refl

module _ (hits : Point → Option Exit) where
  -- what is left of a turn of a step and so many behind it, whose first step goes on from what is kept
  pub rest-of : ℕ → State → Kept → List ℕ → Tape → Turn
  rest-of zero s kept counts t = from (rounds - length kept.answers) s (step_of s hits) kept.answers counts t
  rest-of (suc n) s kept counts t = going_on (λ e. turn_over (steps_of hits) n e.state t) (from (rounds - length kept.answers) s (step_of s hits) kept.answers counts t) (step_of s hits (answers_alone []))

  begins-with : (s : State) (t : Tape) → step_over s (step_of s hits) t ≡ from (rounds - length nothing.answers) s (step_of s hits) [] [] t
  begins-with s t = sym (resumes_first rounds s (step_of s hits) [] t)

  pub over-rest : (n : ℕ) (s : State) (t : Tape) → turn_over (steps_of hits) n s t ≡ rest-of n s nothing [] t
  unfolding turn_over rest-of
  over-rest zero s t = begins-with s t
  over-rest (suc n) s t = ap (λ x. going_on (λ e. turn_over (steps_of hits) n e.state t) x (step_of s hits (answers_alone []))) (begins-with s t)

  -- a turn is another one, behind so many steps that finished, the last of them of this row
  abbrev pub Leads : ℕ → Option Row → Turn → Turn → Type 0
  Leads k f whole V = ((whole ≡ V) × (k ≡ 0) × (f ≡ None)) ⊎ (whole ≡ led k f V)

  pub leads-on : (k : ℕ) (f : Option Row) (x y u v : Turn) → x ≡ y → Leads k f y u → u ≡ v → Leads k f x v
  leads-on k f x y u v a (inl h) b = inl (a ∙ h.0 ∙ b, h.1, h.2)
  leads-on k f x y u v a (inr h) b = inr (a ∙ h ∙ ap (led k f) b)

  -- the turn behind steps that finished and made no access
  pub silent-rest : (s : State) (t : Tape) (m : ℕ) {k : ℕ} {row : Option Row} {mid : State} → Silent (steps_of hits) s k row mid → Leads k row (rest-of (k + m) s nothing [] t) (rest-of m mid nothing [] t)
  unfolding rest-of
  silent-rest s t m no_steps = let e : 0 + m ≡ m = omega arith in inl (ap (λ n. rest-of n s nothing [] t) e, refl, refl)
  silent-rest s t m (one_more {k = k} {row = row} {next = next} {mid = mid} {after = after} before g) =
      let e : suc k + m ≡ k + suc m = omega arith in
      let one : k + 1 ≡ suc k = omega arith in
      let here : rest-of (suc m) mid nothing [] t ≡ led 1 next (rest-of m after nothing [] t) = ap (going_on (λ x. turn_over (steps_of hits) m x.state t) (from (rounds - length nothing.answers) mid (step_of mid hits) [] [] t)) (g.comes (answers_alone [])) ∙ ap (led 1 next) (over-rest m after t) in
      elim (silent-rest s t (suc m) before) [
        | inl h ↦ let z = h.1 in let single_one : 1 ≡ suc k = omega arith in inr (ap (λ n. rest-of n s nothing [] t) e ∙ h.0 ∙ here ∙ ap (λ n. led n next (rest-of m after nothing [] t)) single_one)
        | inr h ↦ inr (ap (λ n. rest-of n s nothing [] t) e ∙ h ∙ ap (led k row) here ∙ led_led k 1 row next (rest-of m after nothing [] t) ∙ ap (λ n. led n next (rest-of m after nothing [] t)) one)
      ]

  pub silent-none : (s : State) {k : ℕ} {row : Option Row} {mid : State} → Silent (steps_of hits) s k row mid → k ≡ 0 → mid ≡ s
  silent-none s no_steps z = refl
  silent-none s (one_more before g) z = absurd (omega arith)

  rest-last : (onward : Ended → Turn) (x : Turn) (came : Stepped) → last_goes_on came ≡ false → going_on onward x came ≡ x
  rest-last onward x (Ends e) h = rw h refl
  rest-last onward x (Wants w) h = refl

  -- a turn that ends with this step
  pub rest-single : (n : ℕ) (s : State) (t : Tape) → (n ≡ 0) ⊎ (last_goes_on (step_of s hits (answers_alone [])) ≡ false) → rest-of n s nothing [] t ≡ from (rounds - length nothing.answers) s (step_of s hits) [] [] t
  unfolding rest-of
  rest-single zero s t h = refl
  rest-single (suc n) s t (inl e) = absurd (omega arith)
  rest-single (suc n) s t (inr h) = rest-last _ _ (step_of s hits (answers_alone [])) h

-- what a call of at most n steps says
pub record Says (hits : Point → Option Exit) (n : ℕ) (s : State) (kept : Kept) (t : Tape) (r : Report) (after : State) (left : Kept) (new : Tape) : Type 0 where
  pub led_ : Led (steps_of hits) n s kept r after left
  pub fitting : Fits (step_of s hits) kept → is_diverged r.outcome ≡ false
  pub asks : is_diverged r.outcome ≡ false → StandsEach (step_of (before_last (steps_of hits) s r) hits) r.row [] r.accesses.items
  pub stands : Stands r.outcome (step_of (before_last (steps_of hits) s r) hits) r.row r.accesses.items
  pub plays : is_diverged r.outcome ≡ false → Played kept t r (Some new)
  pub fits : is_diverged r.outcome ≡ false → Fits (step_of after hits) left
  pub most : length r.accesses.items ≤ 256

pub says-as : (n : ℕ) (s : State) (kept : Kept) (t : Tape) (r : Report) (after : State) (left : Kept) (new : Tape) (a b : Point → Option Exit) → a ≡ b → Says a n s kept t r after left new → Says b n s kept t r after left new
says-as n s kept t r after left new a b e c = subst (λ (hits : Point → Option Exit). Says hits n s kept t r after left new) e c

-- its last step is a call of its own, from the state before it
pub calls-of : (hits : Point → Option Exit) (n : ℕ) (s b : State) (kept : Kept) (t : Tape) (r : Report) (after : State) (left : Kept) (new : Tape)
    → Says hits n s kept t r after left new → before_last (steps_of hits) s r ≡ b → (Fits (step_of b hits) kept → Fits (step_of s hits) kept) → Calls hits b kept t (alone r) after left new
calls-of hits n s b kept t r after left new c e fit = record {
  tells = subst (λ (x : State). Tells (divergence (step_of x hits) kept) (steps_of hits) 1 x kept (alone r) after left) e c.led_.last;
  fitting = λ h. c.fitting (fit h);
  asks = λ h. subst (λ (x : State). StandsEach (step_of x hits) r.row [] r.accesses.items) e (c.asks h);
  stands = subst (λ (x : State). Stands r.outcome (step_of x hits) r.row r.accesses.items) e c.stands;
  plays = λ h. (let p = c.plays h in record { tape = p.tape; after_is = p.after_is; mid = p.mid; supplies = p.supplies; left = p.left });
  fits = c.fits;
  most = c.most;
}

-- behind the last step of a call no other one follows
pub ends-here : (hits : Point → Option Exit) (b : State) (r : Report) (after : State) (left : Kept) → leaves_more r.outcome r.accesses.items ≡ false
    → (is_diverged r.outcome ≡ false → StandsEach (step_of b hits) r.row [] r.accesses.items) → is_diverged r.outcome ≡ false
    → called_once b (lacking r.outcome (step_of b hits (answers_alone (answers r.accesses.items)))) ≡ calls.reported (alone r) after left None
    → last_goes_on (step_of b hits (answers_alone [])) ≡ false
ends-here hits b r after left un asks same told = by-accesses r.accesses.items refl where
  by-accesses : (ms : List Made) → r.accesses.items ≡ ms → last_goes_on (step_of b hits (answers_alone [])) ≡ false
  by-accesses [] e =
      let here : step_of b hits (answers_alone (answers r.accesses.items)) ≡ step_of b hits (answers_alone []) = ap (λ ms. step_of b hits (answers_alone (answers ms))) e in
      ap last_goes_on (sym here) ∙ goes-as b r.outcome (step_of b hits (answers_alone (answers r.accesses.items))) (calls.reported (alone r) after left None) told un
  by-accesses (m ∷ ms) e =
      let each : StandsEach (step_of b hits) r.row [] (m ∷ ms) = subst (λ (l : List Made). StandsEach (step_of b hits) r.row [] l) e (asks same) in
      ap last_goes_on each.0
