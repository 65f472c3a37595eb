-- A turn of the drive after its calls, a single call, and turns one after another.
use Rattle.std.proofs.Common.{◌≡◌, ℕ, zero, suc, ◌==◌, ◌+◌, ◌-◌, ◌<◌, ◌≤◌, List, [], ◌∷◌, ◌++◌, length, drop, take, min, length-drop, Bool, true, false, Option, Some, None, map, refl, sym, ap, ◌∙◌, arith, if◌then◌else◌, inl, inr, ◌⊎◌}
use Rattle.std.proofs.lemmas.Bool.{cases_lt, cases_Bool}
use Rattle.std.proofs.lemmas.Bool.Decides.{nat_tests}
use Rattle.std.proofs.lemmas.List.{append-nil, take_all, drop_all}
use Rattle.xe_base.specs.declared.access.Made.{Made}
use Rattle.xe_base.specs.declared.cpu.Cpu.{Cpu}
use Rattle.xe_opmap.specs.declared.row.Row.{Row}
use Rattle.xe_core.specs.Call.{Call, Tells, Stands, StandsEach, Played, LeftBy, FollowsTape, Fits, Led, divergence, called, lacking, lacking_last, waiting, standing, one_call, steps_before, before_last, alone}
use Rattle.xe_core.specs.Tried.{called_once}
use Rattle.xe_core.specs.Turn.{leaves_more, last_goes_on}
use Rattle.xe_core.proofs.TurnLaws.{goes-done}
use Rattle.xe_icpt.specs.SvmSet.{Svm}
use Rattle.xe_icpt.specs.declared.exit.Exit.{Exit}
use Rattle.xe_icpt.specs.declared.point.Point.{Point}
use Rattle.xe_core.specs.Call as calls
use Rattle.xe_ctx.specs.Kept.{Kept, nothing}
use Rattle.xe_ctx.specs.State.{State}
use Rattle.xe_core.specs.Step.{is_done}
use Rattle.xe_ctx.specs.Supply.{answers, answers_alone}
use Rattle.xe_ctx.specs.Tape.{Tape, begun}
use Rattle.xe_ctx.specs.declared.report.Outcome.{Outcome}
use Rattle.xe_ctx.specs.declared.report.Outcome.TheVariants as ends
use Rattle.xe_ctx.specs.declared.report.Report.{Report}
use Rattle.xe_core.specs.Emulate.{step_of, steps_of}
use Rattle.xe_run.specs.Drive.{World, Did, hits_of, turn, next_turn, turned, turns_in, turn_events, steps_event, and_then, silent, goes_on_after, single_call, after_call, call_events, call_event, end_event}
use Rattle.xe_run.specs.Reported.{reported, led_report, count_at, is_pending}
use Rattle.xe_run.specs.Text.{text, line_of}
use Rattle.xe_run.specs.declared.event.Event.TheVariants as shown
use Rattle.xe_run.specs.Turn.{Turn, counted, rounds, led, turn_over}
use Rattle.xe_run.proofs.StepLaws.{from}
use Rattle.xe_run.proofs.TextLaws.{text-append, text-nil, text-one}
use Rattle.xe_run.proofs.TurnLaws.{Going, measure, Calls, told-once, goes-again, Suspends, suspends, step-ends, Says, calls-of, ends-here, rest-of, over-rest, Leads, leads-on, silent-rest, silent-none, rest-single}

-- a turn after one of its calls: the last step's, and so many steps finished before it
pub record Asked (n : ℕ) (w : World) (hits : Point → Option Exit) (k : ℕ) (f : Option Row) (counts : List ℕ) (r : Report) (after : State) (left : Kept) (new : Tape) : Type 0 where
  pub V : Turn
  pub start : State
  pub kept : Kept
  pub script : Tape
  pub leads : Leads hits k f (turn n w) V
  pub going : Going hits V start kept counts script
  pub calls : Calls hits start kept script (alone r) after left new
  pub row_is : is_done r.outcome ≡ true → r.finished ≡ r.row

row-of : (b : Bool) (x y z : Option Row) → x ≡ (if b then y else z) → b ≡ true → x ≡ y
row-of b x y z e h = e ∙ (rw h refl)

pub row-before : (b : Bool) (x y z : Option Row) → x ≡ (if b then y else z) → b ≡ false → z ≡ x
row-before b x y z e h = sym (e ∙ (rw h refl))

turn-is : (n : ℕ) (w : World) → turn n w ≡ turn_over (steps_of (hits_of w)) (n - 1) w.machine (begun w.tape)
unfolding turn
turn-is n w = refl

-- the first call
pub asked-first : (n : ℕ) (w : World) (counts : List ℕ) (kept : Kept) (t : Tape) (r : Report) (after : State) (left : Kept) (new : Tape)
    → counts ≡ [] → kept ≡ nothing → t ≡ begun w.tape → (c : Says (hits_of w) n w.machine kept t r after left new) → Asked n w (hits_of w) (steps_before r) c.led_.row counts r after left new
asked-first n w counts kept t r after left new no_counts none_kept is c =
    let hits = hits_of w in
    let b = before_last (steps_of hits) w.machine r in
    let m = n - 1 - steps_before r in
    let within = c.led_.within in
    let e : n - 1 ≡ steps_before r + m = omega arith in
    let fit : Fits (step_of b hits) kept = (rw none_kept refl) in
    let fit_first : Fits (step_of w.machine hits) kept = (rw none_kept refl) in
    let last_call = calls-of hits n w.machine b kept t r after left new c refl (λ _. fit_first) in
    let same = c.fitting fit_first in
    let told : called_once b (lacking r.outcome (step_of b hits (answers_alone (answers r.accesses.items)))) ≡ calls.reported (alone r) after left None = told-once hits b (alone r) after left (rw fit at last_call.tells).2 in
    let last : (m ≡ 0) ⊎ (last_goes_on (step_of b hits (answers_alone [])) ≡ false) = elim (cases_Bool (leaves_more r.outcome r.accesses.items)) [
      | inl go ↦ let over = c.led_.over go in let done = before-done r (goes-done r.outcome r.accesses.items go) in inl (omega arith)
      | inr stop ↦ inr (ends-here hits b r after left stop c.asks same told)
    ] in
    let V = from (rounds - length nothing.answers) b (step_of b hits) [] [] (begun w.tape) in
    record {
      V = V;
      start = b;
      kept = nothing;
      script = begun w.tape;
      leads = leads-on hits (steps_before r) c.led_.row (turn n w) (rest-of hits (steps_before r + m) w.machine nothing [] (begun w.tape)) (rest-of hits m b nothing [] (begun w.tape)) V
          (turn-is n w ∙ over-rest hits (n - 1) w.machine (begun w.tape) ∙ ap (λ j. rest-of hits j w.machine nothing [] (begun w.tape)) e)
          (silent-rest hits w.machine (begun w.tape) m c.led_.silent)
          (rest-single hits m b (begun w.tape) last);
      going = record { whole = rw no_counts refl; few = omega arith; reached = rw no_counts (omega arith); fits = refl };
      calls = rw (← none_kept, ← is) last_call;
      row_is = row-of (is_done r.outcome) r.finished r.row c.led_.row c.led_.finished;
    }
  where
    before-done : (r : Report) → is_done r.outcome ≡ true → steps_before r ≡ r.elements - 1
    before-done r d = rw d refl

-- a call that ended at a device that isn't ready
pub asked-suspends : (n : ℕ) (w : World) (hits : Point → Option Exit) (k : ℕ) (f : Option Row) (counts : List ℕ) (r : Report) (after : State) (left : Kept) (new : Tape)
    → (a : Asked n w hits k f counts r after left new) → is_pending r.outcome ≡ true → Suspends hits a.start a.kept counts a.script (length r.accesses.items) after left new
asked-suspends n w hits k f counts r after left new a p = suspends hits a.V a.start a.kept counts a.script (alone r) after left new a.going a.calls p

pub undone-pending : (o : Outcome) → is_pending o ≡ true → is_done o ≡ false
undone-pending (ends.Pending a) h = refl
undone-pending (ends.Done more retire) h = absurd (cc)
undone-pending (ends.Fault fault) h = refl
undone-pending (ends.Intercept exit) h = refl
undone-pending (ends.Event kind vector next) h = refl
undone-pending (ends.Handoff handoff) h = refl
undone-pending ends.Unhandled h = refl
undone-pending (ends.BusFault a) h = refl
undone-pending (ends.Diverged at kept wanted) h = refl

-- another call, behind one that ended at a device that isn't ready
pub asked-again : (n : ℕ) (w : World) (hits : Point → Option Exit) (k : ℕ) (f : Option Row) (old counts : List ℕ) (r : Report) (after : State) (left : Kept) (new : Tape) (r2 : Report) (after2 : State) (left2 : Kept) (new2 : Tape)
    → (a : Asked n w hits k f old r after left new) → is_pending r.outcome ≡ true
    → length left.answers ≤ 255 → length counts ≡ length left.answers + 1
    → ((j : ℕ) → j < length left.answers → count_at counts j ≡ count_at old j) → count_at counts (length left.answers) ≡ counted (count_at old (length left.answers) + 1)
    → Says hits 1 after left new r2 after2 left2 new2 → Asked n w hits k f counts r2 after2 left2 new2 × (is_pending r2.outcome ≡ true → Suspends hits after left counts new (length r2.accesses.items) after2 left2 new2)
asked-again n w hits k f old counts r after left new r2 after2 left2 new2 a pending few reached before here c =
    let again = goes-again hits a.V a.start a.kept old counts a.script (alone r) after left new a.going a.calls pending few reached before here in
    let within = c.led_.within in
    let none_before : steps_before r2 ≡ 0 = omega arith in
    let b : before_last (steps_of hits) after r2 ≡ after = silent-none hits after c.led_.silent none_before in
    let next_call = calls-of hits 1 after after left new r2 after2 left2 new2 c b (λ h. h) in (
      record {
        V = a.V;
        start = after;
        kept = left;
        script = new;
        leads = a.leads;
        going = again.going;
        calls = next_call;
        row_is = row-of (is_done r2.outcome) r2.finished r2.row c.led_.row c.led_.finished;
      },
      λ p. suspends hits a.V after left counts new (alone r2) after2 left2 new2 again.going next_call p,
    )

-- which finds devices not ready once less
pub ahead-less : (n : ℕ) (w : World) (hits : Point → Option Exit) (k : ℕ) (f : Option Row) (old counts : List ℕ) (r : Report) (after : State) (left : Kept) (new : Tape) (r2 : Report) (after2 : State) (left2 : Kept) (new2 : Tape)
    → (a : Asked n w hits k f old r after left new) → is_pending r.outcome ≡ true
    → length left.answers ≤ 255 → length counts ≡ length left.answers + 1
    → ((j : ℕ) → j < length left.answers → count_at counts j ≡ count_at old j) → count_at counts (length left.answers) ≡ counted (count_at old (length left.answers) + 1)
    → Says hits 1 after left new r2 after2 left2 new2 → measure hits r2 after2 left2 new2 < measure hits r after left new
ahead-less n w hits k f old counts r after left new r2 after2 left2 new2 a pending few reached before here c =
    let next = asked-again n w hits k f old counts r after left new r2 after2 left2 new2 a pending few reached before here c in
    elim (cases_Bool (is_pending r2.outcome)) [
      | inl p ↦ let less = (next.1 p).less in rw (pending, p) (omega (arith, less))
      | inr p ↦ rw (pending, p) (omega arith)
    ]

-- the turn has come to its end
pub turn-told : (n : ℕ) (w : World) (hits : Point → Option Exit) (k : ℕ) (f finished : Option Row) (counts : List ℕ) (r : Report) (after : State) (left : Kept) (new : Tape)
    → Asked n w hits k f counts r after left new → is_pending r.outcome ≡ false → (is_done r.outcome ≡ false → f ≡ finished) → turn n w ≡ reported (led_report k finished r) counts after new
turn-told n w hits k f finished counts r after left new a ended_ same =
    let V : a.V ≡ reported (alone r) counts after new = step-ends hits a.V a.start a.kept counts a.script (alone r) after left new a.going a.calls ended_ in
    leads-told k f finished counts r after new (turn n w) a.V V a.leads same a.row_is where
      leads-told : (k : ℕ) (f finished : Option Row) (counts : List ℕ) (r : Report) (after : State) (new : Tape) (x v : Turn) → v ≡ reported (alone r) counts after new → Leads hits k f x v → (is_done r.outcome ≡ false → f ≡ finished) → (is_done r.outcome ≡ true → r.finished ≡ r.row) → x ≡ reported (led_report k finished r) counts after new
      leads-told k f finished counts r after new x v e leads same row = elim (cases_Bool (is_done r.outcome)) [
        | inl d ↦ done-told d leads
        | inr d ↦ undone-told d leads
      ] where
        done-told : is_done r.outcome ≡ true → Leads hits k f x v → x ≡ reported (led_report k finished r) counts after new
        done-told d (inl h) = let z = h.1 in let same_row = row d in h.0 ∙ e ∙ (rw (d, z, same_row) refl)
        done-told d (inr h) = let same_row = row d in h ∙ ap (led k f) e ∙ (rw (d, same_row) refl)

        undone-told : is_done r.outcome ≡ false → Leads hits k f x v → x ≡ reported (led_report k finished r) counts after new
        undone-told d (inl h) = let z = h.1 in let row_is : finished ≡ None = sym (same d) ∙ h.2 in h.0 ∙ e ∙ (rw (d, z, row_is) refl)
        undone-told d (inr h) = let row_is = same d in let none_more : k + 0 ≡ k = omega arith in h ∙ ap (led k f) e ∙ (rw (d, none_more, row_is) refl)

-- the world after a turn
pub turn-after : (n : ℕ) (w v : World) (r : Report) (counts : List ℕ) → turn n w ≡ reported r counts v.machine v.tape → v.draft ≡ w.draft → v.icpt ≡ w.icpt → v.batch ≡ w.batch → v.kept ≡ w.kept → v ≡ turned w (turn n w)
turn-after n w v r counts told d i b k =
    ap (λ (x : Cpu). record v { draft = x }) d
    ∙ ap (λ (x : Svm). record v { draft = w.draft; icpt = x }) i
    ∙ ap (λ (x : ℕ). record v { draft = w.draft; icpt = w.icpt; batch = x }) b
    ∙ ap (λ (x : Kept). record v { draft = w.draft; icpt = w.icpt; batch = w.batch; kept = x }) k
    ∙ ap (λ (t : Turn). turned w t) (sym told)

-- the room that is left for a turn's accesses, with those that are kept
pub room-stays : (old new kept made left : ℕ) → 256 ≤ old + kept → old ≤ new + (made - kept) → kept ≤ made → left ≡ made → 256 ≤ new + left
room-stays old new kept made left h e k l = omega (arith, h, e, k, l)

pub room-begins : (old new kept made left : ℕ) → old ≡ 256 → old ≤ new + (made - kept) → kept ≡ 0 → left ≡ made → 256 ≤ new + left
room-begins old new kept made left h e k l = omega (arith, h, e, k, l)

-- ---- a single call

pub call-told : (w : World) (n : ℕ) (t new : Tape) (r : Report) (after : State) (left : Kept)
    → FollowsTape (steps_of (hits_of w)) n w.machine w.kept t r after left (Some new) → n ≡ w.batch → t ≡ begun w.tape → single_call w ≡ calls.reported r after left (Some new)
unfolding single_call
call-told w n t new r after left f most e =
    ap (λ (m : ℕ). one_call (steps_of (hits_of w)) m w.machine w.kept (begun w.tape)) (sym most)
    ∙ ap (λ (u : Tape). one_call (steps_of (hits_of w)) n w.machine w.kept u) (sym e) ∙ f.call ∙ ap (λ (o : Option Tape). calls.reported r after left o) (sym f.after_is)

-- the world after it
pub call-after : (w v : World) (r : Report) → single_call w ≡ calls.reported r v.machine v.kept (Some v.tape) → v.draft ≡ w.draft → v.icpt ≡ w.icpt → v.batch ≡ w.batch → v ≡ after_call w (single_call w)
call-after w v r told d i b =
    ap (λ (x : Cpu). record v { draft = x }) d
    ∙ ap (λ (x : Svm). record v { draft = w.draft; icpt = x }) i
    ∙ ap (λ (x : ℕ). record v { draft = w.draft; icpt = w.icpt; batch = x }) b
    ∙ ap (λ (c : Call). after_call w c) (sym told)

-- what it shows
pub call-shows : (w : World) (before : Cpu) (kept : Kept) (r : Report) (s : State) (left : Kept) (o : Option Tape) → single_call w ≡ calls.reported r s left o
    → call_events before kept (single_call w) ≡ steps_event before s.cpu r.elements r.finished r.outcome ++ (map call_event (drop (length kept.answers) r.accesses.items) ++ end_event before s.cpu r.elements r.finished r.row r.outcome ∷ [])
call-shows w before kept r s left o told = ap (λ (c : Call). call_events before kept c) told

-- accesses behind so many, or none where there are fewer
pub drop_within : (made : List Made) (n k : ℕ) → k ≡ min n (length made) → take (length made - k) (drop k made) ≡ drop n made
drop_within made n k e =
    let all : take (length made - k) (drop k made) ≡ drop k made = take_all (length made - k) (drop k made) (omega (arith, length-drop k made)) in
    elim (cases_lt n (length made)) [
      | inl lt ↦ (let same : k ≡ n = omega (arith, e, lt) in all ∙ ap (λ (i : ℕ). drop i made) same)
      | inr past ↦ all ∙ drop_all k made (omega (arith, e, past)) ∙ sym (drop_all n made past)
    ]

-- ---- turns

-- one turn before the turns that are left
turns-more : (n left : ℕ) (w : World) → (left == 0) ≡ false → turns_in (suc n) left w ≡ and_then w (next_turn left w) (turns_in n (left - (next_turn left w).steps) (turned w (next_turn left w)))
unfolding turns_in
turns-more n left w e = rw e refl

-- no more turns, or no steps left
pub turns-none : (left : ℕ) (w : World) → turns_in 0 left w ≡ silent w
unfolding turns_in
turns-none left w = refl

turns-spent : (n left : ℕ) (w : World) → (left == 0) ≡ true → turns_in n left w ≡ silent w
unfolding turns_in
turns-spent zero left w e = refl
turns-spent (suc n) left w e = rw e refl

goes : (w : World) (t : Turn) (rest : Did) → goes_on_after t.outcome ≡ true → and_then w t rest ≡ record { events = turn_events w.machine.cpu t ++ rest.events; after = rest.after }
goes w t rest e = rw e refl

halts : (w : World) (t : Turn) (rest : Did) → goes_on_after t.outcome ≡ false → and_then w t rest ≡ record { events = turn_events w.machine.cpu t; after = turned w t }
halts w t rest e = rw e refl

-- what a turn shows
abbrev pub shows : ℕ → World → List ℕ
shows left w = text (turn_events w.machine.cpu (next_turn left w))

-- the world after a turn
abbrev pub past : ℕ → World → World
past left w = turned w (next_turn left w)

-- the steps that are left after it
abbrev pub fewer : ℕ → World → ℕ
fewer left w = left - (next_turn left w).steps

-- what is left of a run after one turn
pub record MoreTurns (w : World) (n m left : ℕ) : Type 0 where
  pub events : text (turns_in n left w).events ≡ shows left w ++ text (turns_in m (fewer left w) (past left w)).events
  pub after : (turns_in n left w).after ≡ (turns_in m (fewer left w) (past left w)).after

pub goes-on : (w : World) (n m left : ℕ) → n ≡ m + 1 → (left == 0) ≡ false → goes_on_after (next_turn left w).outcome ≡ true → MoreTurns w n m left
goes-on w n m left e some h =
    let one : n ≡ suc m = omega arith in
    let all = ap (λ (k : ℕ). turns_in k left w) one ∙ turns-more m left w some ∙ goes w (next_turn left w) (turns_in m (fewer left w) (past left w)) h in
    record {
      events = ap (λ (d : Did). text d.events) all ∙ text-append (turn_events w.machine.cpu (next_turn left w)) (turns_in m (fewer left w) (past left w)).events;
      after = ap (λ (d : Did). d.after) all;
    }

-- a run that ends with this turn
pub record StopsHere (w : World) (n left : ℕ) : Type 0 where
  pub events : text (turns_in n left w).events ≡ shows left w
  pub after : (turns_in n left w).after ≡ past left w

pub stops-here : (w : World) (n m left : ℕ) → n ≡ m + 1 → (left == 0) ≡ false → goes_on_after (next_turn left w).outcome ≡ false → StopsHere w n left
stops-here w n m left e some h =
    let one : n ≡ suc m = omega arith in
    let all = ap (λ (k : ℕ). turns_in k left w) one ∙ turns-more m left w some ∙ halts w (next_turn left w) (turns_in m (fewer left w) (past left w)) h in
    record { events = ap (λ (d : Did). text d.events) all; after = ap (λ (d : Did). d.after) all }

begins_with : (w : World) (t : Turn) (rest : Did) (go : Bool) → goes_on_after t.outcome ≡ go → (more : List ℕ) × (text (and_then w t rest).events ≡ text (turn_events w.machine.cpu t) ++ more)
begins_with w t rest true e = (text rest.events, ap (λ (d : Did). text d.events) (goes w t rest e) ∙ text-append (turn_events w.machine.cpu t) rest.events)
begins_with w t rest false e = ([], ap (λ (d : Did). text d.events) (halts w t rest e) ∙ sym (append-nil (text (turn_events w.machine.cpu t))))

-- whatever follows, the text of a run begins with that of its first turn
pub begins-so : (w : World) (n m left : ℕ) → n ≡ m + 1 → (left == 0) ≡ false → (more : List ℕ) × (text (turns_in n left w).events ≡ shows left w ++ more)
begins-so w n m left e some =
    let one : n ≡ suc m = omega arith in
    let b = begins_with w (next_turn left w) (turns_in m (fewer left w) (past left w)) (goes_on_after (next_turn left w).outcome) refl in
    (b.0, ap (λ (k : ℕ). text (turns_in k left w).events) one ∙ ap (λ (d : Did). text d.events) (turns-more m left w some) ∙ b.1)

pub turns-past : (w : World) (n left : ℕ) → (n ≡ 0) ⊎ ((left == 0) ≡ true) → (text (turns_in n left w).events ≡ []) × ((turns_in n left w).after ≡ w)
turns-past w n left (inl e) =
    let none : turns_in n left w ≡ silent w = ap (λ (k : ℕ). turns_in k left w) e ∙ turns-none left w in
    (ap (λ (d : Did). text d.events) none ∙ text-nil, ap (λ (d : Did). d.after) none)
turns-past w n left (inr e) =
    let none : turns_in n left w ≡ silent w = turns-spent n left w e in
    (ap (λ (d : Did). text d.events) none ∙ text-nil, ap (λ (d : Did). d.after) none)

-- ---- the line of the steps that finished

pub not-zero : (n : ℕ) → (n ≡ 0 → ⊥) → (n == 0) ≡ false
not-zero n h = elim (cases_Bool (n == 0)) [
  | inl t ↦ let z : n ≡ 0 = grind (arith, nat_tests) in absurd (h z)
  | inr f ↦ f
]

pub is-zero : (n : ℕ) → n ≡ 0 → (n == 0) ≡ true
is-zero n h = rw h refl

pub steps-done : (before after : Cpu) (count : ℕ) (finished : Option Row) (o : Outcome) → is_done o ≡ true → text (steps_event before after count finished o) ≡ []
steps-done before after count finished o d = rw d text-nil

pub steps-none : (before after : Cpu) (count : ℕ) (finished : Option Row) (o : Outcome) → is_done o ≡ false → count ≡ 0 → text (steps_event before after count finished o) ≡ []
steps-none before after count finished o d z = rw (d, z) text-nil

pub steps-some : (before after : Cpu) (count : ℕ) (finished : Option Row) (o : Outcome) → is_done o ≡ false → (count ≡ 0 → ⊥) → text (steps_event before after count finished o) ≡ line_of (shown.Step finished count before after 0)
steps-some before after count finished o d z = let some : (count == 0) ≡ false = not-zero count z in rw (d, some) (text-one (shown.Step finished count before after 0))

pub then_nothing : (rest line : List ℕ) → rest ≡ line → rest ≡ line ++ []
then_nothing rest line e = e ∙ sym (append-nil line)
