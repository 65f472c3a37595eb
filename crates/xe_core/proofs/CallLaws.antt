use Rattle.std.proofs.Common.{ℕ, zero, suc, ◌≡◌, ◌+◌, List, [], ◌∷◌, length, Bool, true, false, Option, Some, None, Result, Ok, Err, IsSome, refl, sym, ap, ◌∙◌, if◌then◌else◌, subst, inl, inr, arith}
use Rattle.std.proofs.lemmas.Bool.{cases_Bool}
use Rattle.xe_base.specs.declared.access.Access.{Access}
use Rattle.xe_base.specs.declared.access.Made.{Made}
use Rattle.xe_base.specs.Ram.{Area}
use Rattle.xe_base.specs.Calm.{Calm}
use Rattle.xe_base.specs.State.{Valid}
use Rattle.xe_base.specs.declared.cpu.Cpu.{Cpu}
use Rattle.xe_icpt.specs.declared.exit.Exit.{Exit}
use Rattle.xe_icpt.specs.declared.point.Point.{Point}
use Rattle.xe_opmap.specs.declared.insn.Decoded.{Decoded}
use Rattle.xe_opmap.specs.declared.insn.Decoded.TheVariants.{Insn as Spelled, Invalid, Outside, More}
use Rattle.xe_opmap.specs.declared.insn.Insn.{Insn}
use Rattle.xe_opmap.specs.declared.row.Row.{Row}
use Rattle.xe_ctx.specs.Accept.{accepted}
use Rattle.xe_ctx.specs.Bus.{BusView}
use Rattle.xe_core.specs.Tried.{is_plain, Tried, ReportsOnce, Went, judged, told_by, left_by, state_by, why_by, behind_report}
use Rattle.xe_core.specs.Turn.{leaves_more}
use Rattle.xe_core.specs.declared.call.SoFar.{SoFar}
use Rattle.xe_ctx.specs.Ending.{Ending, Raises, Exits, Interrupts, HandsOver, stop_of}
use Rattle.xe_ctx.specs.Finishes.{IsSound}
use Rattle.xe_ctx.specs.Is.{Sight, Is, Moves, Stood}
use Rattle.xe_ctx.specs.Kept.{Kept, IsKept, Agrees, expected, nothing}
use Rattle.xe_ctx.specs.Operand.{IsOf}
use Rattle.xe_ctx.specs.Part.{View, begins}
use Rattle.xe_ctx.specs.Run.{run}
use Rattle.xe_ctx.specs.Runs.{finished}
use Rattle.xe_ctx.specs.State.{State}
use Rattle.xe_core.specs.Step.{Stepped, step, stepped, executed, concluded, early, outcome_of, undefined_opcode, retired, tf, is_done}
use Rattle.xe_ctx.specs.Supply.{Supply}
use Rattle.xe_ctx.specs.View.{accepts, opens, unused, CanKeep}
use Rattle.xe_ctx.specs.declared.report.Outcome.{Outcome}
use Rattle.xe_ctx.specs.declared.report.Outcome.TheVariants.{Done, Unhandled}
use Rattle.xe_ctx.specs.declared.report.Outcome.TheVariants as outcomes
use Rattle.xe_ctx.specs.declared.report.Report.{Report}
use Rattle.xe_ctx.specs.declared.stop.End.{End}
use Rattle.xe_ctx.specs.declared.stop.Finish.{Finish}
use Rattle.xe_ctx.specs.declared.stop.Stop.{Stop}
use Rattle.xe_ctx.specs.declared.stop.Stop.TheVariants as stops
use Rattle.xe_ctx.proofs.FinishLaws.{gives_of}
use Rattle.xe_core.proofs.Reporting.{reports}
use Rattle.xe_core.proofs.Trying.{tried_early, tried_finish, tried_stop}
use Rattle.xe_core.specs.Emulate.{decided, fetched, step_of, after_by, Keepable}
use Rattle.xe_core.specs.Rows.{table, is_calm}
use Rattle.xe_core.proofs.RowLaws.{sound_table, calm_table}

-- ---- the step by what was fetched

module _ (s : State) (hits : Point → Option Exit) (supply : Supply) where
  stepped-early : (reason : Ending) (d : Decoded) (o : Outcome) → decided reason d ≡ Err o → stepped table s hits supply reason d ≡ early s None o supply
  stepped-early reason (Spelled i) o h = cc
  stepped-early reason (Invalid n) o h = let same : _ ≡ o = cc in ap (λ x. early s None x supply) same
  stepped-early reason Outside o h = let same : _ ≡ o = cc in ap (λ x. early s None x supply) same
  stepped-early reason More o h = let same : outcome_of (stop_of reason) ≡ o = cc in ap (λ x. early s None x supply) same

  stepped-on : (reason : Ending) (d : Decoded) (insn : Insn) → decided reason d ≡ Ok insn → stepped table s hits supply reason d ≡ executed (table insn s.cpu) insn s hits supply
  stepped-on reason (Spelled i) insn h = let same : i ≡ insn = cc in ap (λ x. executed (table x s.cpu) x s hits supply) same
  stepped-on reason (Invalid n) insn h = cc
  stepped-on reason Outside insn h = cc
  stepped-on reason More insn h = cc

  step_early : (o : Outcome) → fetched s ≡ Err o → step_of s hits supply ≡ early s None o supply
  unfolding step fetched
  step_early o h = stepped-early _ _ o h

  step_on : (insn : Insn) → fetched s ≡ Ok insn → step_of s hits supply ≡ concluded s insn.row (run (table insn s.cpu) (accepted insn.len (begins s hits)) supply)
  unfolding step fetched
  step_on insn h = stepped-on _ _ insn h

-- ---- ends by their outcomes

ending-plain : (e : Ending) → is_plain (outcome_of (stop_of e)) ≡ true
ending-plain (Raises f) = refl
ending-plain (Exits x) = refl
ending-plain (Interrupts x) = refl
ending-plain (HandsOver h) = refl

pub stop-not-done : (e : Stop) → is_done (outcome_of e) ≡ false
stop-not-done (stops.Pending a) = refl
stop-not-done (stops.BusFault a) = refl
stop-not-done (stops.Diverged d) = refl
stop-not-done (stops.Fault f) = refl
stop-not-done (stops.Intercept x) = refl
stop-not-done (stops.Event x) = refl
stop-not-done (stops.Handoff h) = refl

record IsEarly (o : Outcome) : Type 0 where
  plain : is_plain o ≡ true
  undone : is_done o ≡ false

decided-early : (reason : Ending) (d : Decoded) (o : Outcome) → decided reason d ≡ Err o → IsEarly o
decided-early reason (Spelled i) o h = cc
decided-early reason (Invalid n) o h = (let same : outcome_of (stop_of undefined_opcode) ≡ o = cc in rw (← same) (record { plain = refl; undone = refl }))
decided-early reason Outside o h = (let same : Unhandled ≡ o = cc in rw (← same) (record { plain = refl; undone = refl }))
decided-early reason More o h = (let same : outcome_of (stop_of reason) ≡ o = cc in rw (← same) (record { plain = ending-plain reason; undone = stop-not-done (stop_of reason) }))

fetched-early : (s : State) (o : Outcome) → fetched s ≡ Err o → IsEarly o
unfolding fetched
fetched-early s o h = decided-early _ _ o h

-- a step without an instruction didn't finish
pub fetched_undone : (s : State) (o : Outcome) → fetched s ≡ Err o → is_done o ≡ false
fetched_undone s o h = (fetched-early s o h).undone

after-undone : (o : Outcome) (s : State) (cpu : Cpu) (ram : List Area) → is_done o ≡ false → after_by o s cpu ram ≡ s
after-undone o s cpu ram e = rw e refl

-- ---- a step that was tried, by what the code did

-- the marks in page tables are no accesses: what is known from behind them is known from before
module _ (v : View) (ram : List Area) (K : Kept) (b : BusView) (new : Sight) where
  abbrev before : Sight
  before = record { step = v; kept = K; bus = b }

  abbrev behind : Sight
  behind = record { step = record v { work = ram }; kept = K; bus = b }

  stood-before : (why : Option Stop) → Stood why behind new → Stood why before new
  stood-before None h = h
  stood-before (Some (stops.Pending a)) h = h
  stood-before (Some (stops.BusFault a)) h = h
  stood-before (Some (stops.Diverged d)) h = h
  stood-before (Some (stops.Fault f)) h = h
  stood-before (Some (stops.Intercept x)) h = h
  stood-before (Some (stops.Event x)) h = h
  stood-before (Some (stops.Handoff x)) h = h

  moves-before : (extra : List Made) (why : Option Stop) → Moves behind extra why new → Moves before extra why new
  moves-before extra why m = record {
    made = m.made;
    well_made = m.well_made;
    kept_ = m.kept_;
    told = λ t e. (let p = m.told t e in record { tape = p.tape; is = p.is; mid = p.mid; supplies = p.supplies; left = p.left; log = p.log });
    untold = m.untold;
    room_ = m.room_;
    unready_ = m.unready_;
    faults_ = m.faults_;
    spare_ = m.spare_;
    stood = stood-before why m.stood;
  }

  tried-before : (stepping : Supply → Stepped) (row : Option Row) (outcome : Outcome) (after : State) → Tried stepping behind row outcome after new → Tried stepping before row outcome after new
  tried-before stepping row outcome after t = record { moves = moves-before new.step.made (why_by outcome) t.moves; comes = t.comes; stands = t.stands }

module _ (s : State) (hits : Point → Option Exit) (old : Sight) (start : old.step ≡ begins s hits) where
  none-made : old.step.made ≡ []
  none-made = ap (λ (v : View). v.made) start

  -- no instruction was found
  pub tried_none : (o : Outcome) (new : Sight) (cpu : Cpu) (ram : List Area) → fetched s ≡ Err o → new ≡ old → Tried (step_of s hits) old None o (after_by o s cpu ram) new
  tried_none o new cpu ram h same =
      let e = fetched-early s o h in
      rw (after-undone o s cpu ram e.undone, same) (tried_early (step_of s hits) old.step old.kept old.bus none-made s None o e.plain (λ supply. step_early s hits supply o h))

  module _ (insn : Insn) (h : fetched s ≡ Ok insn) where
    steps : (supply : Supply) → step_of s hits supply ≡ concluded s insn.row (run (table insn s.cpu) (accepted insn.len old.step) supply)
    steps supply = step_on s hits supply insn h ∙ ap (λ v. concluded s insn.row (run (table insn s.cpu) (accepted insn.len v) supply)) (sym start)

    finishes : (f : Finish) (new : Sight) → Is (table insn s.cpu) (accepts insn.len old) (Ok f) new → Tried (step_of s hits) old (Some insn.row) (Done f.more (retired s.cpu f.retire)) (record { cpu = f.cpu; ram = new.step.work }) new
    unfolding accepted
    finishes f new d =
        tried-before old.step (accepted insn.len old.step).work old.kept old.bus new (step_of s hits) (Some insn.row) _ _
        (tried_finish (step_of s hits) (accepted insn.len old.step) old.kept old.bus none-made s insn.row (table insn s.cpu) steps new f d)

    stops-so : (e : Stop) (new : Sight) → Is (table insn s.cpu) (accepts insn.len old) (Err e) new → Tried (step_of s hits) old (Some insn.row) (outcome_of e) s new
    unfolding accepted
    stops-so e new d =
        tried-before old.step (accepted insn.len old.step).work old.kept old.bus new (step_of s hits) (Some insn.row) _ _
        (tried_stop (step_of s hits) (accepted insn.len old.step) old.kept old.bus none-made s insn.row (table insn s.cpu) steps new e d)

-- what a call knows of an instruction that it has begun: the sights at its start and where it was accepted, and the registers
module _ (s : State) (hits : Point → Option Exit) (old taken begun new : Sight) (insn : Insn) (cpu : Cpu) (start : old.step ≡ begins s hits) (h : Ok insn ≡ fetched s) (of_ : IsOf s.cpu insn) (step : taken ≡ old) (accept : begun ≡ accepts insn.len taken) (registers : cpu ≡ s.cpu) (out : Result End Stop) (draft : Cpu) (d : Is (table insn cpu) begun (finished out draft) new) where
  begun-is : begun ≡ accepts insn.len old
  begun-is = accept ∙ ap (accepts insn.len) step

  did : (res : Result End Stop) → out ≡ res → Is (table insn s.cpu) (accepts insn.len old) (finished res draft) new
  did res is =
      let one : Is (table insn s.cpu) begun (finished out draft) new = subst (λ (c : Cpu). Is (table insn c) begun (finished out draft) new) registers d in
      let two : Is (table insn s.cpu) (accepts insn.len old) (finished out draft) new = subst (λ (x : Sight). Is (table insn s.cpu) x (finished out draft) new) begun-is one in
      subst (λ (r : Result End Stop). Is (table insn s.cpu) (accepts insn.len old) (finished r draft) new) is two

  pub came_finish : (end : End) (b : Bool) (n : ℕ) → out ≡ Ok end → b ≡ tf s.cpu → n ≡ (if b then end.retire + 8 else end.retire) → Tried (step_of s hits) old (Some insn.row) (Done end.more n) (after_by (Done end.more n) s draft new.step.work) new
  came_finish end b n is trap e =
      let same : n ≡ retired s.cpu end.retire = e ∙ ap (λ (x : Bool). if x then end.retire + 8 else end.retire) trap in
      subst (λ (m : ℕ). Tried (step_of s hits) old (Some insn.row) (Done end.more m) (record { cpu = draft; ram = new.step.work }) new) (sym same) (finishes s hits old start insn (sym h) (record { cpu = draft; more = end.more; retire = end.retire }) new (did (Ok end) is))

  pub came_stop : (e : Stop) (ram : List Area) (o : Outcome) → out ≡ Err e → o ≡ outcome_of e → Tried (step_of s hits) old (Some insn.row) o (after_by o s draft ram) new
  came_stop e ram o is same =
      let undone = stop-not-done e in
      let there : Tried (step_of s hits) old (Some insn.row) (outcome_of e) (after_by (outcome_of e) s draft ram) new = subst (λ (x : State). Tried (step_of s hits) old (Some insn.row) (outcome_of e) x new) (sym (after-undone (outcome_of e) s draft ram undone)) (stops-so s hits old start insn (sym h) e new (did (Err e) is)) in
      subst (λ (x : Outcome). Tried (step_of s hits) old (Some insn.row) x (after_by x s draft ram) new) (sym same) there

  -- an instruction finishes well
  pub came_sound : (end : End) → out ≡ Ok end → Valid s.cpu → IsSound (record { cpu = draft; more = end.more; retire = end.retire })
  came_sound end is v = gives_of IsSound (table insn s.cpu) (record { cpu = draft; more = end.more; retire = end.retire }) (accepts insn.len old) new (sound_table insn s.cpu of_ v) (did (Ok end) is)

  -- one of a row that changes the registers calmly has done so
  pub came_calm : (end : End) → out ≡ Ok end → Valid s.cpu → is_calm insn.row ≡ true → Calm s.cpu draft
  came_calm end is v calm = gives_of (λ (f : Finish). Calm s.cpu f.cpu) (table insn s.cpu) (record { cpu = draft; more = end.more; retire = end.retire }) (accepts insn.len old) new (calm_table insn s.cpu calm of_ v) (did (Ok end) is)

-- ---- the judgement

judged-or : (o : Outcome) (n : ℕ) (u : Option Access) → is_done (judged o n u) ≡ true → (u ≡ None) × (judged o n u ≡ o)
judged-or o n None e = (refl, refl)
judged-or (Done more retire) n (Some x) e = cc
judged-or (outcomes.Pending a) n (Some x) e = cc
judged-or (outcomes.Fault f) n (Some x) e = cc
judged-or (outcomes.Intercept f) n (Some x) e = cc
judged-or (outcomes.Event kind vector next) n (Some x) e = cc
judged-or (outcomes.Handoff h) n (Some x) e = cc
judged-or Unhandled n (Some x) e = cc
judged-or (outcomes.BusFault a) n (Some x) e = cc
judged-or (outcomes.Diverged at kept wanted) n (Some x) e = cc

judged-keeps : (o : Outcome) (n : ℕ) (u : Option Access) (made : List Made) → Keepable o made → Keepable (judged o n u) made
judged-keeps o n None made k = k
judged-keeps (Done more retire) n (Some x) made k = tt
judged-keeps (outcomes.Pending a) n (Some x) made k = k
judged-keeps (outcomes.Fault f) n (Some x) made k = tt
judged-keeps (outcomes.Intercept f) n (Some x) made k = tt
judged-keeps (outcomes.Event kind vector next) n (Some x) made k = tt
judged-keeps (outcomes.Handoff h) n (Some x) made k = tt
judged-keeps Unhandled n (Some x) made k = tt
judged-keeps (outcomes.BusFault a) n (Some x) made k = k
judged-keeps (outcomes.Diverged at kept wanted) n (Some x) made k = tt

stood-keeps : (o : Outcome) (old new : Sight) → Stood (why_by o) old new → Keepable o new.step.made
stood-keeps (Done more retire) old new s = tt
stood-keeps (outcomes.Pending a) old new s = (s.0.well_formed, (let l = s.0.room_ in omega arith))
stood-keeps (outcomes.Fault f) old new s = tt
stood-keeps (outcomes.Intercept f) old new s = tt
stood-keeps (outcomes.Event kind vector next) old new s = tt
stood-keeps (outcomes.Handoff h) old new s = tt
stood-keeps Unhandled old new s = tt
stood-keeps (outcomes.BusFault a) old new s = (s.0.well_formed, (let l = s.0.room_ in omega arith))
stood-keeps (outcomes.Diverged at kept wanted) old new s = tt

done-left : (o : Outcome) (made : List Made) (K : Kept) → is_done o ≡ true → left_by o made K ≡ nothing
done-left (Done more retire) made K e = refl
done-left (outcomes.Pending a) made K e = cc
done-left (outcomes.Fault f) made K e = refl
done-left (outcomes.Intercept f) made K e = refl
done-left (outcomes.Event kind vector next) made K e = refl
done-left (outcomes.Handoff h) made K e = refl
done-left Unhandled made K e = refl
done-left (outcomes.BusFault a) made K e = cc
done-left (outcomes.Diverged at kept wanted) made K e = cc

-- one that finished, and has reached all that the record has
pub judged-reached : (more : Bool) (retire n : ℕ) (u : Option Access) → u ≡ None → Done more retire ≡ judged (Done more retire) n u
judged-reached more retire n u e = rw e refl

-- one that finished too early
pub judged-early : (more : Bool) (retire n : ℕ) (u : Option Access) → IsSome u → is_done (judged (Done more retire) n u) ≡ false
judged-early more retire n None h = cc
judged-early more retire n (Some x) h = refl

-- one that didn't finish
pub judged-undone : (o : Outcome) (n : ℕ) (u : Option Access) → is_done o ≡ false → is_done (judged o n u) ≡ false
judged-undone o n None e = e
judged-undone (Done more retire) n (Some x) e = cc
judged-undone (outcomes.Pending a) n (Some x) e = refl
judged-undone (outcomes.Fault f) n (Some x) e = refl
judged-undone (outcomes.Intercept f) n (Some x) e = refl
judged-undone (outcomes.Event kind vector next) n (Some x) e = refl
judged-undone (outcomes.Handoff h) n (Some x) e = refl
judged-undone Unhandled n (Some x) e = refl
judged-undone (outcomes.BusFault a) n (Some x) e = refl
judged-undone (outcomes.Diverged at kept wanted) n (Some x) e = refl

-- what a stop owes to the record
pub can_keep : (e : Stop) (made : List Made) → Keepable (outcome_of e) made → CanKeep e made
can_keep (stops.Pending a) made k = k
can_keep (stops.BusFault a) made k = k
can_keep (stops.Diverged d) made k = tt
can_keep (stops.Fault x) made k = tt
can_keep (stops.Intercept x) made k = tt
can_keep (stops.Event x) made k = tt
can_keep (stops.Handoff x) made k = tt

pub stopped_keeps : (e : Stop) (old new : Sight) → Stood (why_by (outcome_of e)) old new → CanKeep e new.step.made
stopped_keeps e old new s = can_keep e _ (stood-keeps (outcome_of e) old new s)

undone-last : (o : Outcome) (made : List Made) → is_done o ≡ false → leaves_more o made ≡ false
undone-last (Done more retire) made e = cc
undone-last (outcomes.Pending a) made e = refl
undone-last (outcomes.Fault f) made e = refl
undone-last (outcomes.Intercept f) made e = refl
undone-last (outcomes.Event kind vector next) made e = refl
undone-last (outcomes.Handoff h) made e = refl
undone-last Unhandled made e = refl
undone-last (outcomes.BusFault a) made e = refl
undone-last (outcomes.Diverged at kept wanted) made e = refl

-- behind it no other step follows
pub went_no_further : (so_far : SoFar) (may : Bool) (row : Option Row) (o : Outcome) (made : List Made) (told : Report) → is_done o ≡ false → told ≡ behind_report so_far (told_by row o made) → Went so_far may (told_by row o made) None told
went_no_further so_far may row o made told undone e = (e, λ _. undone-last o _ undone)

-- nothing is left of a record that keeps nothing
pub nothing_unused : (n : ℕ) → expected nothing n ≡ None
nothing_unused zero = refl
nothing_unused (suc n) = refl

-- a record without a first access keeps nothing
pub kept_nothing : (K : Kept) → IsKept K.answers K.asked → expected K 0 ≡ None → K ≡ nothing
kept_nothing K is e = alone K.answers K.asked is.empty e where
  alone : (answers : List Made) (asked : Option Access) → (asked ≡ None → answers ≡ []) → expected (record { answers = answers; asked = asked }) 0 ≡ None → record { answers = answers; asked = asked } ≡ nothing
  alone [] None empty e = refl
  alone [] (Some a) empty e = cc
  alone (m ∷ ms) asked empty e = cc

-- a step that began with nothing kept has reached all of it at its end
pub still_unused : (K L : Kept) (made now : List Made) → IsKept K.answers K.asked → made ≡ [] → unused K made ≡ None → L ≡ K → unused L now ≡ None
still_unused K L made now is none e same =
    let first : expected K 0 ≡ None = rw none at e in
    same-unused L now (same ∙ kept_nothing K is first) where
      same-unused : (L : Kept) (now : List Made) → L ≡ nothing → unused L now ≡ None
      same-unused L now e = rw e (nothing_unused (length now))

-- ---- one step

-- it begins from the state of the machine
pub starts_so : (s at : State) (hits : Point → Option Exit) (K : Kept) (b : BusView) (begun : Sight) → begun ≡ opens s hits K b → at ≡ s → begun.step ≡ begins at begun.step.hits
starts_so s at hits K b begun e same = rw (e, same) refl

module _ (s at : State) (hits : Point → Option Exit) (K : Kept) (b : BusView) (begun new : Sight) (row : Option Row) (o told : Outcome) (draft : Cpu) (ram : List Area) (ok : IsKept K.answers K.asked) (starts : begun ≡ opens s hits K b) (same : at ≡ s) (tried : Tried (step_of at begun.step.hits) begun row o (after_by o at draft ram) new) (judge : told ≡ judged o (length new.step.made) (expected new.kept (length new.step.made))) where
  -- a call that finishes has reached all of its record, and finishes as its step
  pub finished_so : is_done told ≡ true → (expected new.kept (length new.step.made) ≡ None) × (told ≡ o)
  finished_so e = let r = judged-or o _ _ (rw judge at e) in (r.0, judge ∙ r.1)

  -- one that suspends its step has what the record wants
  pub keeps_so : Keepable told new.step.made
  keeps_so = rw judge (judged-keeps o _ _ new.step.made (stood-keeps o begun new tried.moves.stood))

  there : Tried (step_of s hits) (opens s hits K b) row o (after_by o s draft ram) new
  there =
      let one : Tried (step_of at hits) (opens s hits K b) row o (after_by o at draft ram) new = subst (λ (v : Sight). Tried (step_of at v.step.hits) v row o (after_by o at draft ram) new) starts tried in
      subst (λ (x : State). Tried (step_of x hits) (opens s hits K b) row o (after_by o x draft ram) new) same one

  kept-is : new.kept ≡ K
  kept-is = there.moves.kept_

  undone-stays : (done : Bool) → done ≡ false → (if done then record { cpu = draft; ram = ram } else s) ≡ s
  undone-stays done e = rw e refl

  states : (if is_done told then record { cpu = draft; ram = ram } else s) ≡ state_by (judged o (length new.step.made) (expected new.kept (length new.step.made))) s (after_by o s draft ram)
  states = elim (cases_Bool (is_done told)) [
    | inl t ↦ let f = finished_so t in
        let d : is_done o ≡ true = ap is_done (sym f.1) ∙ t in
        let j : is_done (judged o (length new.step.made) (expected new.kept (length new.step.made))) ≡ true = ap is_done (sym judge) ∙ t in
        rw (t, j, d) refl
    | inr n ↦ let j : is_done (judged o (length new.step.made) (expected new.kept (length new.step.made))) ≡ false = ap is_done (sym judge) ∙ n in
        rw (n, j) refl
  ]

  -- what the call reports
  pub call_reports : Agrees new.kept.answers new.kept.asked new.step.made → (r : Report) (now : State) (left : Kept) (bus : BusView) → r ≡ told_by row told new.step.made → now ≡ (if is_done told then record { cpu = draft; ram = ram } else s) → left ≡ left_by told new.step.made K → bus ≡ new.bus → ReportsOnce (step_of s hits) s K b r now left bus
  call_reports ag r now left bus tells is keeps bus_is =
      let agrees : Agrees K.answers K.asked new.step.made = subst (λ (k : Kept). Agrees k.answers k.asked new.step.made) kept-is ag in
      let u : expected K (length new.step.made) ≡ expected new.kept (length new.step.made) = ap (λ (k : Kept). expected k (length new.step.made)) (sym kept-is) in
      reports (step_of s hits) s (begins s hits) K b refl ok row (after_by o s draft ram) new agrees o (expected new.kept (length new.step.made)) there u r now left bus
      (tells ∙ ap (λ x. told_by row x new.step.made) judge)
      (is ∙ states)
      (keeps ∙ ap (λ x. left_by x new.step.made K) judge)
      bus_is
      (λ e. undone-stays (is_done o) e)

  -- one that finishes
  pub call_finished : is_done told ≡ true → Agrees new.kept.answers new.kept.asked new.step.made → (r : Report) (now : State) (left : Kept) (bus : BusView) → r ≡ told_by row told new.step.made → now ≡ record { cpu = draft; ram = ram } → left ≡ nothing → bus ≡ new.bus → ReportsOnce (step_of s hits) s K b r now left bus
  call_finished done ag r now left bus tells is keeps bus_is =
      let state : record { cpu = draft; ram = ram } ≡ (if is_done told then record { cpu = draft; ram = ram } else s) = rw done refl in
      call_reports ag r now left bus tells (is ∙ state) (keeps ∙ sym (done-left told new.step.made K done)) bus_is

  -- one that doesn't
  pub call_ended : is_done told ≡ false → Agrees new.kept.answers new.kept.asked new.step.made → (r : Report) (now : State) (left : Kept) (bus : BusView) → r ≡ told_by row told new.step.made → now ≡ s → left ≡ left_by told new.step.made new.kept → bus ≡ new.bus → ReportsOnce (step_of s hits) s K b r now left bus
  call_ended undone ag r now left bus tells is keeps bus_is =
      let state : s ≡ (if is_done told then record { cpu = draft; ram = ram } else s) = sym (undone-stays (is_done told) undone) in
      call_reports ag r now left bus tells (is ∙ state) (keeps ∙ ap (left_by told new.step.made) kept-is) bus_is
