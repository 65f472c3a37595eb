use Rattle.std.proofs.Common.{ℕ, suc, ◌≡◌, ◌<◌, ◌≤◌, ◌+◌, ◌-◌, ◌==◌, List, [], ◌∷◌, ◌++◌, length, Bool, true, false, Option, Some, None, IsSome, refl, sym, ap, subst, ◌∙◌, arith, if◌then◌else◌, inl, inr, ◌⊎◌}
use Rattle.std.proofs.lemmas.Bool.{cases_Bool}
use Rattle.std.proofs.lemmas.Bool.Decides.{nat_tests}
use Rattle.xe_base.specs.declared.access.Access.{Access}
use Rattle.xe_base.specs.declared.access.Answer.{Answer}
use Rattle.xe_base.specs.declared.access.Made.{Made}
use Rattle.xe_opmap.specs.declared.row.Row.{Row}
use Rattle.xe_ctx.specs.Bus.{BusView, Rose}
use Rattle.xe_ctx.specs.Kept.{Kept, nothing, expected, expected_from}
use Rattle.xe_ctx.specs.State.{State}
use Rattle.xe_ctx.specs.Supply.{Supply, Supplies, answers_alone, answers, from_tape}
use Rattle.xe_ctx.specs.Tape.{Tape, Key}
use Rattle.xe_ctx.specs.declared.report.Outcome.{Outcome}
use Rattle.xe_ctx.specs.declared.report.Outcome.TheVariants as outcomes
use Rattle.xe_ctx.specs.declared.report.Report.{Report}
use Rattle.xe_core.specs.Call.{Call, Divergence, divergence, Fits, called, called_by, diverged, resuming, resumed, reported, lacking, lacking_last, Tells, Counted, steps_before, before_last, alone, LeftBy, Played, Steady, has_finished, Completes, CompletesOver, Reports}
use Rattle.xe_core.specs.Step.{Stepped, Ended, Ends, Wants, is_done, is_diverged}
use Rattle.xe_core.specs.Tried.{is_plain, called_once, resumed_once, TellsOnce, ReportsOnce, behind_report, Did}
use Rattle.xe_core.specs.Turn.{Steps, Turn, leaves_more, taken, behind, turn_of, turn, last_goes_on, after_steps, Silent, no_steps, one_more}
use Rattle.xe_core.specs.declared.call.SoFar.{SoFar}
use Rattle.xe_core.proofs.Reporting.{supplied}
use Rattle.xe_core.proofs.TurnLaws.{goes-done, silent_turn, silent_state, state_none, state_once, single}

-- From the steps of a turn to what its call reports.

-- ---- outcomes

done-plain : (o : Outcome) → is_done o ≡ true → is_plain o ≡ true
done-plain (outcomes.Done more retire) h = refl
done-plain (outcomes.Pending a) h = h
done-plain (outcomes.Fault f) h = refl
done-plain (outcomes.Intercept x) h = refl
done-plain (outcomes.Event kind vector next) h = refl
done-plain (outcomes.Handoff x) h = refl
done-plain outcomes.Unhandled h = refl
done-plain (outcomes.BusFault a) h = h
done-plain (outcomes.Diverged at kept wanted) h = h

done-same : (o : Outcome) → is_done o ≡ true → is_diverged o ≡ false
done-same (outcomes.Done more retire) h = refl
done-same (outcomes.Pending a) h = refl
done-same (outcomes.Fault f) h = refl
done-same (outcomes.Intercept x) h = refl
done-same (outcomes.Event kind vector next) h = refl
done-same (outcomes.Handoff x) h = refl
done-same outcomes.Unhandled h = refl
done-same (outcomes.BusFault a) h = refl
done-same (outcomes.Diverged at kept wanted) h = (let un : false ≡ true = h in cc)

more-is : (o : Outcome) (made : List Made) → leaves_more o made ≡ true → (retire : ℕ) × (o ≡ outcomes.Done true retire) × (made ≡ [])
more-is (outcomes.Done true retire) [] h = (retire, refl, refl)
more-is (outcomes.Done true retire) (m ∷ ms) h = cc
more-is (outcomes.Done false retire) made h = cc
more-is (outcomes.Pending a) made h = cc
more-is (outcomes.Fault f) made h = cc
more-is (outcomes.Intercept x) made h = cc
more-is (outcomes.Event kind vector next) made h = cc
more-is (outcomes.Handoff x) made h = cc
more-is outcomes.Unhandled made h = cc
more-is (outcomes.BusFault a) made h = cc
more-is (outcomes.Diverged at kept wanted) made h = cc

rose-more : (older old new : ℕ) → older ≤ old → Rose old new → Rose older new
rose-more older old new l h below = let r = h below in omega arith

counted-more : (o : Outcome) (older old new : BusView) → older.unready ≤ old.unready → older.faults ≤ old.faults → Counted o old new → Counted o older new
counted-more (outcomes.Done more retire) older old new u f h = tt
counted-more (outcomes.Pending a) older old new u f h = rose-more older.unready old.unready new.unready u h
counted-more (outcomes.Fault x) older old new u f h = tt
counted-more (outcomes.Intercept x) older old new u f h = tt
counted-more (outcomes.Event kind vector next) older old new u f h = tt
counted-more (outcomes.Handoff x) older old new u f h = tt
counted-more outcomes.Unhandled older old new u f h = tt
counted-more (outcomes.BusFault a) older old new u f h = rose-more older.faults old.faults new.faults f h
counted-more (outcomes.Diverged at kept wanted) older old new u f h = tt

-- over a bus whose counts stay a call whose record belongs to the step comes to an end of the definition
decided-steady : (o : Outcome) (old new : BusView) → Counted o old new → Steady old new → is_diverged o ≡ false → is_plain o ≡ true
decided-steady (outcomes.Done more retire) old new c st d = refl
decided-steady (outcomes.Pending a) old new c st d = (let r = c st.below_unready in let l = st.unready_ in absurd (omega arith))
decided-steady (outcomes.Fault x) old new c st d = refl
decided-steady (outcomes.Intercept x) old new c st d = refl
decided-steady (outcomes.Event kind vector next) old new c st d = refl
decided-steady (outcomes.Handoff x) old new c st d = refl
decided-steady outcomes.Unhandled old new c st d = refl
decided-steady (outcomes.BusFault a) old new c st d = (let r = c st.below_faults in let l = st.faults_ in absurd (omega arith))
decided-steady (outcomes.Diverged at kept wanted) old new c st d = cc

lacking-ends : (o : Outcome) (e : Ended) → lacking o (Ends e) ≡ Ends e
lacking-ends (outcomes.Done more retire) e = refl
lacking-ends (outcomes.Pending a) e = refl
lacking-ends (outcomes.Fault x) e = refl
lacking-ends (outcomes.Intercept x) e = refl
lacking-ends (outcomes.Event kind vector next) e = refl
lacking-ends (outcomes.Handoff x) e = refl
lacking-ends outcomes.Unhandled e = refl
lacking-ends (outcomes.BusFault a) e = refl
lacking-ends (outcomes.Diverged at kept wanted) e = refl

-- ---- calls behind steps that finished

abbrev behind_call : ℕ → Option Row → Call → Call
behind_call k row c = record c { elements = k + c.elements; finished = if c.elements == 0 then row else c.finished }

-- a step, or the turn that it is, as a bus tells it that failed
pub lacking_taken : (s : State) (o : Outcome) (came : Stepped) → lacking_last o (taken s came) ≡ taken s (lacking o came)
lacking_taken s o (Ends e) = rw (lacking-ends o e) refl
lacking_taken s (outcomes.Done more retire) (Wants w) = refl
lacking_taken s (outcomes.Pending a) (Wants w) = refl
lacking_taken s (outcomes.Fault x) (Wants w) = refl
lacking_taken s (outcomes.Intercept x) (Wants w) = refl
lacking_taken s (outcomes.Event kind vector next) (Wants w) = refl
lacking_taken s (outcomes.Handoff x) (Wants w) = refl
lacking_taken s outcomes.Unhandled (Wants w) = refl
lacking_taken s (outcomes.BusFault a) (Wants w) = refl
lacking_taken s (outcomes.Diverged at kept wanted) (Wants w) = refl

called-over : (k : ℕ) (row : Option Row) (s : State) (came : Stepped) → called (behind k row (taken s came)) ≡ behind_call k row (called_once s came)
called-over k row s (Ends e) = refl
called-over k row s (Wants w) = refl

called-behind : (k : ℕ) (row : Option Row) (s : State) (o : Outcome) (came : Stepped) → called (lacking_last o (behind k row (taken s came))) ≡ behind_call k row (called_once s (lacking o came))
called-behind k row s o came = ap (λ t. called (behind k row t)) (lacking_taken s o came) ∙ called-over k row s (lacking o came)

-- what a call says of whether a turn goes on behind it
pub goes-as : (s : State) (o : Outcome) (came : Stepped) (c : Call) → called_once s (lacking o came) ≡ c → leaves_more c.outcome c.accesses ≡ false → last_goes_on came ≡ false
goes-as s o (Ends e) c h un =
    let same : called_once s (Ends e) ≡ c = ap (called_once s) (sym (lacking-ends o e)) ∙ h in
    ap (λ (d : Call). leaves_more d.outcome d.accesses) same ∙ un
goes-as s o (Wants w) c h un = refl

goes-over : (s : State) (came : Stepped) (c : Call) → called_once s came ≡ c → leaves_more c.outcome c.accesses ≡ false → last_goes_on came ≡ false
goes-over s (Ends e) c h un = ap (λ (d : Call). leaves_more d.outcome d.accesses) h ∙ un
goes-over s (Wants w) c h un = refl

-- ---- records

nothing-kept : (kept : Kept) → expected kept 0 ≡ None → kept ≡ nothing
nothing-kept kept h = by-cases kept.answers kept.asked h where
  by-cases : (ks : List Made) (asked : Option Access) → expected_from ks asked 0 ≡ None → record { answers = ks; asked = asked } ≡ nothing
  by-cases [] None h = refl
  by-cases [] (Some a) h = cc
  by-cases (k ∷ ks) asked h = cc

supplied_more : (ms : List Made) (rest : List Answer) → Supplies (answers_alone (answers ms ++ rest)) ms (answers_alone rest)
supplied_more [] rest = refl
supplied_more (m ∷ ms) rest = (answers_alone (answers ms ++ rest), refl, supplied_more ms rest)

-- ---- a turn that has come so far

module _ (steps : Steps) (first : State) (K : Kept) (begun : BusView) where
  -- at the start of another step of a turn
  pub record Going (f : SoFar) (s : State) (left : Kept) (b : BusView) : Type 0 where
    pub silent : Silent steps first f.elements f.finished s
    pub fresh : f.elements ≡ 0 → (s ≡ first) × (f.finished ≡ None)
    pub kept_ : left ≡ K
    pub later : 0 < f.elements → K ≡ nothing
    pub tape : b.tape ≡ begun.tape
    pub room_ : begun.room ≤ b.room
    pub spare_ : (k : Key) → b.spare k ≡ begun.spare k
    pub unready_ : begun.unready ≤ b.unready
    pub faults_ : begun.faults ≤ b.faults

  pub going_begins : Going (record { elements = 0; finished = None }) first K begun
  going_begins = record {
    silent = no_steps;
    fresh = λ _. (refl, refl);
    kept_ = refl;
    later = λ h. absurd (omega arith);
    tape = refl;
    room_ = omega arith;
    spare_ = λ k. refl;
    unready_ = omega arith;
    faults_ = omega arith;
  }

  -- a step that makes no access leaves the script as it was
  quiet : (o : Outcome) (retire : ℕ) (kept : Kept) (r : Report) (old new : BusView) → o ≡ outcomes.Done true retire → r.outcome ≡ o → r.accesses.items ≡ [] → kept ≡ nothing → (old.tape ≡ None → new.tape ≡ None) → ((t : Tape) → old.tape ≡ Some t → Played kept t r new.tape) → (tape : Option Tape) → old.tape ≡ tape → new.tape ≡ tape
  quiet o retire kept r old new done is empty un untold plays None e = untold e
  quiet o retire kept r old new done is empty un untold plays (Some t) e =
      let p = plays t e in
      let given : resuming kept (Some t) ≡ p.mid = (let g : Supplies (resuming kept (Some t)) [] p.mid = subst (λ ms. Supplies (resuming kept (Some t)) ms p.mid) empty p.supplies in g) in
      let left : p.mid ≡ from_tape p.tape = (let l : LeftBy (outcomes.Done true retire) p.mid (from_tape p.tape) = subst (λ x. LeftBy x p.mid (from_tape p.tape)) (is ∙ done) p.left in l) in
      let back : Some t ≡ Some p.tape = ap (λ (x : Supply). x.tape) (given ∙ left) in
      p.after_is ∙ sym back

  module _ (f : SoFar) (s : State) (left : Kept) (b : BusView) (g : Going f s left b) (after : State) (kept : Kept) (new : BusView) where
    abbrev stepping : Supply → Stepped
    stepping = steps s

    -- it goes on
    pub going_on : (next : SoFar) (may : Bool) (told : Report) → Did (steps s) s left b f may (Some next) told after kept new → Going next after kept new
    going_on next may told d =
        let r = d.report in
        let is = more-is r.outcome r.accesses.items d.went.1 in
        let done : is_done r.outcome ≡ true = goes-done r.outcome r.accesses.items d.went.1 in
        let plain = done-plain r.outcome done in
        let reached : expected left 0 ≡ None = subst (λ (ms : List Made). expected left (length ms) ≡ None) is.2 (d.reports.reached plain) in
        let empty : left ≡ nothing = nothing-kept left reached in
        let emptied = d.reports.emptied done in
        let none_kept : K ≡ nothing = sym g.kept_ ∙ empty in
        let comes : (supply : Supply) → steps s supply ≡ Ends (record { row = r.row; outcome = outcomes.Done true is.0; state = after; made = []; rest = supply }) = (λ supply.
        let here = d.reports.comes plain supply supply (subst (λ ms. Supplies supply ms supply) (sym is.2) refl) in
        here ∙ ap (λ o. Ends (record { row = r.row; outcome = o; state = after; made = r.accesses.items; rest = supply })) is.1 ∙ ap (λ ms. Ends (record { row = r.row; outcome = outcomes.Done true is.0; state = after; made = ms; rest = supply })) is.2) in
        let one : f.elements + 1 ≡ suc f.elements = omega arith in
        let silent : Silent steps first (f.elements + 1) r.row after = subst (λ n. Silent steps first n r.row after) (sym one) (one_more g.silent (record { retire = is.0; comes = comes })) in
        let room = d.reports.room_ in
        let none_made : length r.accesses.items ≡ 0 = ap length is.2 in
        rw d.went.2 (record {
          silent = silent;
          fresh = λ e. absurd (omega arith);
          kept_ = emptied ∙ sym none_kept;
          later = λ _. none_kept;
          tape = quiet r.outcome is.0 left r b new is.1 refl is.2 empty d.reports.untold (λ t e. d.reports.plays t e (done-same r.outcome done)) b.tape refl ∙ g.tape;
          room_ = omega (arith, room, none_made, g.room_);
          spare_ = λ k. d.reports.spare_ k ∙ g.spare_ k;
          unready_ = omega (arith, d.reports.unready_, g.unready_);
          faults_ = omega (arith, d.reports.faults_, g.faults_);
        })

    -- the turn ends with it
    module _ (n : ℕ) (may : Bool) (told : Report) (d : Did (steps s) s left b f may None told after kept new) (few : f.elements + 1 ≤ n) (last : (may ≡ true) ⊎ (f.elements + 1 ≡ n)) where
      abbrev one : Report
      one = d.report

      once : ReportsOnce (steps s) s K b d.report after kept new
      once = subst (λ (k : Kept). ReportsOnce (steps s) s k b d.report after kept new) g.kept_ d.reports

      -- a step with these answers after which no other one follows
      whole : (supply : Supply) → (leaves_more d.report.outcome d.report.accesses.items ≡ false → last_goes_on (steps s supply) ≡ false) → turn steps n first supply ≡ behind f.elements f.finished (taken s (steps s supply))
      whole supply h =
          let e : n - 1 ≡ f.elements + (n - 1 - f.elements) = omega arith in
          ap (λ m. turn_of steps m first supply) e ∙ silent_turn steps first supply (n - 1 - f.elements) g.silent ∙ ap (behind f.elements f.finished) (single steps (n - 1 - f.elements) s supply (ended last)) where
            ended : (may ≡ true) ⊎ (f.elements + 1 ≡ n) → (n - 1 - f.elements ≡ 0) ⊎ (last_goes_on (steps s supply) ≡ false)
            ended (inl m) = inr (h (d.went.1 m))
            ended (inr e) = inl (omega arith)

      -- the same place in the record, with the first step
      same-start : f.elements ≡ 0 → divergence (steps first) K ≡ divergence (steps s) K
      same-start e = ap (λ x. divergence (steps x) K) (sym (g.fresh e).0)

      same-divergence : divergence (steps first) K ≡ divergence (steps s) K
      same-divergence = elim (cases_Bool (f.elements == 0)) [
        | inl t ↦ let e : f.elements ≡ 0 = grind (arith, nat_tests) in same-start e
        | inr t ↦ let e : 0 < f.elements = grind (arith, nat_tests) in let k = g.later e in rw k refl
      ]

      -- where the record belongs to another step, this is the first
      apart-first : (x : Divergence) → divergence (steps s) K ≡ Some x → f.elements ≡ 0
      apart-first x e = elim (cases_Bool (f.elements == 0)) [
        | inl t ↦ grind (arith, nat_tests)
        | inr t ↦ let l : 0 < f.elements = grind (arith, nat_tests) in let k = g.later l in let un : None ≡ Some x = (rw k at e) in cc
      ]

      apart : (x : Divergence) (tape : Option Tape) → divergence (steps s) K ≡ Some x → diverged x s K tape ≡ reported d.report after kept tape → diverged x first K tape ≡ reported (behind_report f d.report) after kept tape
      apart x tape e h =
          let z = apart-first x e in
          let fresh = g.fresh z in
          let alone : diverged x first K tape ≡ behind_call f.elements f.finished (diverged x s K tape) = rw (z, fresh.1, fresh.0) refl in
          alone ∙ ap (behind_call f.elements f.finished) h

      tells-so : (o : Option Divergence) → divergence (steps s) K ≡ o → TellsOnce o (steps s) s K d.report after kept → Tells o steps n first K (behind_report f d.report) after kept
      tells-so (Some x) e h = apart x None e h
      tells-so None e (rest, front, h) = (
        rest,
        front,
        (let supply = answers_alone (answers d.report.accesses.items) in
            let w = whole supply (λ un. goes-as s d.report.outcome (steps s supply) (reported d.report after kept None) h un) in
            ap (λ t. called (lacking_last d.report.outcome t)) w ∙ called-behind f.elements f.finished s d.report.outcome (steps s supply) ∙ ap (behind_call f.elements f.finished) h),
      )

      told-so : (o : Option Divergence) (t u : Tape) → divergence (steps s) K ≡ o → resumed_once o (steps s) s K (Some t) ≡ reported d.report after kept (Some u) → resumed o steps n first K (Some t) ≡ reported (behind_report f d.report) after kept (Some u)
      told-so (Some x) t u e h =
          let z = apart-first x e in
          let fresh = g.fresh z in
          let alone : diverged x first K (Some t) ≡ behind_call f.elements f.finished (diverged x s K (Some t)) = rw (z, fresh.1, fresh.0) refl in
          alone ∙ ap (behind_call f.elements f.finished) h
      told-so None t u e h =
          let supply = resuming K (Some t) in
          let w = whole supply (λ un. goes-over s (steps s supply) (reported d.report after kept (Some u)) h un) in
          ap called w ∙ called-over f.elements f.finished s (steps s supply) ∙ ap (behind_call f.elements f.finished) h

      done-once : is_done d.report.outcome ≡ true → d.report.elements ≡ 1
      done-once e = once.one ∙ (rw e refl)

      undone-once : is_done d.report.outcome ≡ false → d.report.elements ≡ 0
      undone-once e = once.one ∙ (rw e refl)

      before-count : steps_before (behind_report f d.report) ≡ f.elements
      before-count = elim (cases_Bool (is_done d.report.outcome)) [
        | inl t ↦ let e = done-once t in rw t (omega arith)
        | inr t ↦ let e = undone-once t in rw t (omega arith)
      ]

      within-so : steps_before (behind_report f d.report) < n
      within-so = let e = before-count in omega arith

      before-is : before_last steps first (behind_report f d.report) ≡ s
      before-is =
          let e : f.elements ≡ f.elements + 0 = omega arith in
          ap (λ k. after_steps steps k first (answers_alone [])) (before-count ∙ e) ∙ silent_state steps first (answers_alone []) 0 g.silent ∙ state_none steps s (answers_alone [])

      silent-so : Silent steps first (steps_before (behind_report f d.report)) f.finished (before_last steps first (behind_report f d.report))
      silent-so = subst (λ k. Silent steps first k f.finished (before_last steps first (behind_report f d.report))) (sym before-count) (subst (λ x. Silent steps first f.elements f.finished x) (sym before-is) g.silent)

      -- the state after the steps that finished, the last step among them where it did
      one-after : is_done d.report.outcome ≡ true → after_steps steps 1 s (answers_alone (answers d.report.accesses.items)) ≡ after
      one-after t = state_once steps s _ _ (once.comes (done-plain d.report.outcome t) _ _ (supplied d.report.accesses.items))

      last-state : after_steps steps d.report.elements s (answers_alone (answers d.report.accesses.items)) ≡ after
      last-state = elim (cases_Bool (is_done d.report.outcome)) [
        | inl t ↦ ap (λ k. after_steps steps k s (answers_alone (answers d.report.accesses.items))) (done-once t) ∙ one-after t
        | inr t ↦ ap (λ k. after_steps steps k s (answers_alone (answers d.report.accesses.items))) (undone-once t) ∙ state_none steps s _ ∙ sym (once.stays t)
      ]

      stays : after ≡ after_steps steps (f.elements + d.report.elements) first (answers_alone (answers d.report.accesses.items))
      stays = sym (silent_state steps first (answers_alone (answers d.report.accesses.items)) d.report.elements g.silent ∙ last-state)

      finished-so : (behind_report f d.report).finished ≡ (if is_done d.report.outcome then d.report.row else f.finished)
      finished-so = elim (cases_Bool (is_done d.report.outcome)) [
        | inl t ↦ let e = done-once t in let h : d.report.finished ≡ d.report.row = once.finished ∙ (rw t refl) in rw (t, e, h) refl
        | inr t ↦ let e = undone-once t in rw (t, e) refl
      ]

      fits-so : is_diverged d.report.outcome ≡ false → divergence (steps after) kept ≡ None
      fits-so u = elim (cases_Bool (is_done d.report.outcome)) [
        | inl t ↦ let e = once.emptied t in rw e refl
        | inr t ↦ let e = once.stays t in rw e (once.fits_ u)
      ]

      few-so : f.elements + d.report.elements ≤ n
      few-so = elim (cases_Bool (is_done d.report.outcome)) [
        | inl t ↦ let e = done-once t in omega arith
        | inr t ↦ let e = undone-once t in omega arith
      ]

      alone-so : IsSome K.asked → f.elements + d.report.elements ≡ (if is_done d.report.outcome then 1 else 0)
      alone-so a = elim (cases_Bool (f.elements == 0)) [
        | inl t ↦ let z : f.elements ≡ 0 = grind (arith, nat_tests) in let e = once.one in omega arith
        | inr t ↦ let l : 0 < f.elements = grind (arith, nat_tests) in let k = g.later l in let un : IsSome nothing.asked = (rw k at a) in absurd (cc)
      ]

      completes-so : Fits (steps first) K → Steady begun new → Completes steps n first (behind_report f d.report)
      completes-so fits steady more h =
          let same = once.fitting (sym same-divergence ∙ fits) in
          let plain = decided-steady d.report.outcome begun new (counted-more d.report.outcome begun b new g.unready_ g.faults_ once.counted) steady same in
          let supply = answers_alone (answers d.report.accesses.items ++ more) in
          let came = once.comes plain supply (answers_alone more) (supplied_more d.report.accesses.items more) in
          let w = whole supply (λ un. ap last_goes_on came ∙ un) in
          sym (ap (λ t. has_finished t.last) (w ∙ ap (λ c. behind f.elements f.finished (taken s c)) came)) ∙ h

      completes-over : (t : Tape) → begun.tape ≡ Some t → Fits (steps first) K → CompletesOver steps n first K t (behind_report f d.report)
      completes-over t e fits h =
          let told = once.told t (g.tape ∙ e) in
          let c = told-so (divergence (steps s) K) t told.tape refl told.call in
          over (turn steps n first (resuming K (Some t))) h (ap (λ o. resumed o steps n first K (Some t)) (sym (sym same-divergence ∙ fits)) ∙ c) where
            over : (x : Turn) → has_finished x.last ≡ true → {u : Option Tape} → called x ≡ reported (behind_report f d.report) after kept u → is_done d.report.outcome ≡ true
            over x h {u} c = over-last x x.last h c where
              over-last : (x : Turn) (l : Stepped) → has_finished l ≡ true → {u : Option Tape} → called_by x l ≡ reported (behind_report f d.report) after kept u → is_done d.report.outcome ≡ true
              over-last x (Ends e) h c = sym (ap (λ (k : Call). is_done k.outcome) c) ∙ h
              over-last x (Wants w) h c = cc

      alone-is : alone (behind_report f d.report) ≡ d.report
      alone-is = let e = once.one in let h = once.finished in rw (← e, ← h) refl

      over-so : leaves_more d.report.outcome d.report.accesses.items ≡ true → f.elements + d.report.elements ≡ n
      over-so m = elim last [
        | inl t ↦ let un : true ≡ false = sym m ∙ d.went.1 t in absurd (cc)
        | inr e ↦ let h = done-once (goes-done d.report.outcome d.report.accesses.items m) in omega arith
      ]

      -- the step is a call of its own
      one-step : (supply : Supply) → turn steps 1 s supply ≡ taken s (steps s supply)
      one-step supply = let e : 1 - 1 ≡ 0 = omega arith in ap (λ k. turn_of steps k s supply) e ∙ single steps 0 s supply (inl refl)

      last-so : (o : Option Divergence) → TellsOnce o (steps s) s K d.report after kept → Tells o steps 1 s K d.report after kept
      last-so (Some x) h = h
      last-so None (rest, front, h) = (
        rest,
        front,
        ap (λ t. called (lacking_last d.report.outcome t)) (one-step (answers_alone (answers d.report.accesses.items))) ∙ ap called (lacking_taken s d.report.outcome (steps s (answers_alone (answers d.report.accesses.items)))) ∙ h,
      )

      last-there : Tells (divergence (steps (before_last steps first (behind_report f d.report))) K) steps 1 (before_last steps first (behind_report f d.report)) K (alone (behind_report f d.report)) after kept
      last-there =
          let here : Tells (divergence (steps s) K) steps 1 s K (alone (behind_report f d.report)) after kept = subst (λ (r : Report). Tells (divergence (steps s) K) steps 1 s K r after kept) (sym alone-is) (last-so (divergence (steps s) K) once.tells) in
          subst (λ (x : State). Tells (divergence (steps x) K) steps 1 x K (alone (behind_report f d.report)) after kept) (sym before-is) here

      -- what the call reports
      pub turn_ends : Reports steps n first K begun told after kept new
      turn_ends = rw d.went.0 (record {
        tells = rw same-divergence (tells-so (divergence (steps s) K) refl once.tells);
        told = λ t e. (let x = once.told t (g.tape ∙ e) in
            record {
              tape = x.tape;
              after_is = x.after_is;
              call = rw same-divergence (told-so (divergence (steps s) K) t x.tape refl x.call);
              log = x.log;
            });
        untold = λ e. once.untold (g.tape ∙ e);
        room_ = omega (arith, once.room_, g.room_);
        spare_ = λ k. once.spare_ k ∙ g.spare_ k;
        unready_ = omega (arith, once.unready_, g.unready_);
        faults_ = omega (arith, once.faults_, g.faults_);
        counted = counted-more d.report.outcome begun b new g.unready_ g.faults_ once.counted;
        well_made = once.well_made;
        few = few-so;
        single = alone-so;
        stays = stays;
        led = record { row = f.finished; silent = silent-so; within = within-so; finished = finished-so; over = over-so; last = last-there };
        fits_ = fits-so;
        asks = rw before-is once.asks;
        stands = rw before-is once.stands;
        fitting = λ e. once.fitting (sym same-divergence ∙ e);
        plays = λ t e u. (let p = once.plays t (g.tape ∙ e) u in record { tape = p.tape; after_is = p.after_is; mid = p.mid; supplies = p.supplies; left = p.left });
        completes = completes-so;
        completes_over = completes-over;
      })

    -- a step behind which the turn may not go on ends it
    pub turn_ends_here : (n : ℕ) (res : Option SoFar) (told : Report) → Did (steps s) s left b f false res told after kept new → f.elements + 1 ≡ n → Reports steps n first K begun told after kept new
    turn_ends_here n (Some next) told d e = absurd (let un : false ≡ true = d.went.0 in cc)
    turn_ends_here n None told d e = turn_ends n false told d (omega arith) (inr e)
