use Rattle.std.proofs.Common.{ℕ, zero, suc, ◌≡◌, ◌<◌, ◌≤◌, ◌+◌, ◌-◌, List, [], ◌∷◌, ◌++◌, length, drop, Bool, true, false, Option, Some, None, refl, sym, ap, ◌∙◌, arith, if◌then◌else◌, nat_lt, inl, inr}
use Rattle.std.proofs.lemmas.Bool.{cases_Bool}
use Rattle.std.proofs.lemmas.Bool.Decides.{nat_tests}
use Rattle.std.proofs.lemmas.List.{append-nil, drop_all, length-drop}
use Rattle.xe_base.specs.declared.access.Access.{Access}
use Rattle.xe_base.specs.declared.access.Made.{Made}
use Rattle.xe_opmap.specs.declared.row.Row.{Row}
use Rattle.std.proofs.lemmas.List.Elements.{All-nil}
use Rattle.xe_base.specs.Access.{IsWellMade}
use Rattle.xe_ctx.specs.Bus.{BusView}
use Rattle.xe_core.specs.Call.{Divergence, differs, divergence, diverges_from, standing, StandsEach, lacking, Counted, Stands, LeftBy}
use Rattle.xe_core.specs.Tried.{called_once, ReportsOnce, StandsThere, ComesTo, is_plain, why_by, Tried, judged, told_by, left_by, state_by}
use Rattle.xe_ctx.specs.Is.{Sight, Plays, Leaves, Stood, StandsAt, fresh, supply_of}
use Rattle.xe_ctx.specs.Part.{View}
use Rattle.xe_ctx.specs.Kept.{Kept, nothing, expected, expected_from, Agrees, IsKept, same_access}
use Rattle.xe_ctx.specs.State.{State}
use Rattle.xe_core.specs.Step.{Stepped, Ends, is_done, is_diverged}
use Rattle.xe_ctx.specs.Supply.{Supply, Supplies, Lacks, Unanswered, Unready, Failing, answers_alone, answers, from_tape, next_answer}
use Rattle.xe_ctx.specs.Tape.{Tape}
use Rattle.xe_ctx.specs.declared.report.Outcome.{Outcome}
use Rattle.xe_ctx.specs.declared.report.Outcome.TheVariants as outcomes
use Rattle.xe_ctx.specs.declared.report.Report.{Report}
use Rattle.xe_core.proofs.Replays.{diverges-none, diverges-last, diverges-asked, agrees-front}

-- From a step that was tried to what its call reports.

-- the answers of accesses supply those accesses
pub supplied : (ms : List Made) → Supplies (answers_alone (answers ms)) ms (answers_alone [])
supplied [] = refl
supplied (m ∷ ms) = (answers_alone (answers ms), refl, supplied ms)

-- given answers leave the script as it was
tape-stays : (ks ms : List Made) (tape : Option Tape) (rest : Supply) → length ms ≤ length ks → Supplies (record { given = answers ks; tape = tape }) ms rest → rest.tape ≡ tape
tape-stays ks [] tape rest l h = sym (ap (λ (s : Supply). s.tape) h)
tape-stays [] (m ∷ ms) tape rest l h = absurd (omega arith)
tape-stays (k ∷ ks) (m ∷ ms) tape rest l (mid, e, h) = let same : record { given = answers ks; tape = tape } ≡ mid = cc in tape-stays ks ms tape rest (omega arith) (rw (← same) at h)

-- what agrees with itself
agrees-self : (ms : List Made) (asked : Option Access) → Agrees ms asked ms
agrees-self [] asked = tt
agrees-self (m ∷ ms) asked = (refl, agrees-self ms asked)

-- a record with an asked access expects something at each place up to it
expects-some : (ks : List Made) (asked : Access) (n : ℕ) → expected_from ks (Some asked) n ≡ None → length ks < n
expects-some [] asked zero e = cc
expects-some [] asked (suc n) e = omega arith
expects-some (k ∷ ks) asked zero e = cc
expects-some (k ∷ ks) asked (suc n) e = let l = expects-some ks asked n e in omega arith

-- and nothing behind
expects-none : (ks : List Made) (asked : Option Access) (n : ℕ) (a : Access) → expected_from ks asked n ≡ Some a → n ≤ length ks
expects-none [] asked zero a e = omega arith
expects-none [] asked (suc n) a e = (let no : None ≡ Some a = e in cc)
expects-none (k ∷ ks) asked zero a e = omega arith
expects-none (k ∷ ks) asked (suc n) a e = let l = expects-none ks asked n a e in omega arith

expects-asked : (ks : List Made) (asked : Access) → expected_from ks (Some asked) (length ks) ≡ Some asked
expects-asked [] asked = refl
expects-asked (k ∷ ks) asked = expects-asked ks asked

-- nothing asked, nothing kept, nothing expected
none-expected : (ks : List Made) (n : ℕ) → ks ≡ [] → expected_from ks None n ≡ None
none-expected ks zero e = rw e refl
none-expected ks (suc n) e = rw e refl

-- ---- where the record belongs to the step

module _ (stepping : Supply → Stepped) (row : Option Row) where
  -- the step stands at an access behind all that was kept
  fits-standing : (ks : List Made) (asked : Option Access) (ms : List Made) (a : Access) → StandsEach stepping row [] ms → Agrees ks asked ms → length ks ≤ length ms → ((b : Access) → expected_from ks asked (length ms) ≡ Some b → b ≡ a) → stepping (answers_alone (answers ms)) ≡ standing row a ms → diverges_from stepping ks asked ≡ None
  fits-standing ks None ms a st ag l ex last = refl
  fits-standing ks (Some q) ms a st ag l ex last = elim (cases_Bool (nat_lt (length ks) (length ms))) [
    | inl t ↦ let less : length ks < length ms = grind (arith, nat_tests) in diverges-none stepping row q ks ms [] st ag less
    | inr f ↦ let e : length ms ≡ length ks = grind (arith, nat_tests) in
        let same : q ≡ a = ex q (rw e (expects-asked ks q)) in
        diverges-asked stepping row q ks ms [] st ag e (rw same last)
  ]

  -- the step has reached all that was kept, and what was asked
  fits-reached : (ks : List Made) (asked : Option Access) (ms : List Made) → StandsEach stepping row [] ms → Agrees ks asked ms → expected_from ks asked (length ms) ≡ None → diverges_from stepping ks asked ≡ None
  fits-reached ks None ms st ag e = refl
  fits-reached ks (Some q) ms st ag e = diverges-none stepping row q ks ms [] st ag (expects-some ks q (length ms) e)

  -- it differs at the place behind those made
  differs-there : (ks : List Made) (asked : Option Access) (ms : List Made) (x : Access) (d : Divergence) → IsKept ks asked → StandsEach stepping row [] ms → Agrees ks asked ms → expected_from ks asked (length ms) ≡ Some x → differs (length ms) x (stepping (answers_alone (answers ms))) ≡ Some d → diverges_from stepping ks asked ≡ Some d
  differs-there ks None ms x d ok st ag e last = let none : expected_from ks None (length ms) ≡ None = none-expected ks (length ms) (ok.empty refl) in cc
  differs-there ks (Some q) ms x d ok st ag e last = diverges-last stepping row q ks ms [] x d st ag e last

reached-kept : (ks : List Made) (asked : Option Access) (ms : List Made) → IsKept ks asked → expected_from ks asked (length ms) ≡ None → length ks ≤ length ms
reached-kept ks None ms ok e = let l = ap length (ok.empty refl) in omega arith
reached-kept ks (Some q) ms ok e = let l = expects-some ks q (length ms) e in omega arith

-- ---- ends that the definition has

comes-plain : (came : Stepped) (row : Option Row) (o : Outcome) (after : State) (made : List Made) (rest : Supply) → is_plain o ≡ true → ComesTo came row o after made rest → came ≡ Ends (record { row = row; outcome = o; state = after; made = made; rest = rest })
comes-plain came row (outcomes.Done more retire) after made rest p e = e
comes-plain came row (outcomes.Pending a) after made rest p e = cc
comes-plain came row (outcomes.Fault f) after made rest p e = e
comes-plain came row (outcomes.Intercept x) after made rest p e = e
comes-plain came row (outcomes.Event kind vector next) after made rest p e = e
comes-plain came row (outcomes.Handoff h) after made rest p e = e
comes-plain came row outcomes.Unhandled after made rest p e = e
comes-plain came row (outcomes.BusFault a) after made rest p e = cc
comes-plain came row (outcomes.Diverged at kept wanted) after made rest p e = cc

why-plain : (o : Outcome) → is_plain o ≡ true → why_by o ≡ None
why-plain (outcomes.Done more retire) p = refl
why-plain (outcomes.Pending a) p = cc
why-plain (outcomes.Fault f) p = refl
why-plain (outcomes.Intercept x) p = refl
why-plain (outcomes.Event kind vector next) p = refl
why-plain (outcomes.Handoff h) p = refl
why-plain outcomes.Unhandled p = refl
why-plain (outcomes.BusFault a) p = cc
why-plain (outcomes.Diverged at kept wanted) p = cc

pub comes-ended : (came : Stepped) (row : Option Row) (o : Outcome) (after : State) (made : List Made) (rest : Supply) → is_plain o ≡ true → came ≡ Ends (record { row = row; outcome = o; state = after; made = made; rest = rest }) → ComesTo came row o after made rest
comes-ended came row (outcomes.Done more retire) after made rest p e = e
comes-ended came row (outcomes.Pending a) after made rest p e = cc
comes-ended came row (outcomes.Fault f) after made rest p e = e
comes-ended came row (outcomes.Intercept x) after made rest p e = e
comes-ended came row (outcomes.Event kind vector next) after made rest p e = e
comes-ended came row (outcomes.Handoff h) after made rest p e = e
comes-ended came row outcomes.Unhandled after made rest p e = e
comes-ended came row (outcomes.BusFault a) after made rest p e = cc
comes-ended came row (outcomes.Diverged at kept wanted) after made rest p e = (let no : false ≡ true = p in cc)

pub plain-leaves : (o : Outcome) → is_plain o ≡ true → (mid rest : Supply) → Leaves None mid rest → Leaves (why_by o) mid rest
plain-leaves o p mid rest h = rw (why-plain o p) h

pub plain-stood : (o : Outcome) (old new : Sight) → is_plain o ≡ true → Stood (why_by o) old new
plain-stood o old new p = rw (why-plain o p) tt

lacking-plain : (o : Outcome) (came : Stepped) → is_plain o ≡ true → lacking o came ≡ came
lacking-plain (outcomes.Done more retire) came p = refl
lacking-plain (outcomes.Pending a) came p = refl
lacking-plain (outcomes.Fault f) came p = refl
lacking-plain (outcomes.Intercept x) came p = refl
lacking-plain (outcomes.Event kind vector next) came p = refl
lacking-plain (outcomes.Handoff h) came p = refl
lacking-plain outcomes.Unhandled came p = refl
lacking-plain (outcomes.BusFault a) came p = cc
lacking-plain (outcomes.Diverged at kept wanted) came p = refl

plain-same : (o : Outcome) → is_plain o ≡ true → is_diverged o ≡ false
plain-same (outcomes.Done more retire) p = refl
plain-same (outcomes.Pending a) p = refl
plain-same (outcomes.Fault f) p = refl
plain-same (outcomes.Intercept x) p = refl
plain-same (outcomes.Event kind vector next) p = refl
plain-same (outcomes.Handoff h) p = refl
plain-same outcomes.Unhandled p = refl
plain-same (outcomes.BusFault a) p = refl
plain-same (outcomes.Diverged at kept wanted) p = cc

stands-plain : (o : Outcome) (stepping : Supply → Stepped) (row : Option Row) (made : List Made) → is_plain o ≡ true → Stands o stepping row made
stands-plain (outcomes.Done more retire) stepping row made p = tt
stands-plain (outcomes.Pending a) stepping row made p = cc
stands-plain (outcomes.Fault f) stepping row made p = tt
stands-plain (outcomes.Intercept x) stepping row made p = tt
stands-plain (outcomes.Event kind vector next) stepping row made p = tt
stands-plain (outcomes.Handoff h) stepping row made p = tt
stands-plain outcomes.Unhandled stepping row made p = tt
stands-plain (outcomes.BusFault a) stepping row made p = cc
stands-plain (outcomes.Diverged at kept wanted) stepping row made p = tt

left-plain : (o : Outcome) (mid rest : Supply) → is_plain o ≡ true → mid ≡ rest → LeftBy o mid rest
left-plain (outcomes.Done more retire) mid rest p e = e
left-plain (outcomes.Pending a) mid rest p e = cc
left-plain (outcomes.Fault f) mid rest p e = e
left-plain (outcomes.Intercept x) mid rest p e = e
left-plain (outcomes.Event kind vector next) mid rest p e = e
left-plain (outcomes.Handoff h) mid rest p e = e
left-plain outcomes.Unhandled mid rest p e = e
left-plain (outcomes.BusFault a) mid rest p e = cc
left-plain (outcomes.Diverged at kept wanted) mid rest p e = e

counted-plain : (o : Outcome) (old new : BusView) → is_plain o ≡ true → Counted o old new
counted-plain (outcomes.Done more retire) old new p = tt
counted-plain (outcomes.Pending a) old new p = cc
counted-plain (outcomes.Fault f) old new p = tt
counted-plain (outcomes.Intercept x) old new p = tt
counted-plain (outcomes.Event kind vector next) old new p = tt
counted-plain (outcomes.Handoff h) old new p = tt
counted-plain outcomes.Unhandled old new p = tt
counted-plain (outcomes.BusFault a) old new p = cc
counted-plain (outcomes.Diverged at kept wanted) old new p = cc

-- ---- a call

module _ (stepping : Supply → Stepped) (s : State) (v : View) (K : Kept) (b : BusView) (none : v.made ≡ []) (ok : IsKept K.answers K.asked) (row : Option Row) (outcome : Outcome) (after : State) (new : Sight) where
  abbrev pub start : Sight
  start = record { step = v; kept = K; bus = b }

  module _ (tried : Tried stepping start row outcome after new) (ag : Agrees K.answers K.asked new.step.made) where
    kept-same : new.kept ≡ K
    kept-same = tried.moves.kept_

    fresh-new : fresh new ≡ drop (length K.answers) new.step.made
    fresh-new = ap (λ (k : Kept). drop (length k.answers) new.step.made) kept-same

    fresh-start : fresh start ≡ []
    fresh-start = ap (λ ms. drop (length K.answers) ms) none ∙ drop_all (length K.answers) [] (omega arith)

    supply-start : (t : Tape) → b.tape ≡ Some t → supply_of start ≡ record { given = answers K.answers; tape = Some t }
    supply-start t e = ap (λ (ms : List Made). record { given = answers (drop (length ms) K.answers); tape = b.tape }) none ∙ ap (λ (x : Option Tape). record { given = answers K.answers; tape = x }) e

    -- behind all that was kept only the script is left
    supply-new : (t : Tape) → new.bus.tape ≡ Some t → length K.answers ≤ length new.step.made → supply_of new ≡ from_tape t
    supply-new t e l =
        let used : drop (length new.step.made) new.kept.answers ≡ [] = ap (λ (k : Kept). drop (length new.step.made) k.answers) kept-same ∙ drop_all (length new.step.made) K.answers l in
        ap (λ (ms : List Made). record { given = answers ms; tape = new.bus.tape }) used ∙ ap (λ (x : Option Tape). record { given = []; tape = x }) e

    room-new : b.room ≤ new.bus.room + (length new.step.made - length K.answers)
    room-new = omega (arith, tried.moves.room_, ap length fresh-start, ap length fresh-new, length-drop (length K.answers) new.step.made)

    log-new : (t : Tape) (p : Plays t start new.step.made (why_by outcome) new) → p.tape.log ≡ t.log ++ drop (length K.answers) new.step.made
    log-new t p = p.log t.log (rw fresh-start (sym (append-nil t.log))) ∙ ap (λ ms. t.log ++ ms) fresh-new

    -- it ended as the definition has it, and has reached all that the record has
    pub reports_ended : (r : Report) (now : State) (left : Kept) (bus : BusView) → is_plain outcome ≡ true → expected K (length new.step.made) ≡ None → r ≡ record { row = row; finished = if is_done outcome then row else None; elements = if is_done outcome then 1 else 0; accesses = record { items = new.step.made }; outcome = outcome } → now ≡ after → left ≡ nothing → bus ≡ new.bus → (is_done outcome ≡ false → after ≡ s) → ReportsOnce stepping s K b r now left bus
    reports_ended r now left bus p reached told is empty bus_is stay =
        let fits : divergence stepping K ≡ None = fits-reached stepping row K.answers K.asked new.step.made tried.stands ag reached in
        let came : (supply rest : Supply) → Supplies supply new.step.made rest → stepping supply ≡ Ends (record { row = row; outcome = outcome; state = after; made = new.step.made; rest = rest }) = (λ supply rest h. comes-plain _ row outcome after _ rest p (tried.comes supply rest h)) in
        let front = agrees-front K.answers new.step.made K.asked ag (reached-kept K.answers K.asked new.step.made ok reached) in
        rw (told, is, empty, bus_is) (record {
          tells = rw fits (front.0, front.1, ap (called_once s) (lacking-plain outcome _ p ∙ came _ _ (supplied new.step.made)));
          told = λ t e. (let q = tried.moves.told t e in
              let leaves : Leaves None q.mid (supply_of new) = rw (why-plain outcome p) at q.left in
              let supplies : Supplies (record { given = answers K.answers; tape = Some t }) new.step.made q.mid = rw (supply-start t e) at q.supplies in
              record {
                tape = q.tape;
                after_is = q.is;
                call = rw (fits, came _ _ supplies, leaves, q.is) refl;
                log = log-new t q;
              });
          untold = tried.moves.untold;
          room_ = room-new;
          spare_ = tried.moves.spare_;
          unready_ = tried.moves.unready_;
          faults_ = tried.moves.faults_;
          counted = counted-plain outcome b new.bus p;
          well_made = tried.moves.well_made;
          one = refl;
          finished = refl;
          stays = stay;
          comes = λ _. came;
          reached = λ _. reached;
          fits_ = λ _. refl;
          emptied = λ _. refl;
          asks = λ _. tried.stands;
          stands = stands-plain outcome stepping row new.step.made p;
          fitting = λ _. plain-same outcome p;
          plays = λ t e _. (let q = tried.moves.told t e in
              let leaves : Leaves None q.mid (supply_of new) = rw (why-plain outcome p) at q.left in
              record {
                tape = q.tape;
                after_is = q.is;
                mid = q.mid;
                supplies = rw (supply-start t e) at q.supplies;
                left = left-plain outcome q.mid (from_tape q.tape) p (leaves ∙ supply-new q.tape q.is (reached-kept K.answers K.asked new.step.made ok reached));
              });
        })

    -- the step stands at an access that the bus was asked for
    module _ (a : Access) (stand : StandsAt a new) (here : (supply rest : Supply) → Supplies supply new.step.made rest → StandsThere (stepping supply) row a new.step.made rest) where
      used : length K.answers ≤ length new.step.made
      used = rw kept-same at stand.next.used

      expects : (c : Access) → expected K (length new.step.made) ≡ Some c → c ≡ a
      expects = rw kept-same at stand.next.expects

      alone : stepping (answers_alone (answers new.step.made)) ≡ standing row a new.step.made
      alone = here _ _ (supplied new.step.made) Unanswered (answers_alone []) refl

      fits-there : divergence stepping K ≡ None
      fits-there = fits-standing stepping row K.answers K.asked new.step.made a tried.stands ag used expects alone

      -- and belongs to the step that it leaves
      pub fits-left : divergence stepping (record { answers = new.step.made; asked = Some a }) ≡ None
      fits-left = diverges-asked stepping row a new.step.made new.step.made [] tried.stands (agrees-self new.step.made (Some a)) refl alone

      pub reports_pending : (r : Report) (now : State) (left : Kept) (bus : BusView) → outcome ≡ outcomes.Pending a → r ≡ record { row = row; finished = None; elements = 0; accesses = record { items = new.step.made }; outcome = outcomes.Pending a } → now ≡ s → left ≡ record { answers = new.step.made; asked = Some a } → bus ≡ new.bus → ReportsOnce stepping s K b r now left bus
      reports_pending r now left bus o told is keeps bus_is =
          let front = agrees-front K.answers new.step.made K.asked ag used in
          let stood = rw o at tried.moves.stood in
          rw (told, is, keeps, bus_is) (record {
            tells = rw fits-there (front.0, front.1, ap (called_once s) alone);
            told = λ t e. (let q = tried.moves.told t e in
                let leaves : next_answer q.mid a ≡ Lacks Unready (supply_of new) = rw o at q.left in
                let supplies : Supplies (record { given = answers K.answers; tape = Some t }) new.step.made q.mid = rw (supply-start t e) at q.supplies in
                record {
                  tape = q.tape;
                  after_is = q.is;
                  call = rw (fits-there, here _ _ supplies Unready (supply_of new) leaves, q.is) refl;
                  log = log-new t q;
                });
            untold = tried.moves.untold;
            room_ = room-new;
            spare_ = tried.moves.spare_;
            unready_ = tried.moves.unready_;
            faults_ = tried.moves.faults_;
            counted = stood.1;
            well_made = tried.moves.well_made;
            one = refl;
            finished = refl;
            stays = λ _. refl;
            comes = λ no. cc;
            reached = λ no. cc;
            fits_ = λ _. fits-left;
            emptied = λ no. cc;
            asks = λ _. tried.stands;
            stands = alone;
            fitting = λ _. refl;
            plays = λ t e _. (let q = tried.moves.told t e in
                let leaves : next_answer q.mid a ≡ Lacks Unready (supply_of new) = rw o at q.left in
                record {
                  tape = q.tape;
                  after_is = q.is;
                  mid = q.mid;
                  supplies = rw (supply-start t e) at q.supplies;
                  left = leaves ∙ ap (Lacks Unready) (supply-new q.tape q.is used);
                });
          })

      pub reports_failed : (r : Report) (now : State) (left : Kept) (bus : BusView) → outcome ≡ outcomes.BusFault a → r ≡ record { row = row; finished = None; elements = 0; accesses = record { items = new.step.made }; outcome = outcomes.BusFault a } → now ≡ s → left ≡ record { answers = new.step.made; asked = Some a } → bus ≡ new.bus → ReportsOnce stepping s K b r now left bus
      reports_failed r now left bus o told is keeps bus_is =
          let front = agrees-front K.answers new.step.made K.asked ag used in
          let stood = rw o at tried.moves.stood in
          rw (told, is, keeps, bus_is) (record {
            tells = rw fits-there (front.0, front.1, rw alone refl);
            told = λ t e. (let q = tried.moves.told t e in
                let leaves : next_answer q.mid a ≡ Lacks Failing (supply_of new) = rw o at q.left in
                let supplies : Supplies (record { given = answers K.answers; tape = Some t }) new.step.made q.mid = rw (supply-start t e) at q.supplies in
                record {
                  tape = q.tape;
                  after_is = q.is;
                  call = rw (fits-there, here _ _ supplies Failing (supply_of new) leaves, q.is) refl;
                  log = log-new t q;
                });
            untold = tried.moves.untold;
            room_ = room-new;
            spare_ = tried.moves.spare_;
            unready_ = tried.moves.unready_;
            faults_ = tried.moves.faults_;
            counted = stood.1;
            well_made = tried.moves.well_made;
            one = refl;
            finished = refl;
            stays = λ _. refl;
            comes = λ no. cc;
            reached = λ no. cc;
            fits_ = λ _. fits-left;
            emptied = λ no. cc;
            asks = λ _. tried.stands;
            stands = alone;
            fitting = λ _. refl;
            plays = λ t e _. (let q = tried.moves.told t e in
                let leaves : next_answer q.mid a ≡ Lacks Failing (supply_of new) = rw o at q.left in
                record {
                  tape = q.tape;
                  after_is = q.is;
                  mid = q.mid;
                  supplies = rw (supply-start t e) at q.supplies;
                  left = leaves ∙ ap (Lacks Failing) (supply-new q.tape q.is used);
                });
          })

    -- the record belongs to another step: it has another access at the place behind those made, or the step has ended
    module _ (x : Access) (wanted : Option Access) (within : length new.step.made ≤ length K.answers) (why : divergence stepping K ≡ Some (record { row = row; what = record { at = length new.step.made; kept = x; wanted = wanted } })) (quiet : (t : Tape) → (p : Plays t start new.step.made (why_by outcome) new) → p.mid ≡ supply_of new) where
      reports-apart : (r : Report) (now : State) (left : Kept) (bus : BusView) → r ≡ record { row = row; finished = None; elements = 0; accesses = record { items = [] }; outcome = outcomes.Diverged (length new.step.made) x wanted } → now ≡ s → left ≡ K → bus ≡ new.bus → ReportsOnce stepping s K b r now left bus
      reports-apart r now left bus told is keeps bus_is =
          rw (told, is, keeps, bus_is) (record {
            tells = rw why refl;
            told = λ t e. (let q = tried.moves.told t e in
                let supplies : Supplies (record { given = answers K.answers; tape = Some t }) new.step.made q.mid = rw (supply-start t e) at q.supplies in
                let same : q.mid.tape ≡ Some t = tape-stays K.answers new.step.made (Some t) q.mid within supplies in
                let back : Some q.tape ≡ Some t = sym q.is ∙ sym (ap (λ (u : Supply). u.tape) (quiet t q)) ∙ same in
                let one : q.tape ≡ t = cc in
                record {
                  tape = q.tape;
                  after_is = q.is;
                  call = rw (why, one) refl;
                  log = log-new t q ∙ ap (λ ms. t.log ++ ms) (drop_all (length K.answers) new.step.made within ∙ sym (drop_all (length K.answers) [] (omega arith)));
                });
            untold = tried.moves.untold;
            room_ = (let l = length-drop (length K.answers) new.step.made in let room = room-new in omega arith);
            spare_ = tried.moves.spare_;
            unready_ = tried.moves.unready_;
            faults_ = tried.moves.faults_;
            counted = tt;
            well_made = All-nil IsWellMade;
            one = refl;
            finished = refl;
            stays = λ _. refl;
            comes = λ no. cc;
            reached = λ no. cc;
            fits_ = λ no. cc;
            emptied = λ no. cc;
            asks = λ no. cc;
            stands = tt;
            fitting = λ no. cc;
            plays = λ t e no. cc;
          })

    pub reports_unreached : (x : Access) (r : Report) (now : State) (left : Kept) (bus : BusView) → is_plain outcome ≡ true → expected K (length new.step.made) ≡ Some x → r ≡ record { row = row; finished = None; elements = 0; accesses = record { items = [] }; outcome = outcomes.Diverged (length new.step.made) x None } → now ≡ s → left ≡ K → bus ≡ new.bus → ReportsOnce stepping s K b r now left bus
    reports_unreached x r now left bus p at =
        let within = expects-none K.answers K.asked (length new.step.made) x at in
        let ended : stepping (answers_alone (answers new.step.made)) ≡ Ends (record { row = row; outcome = outcome; state = after; made = new.step.made; rest = answers_alone [] }) = comes-plain _ row outcome after _ _ p (tried.comes _ _ (supplied new.step.made)) in
        let why : divergence stepping K ≡ Some (record { row = row; what = record { at = length new.step.made; kept = x; wanted = None } }) = differs-there stepping row K.answers K.asked new.step.made x _ ok tried.stands ag at (rw ended refl) in
        reports-apart x None within why (λ t q. rw (why-plain outcome p) at q.left) r now left bus

    pub reports_differs : (x a : Access) (r : Report) (now : State) (left : Kept) (bus : BusView) → outcome ≡ outcomes.Diverged (length new.step.made) x (Some a) → r ≡ record { row = row; finished = None; elements = 0; accesses = record { items = [] }; outcome = outcomes.Diverged (length new.step.made) x (Some a) } → now ≡ s → left ≡ K → bus ≡ new.bus → ReportsOnce stepping s K b r now left bus
    reports_differs x a r now left bus o =
        let stood : Stood (why_by (outcomes.Diverged (length new.step.made) x (Some a))) start new = rw o at tried.moves.stood in
        let at : expected K (length new.step.made) ≡ Some x = rw kept-same at stood.1 in
        let other : same_access a x ≡ false = (let w = stood.3 in let t = stood.4 in cc) in
        let within = expects-none K.answers K.asked (length new.step.made) x at in
        let there : StandsThere (stepping (answers_alone (answers new.step.made))) row a new.step.made (answers_alone []) = rw o at (tried.comes _ _ (supplied new.step.made)) in
        let alone : stepping (answers_alone (answers new.step.made)) ≡ standing row a new.step.made = there Unanswered (answers_alone []) refl in
        let why : divergence stepping K ≡ Some (record { row = row; what = record { at = length new.step.made; kept = x; wanted = Some a } }) = differs-there stepping row K.answers K.asked new.step.made x _ ok tried.stands ag at (rw (alone, other) refl) in
        reports-apart x (Some a) within why (λ t q. rw o at q.left) r now left bus

-- ---- all ends

plain-left : (o : Outcome) (made : List Made) (K : Kept) → is_plain o ≡ true → left_by o made K ≡ nothing
plain-left (outcomes.Done more retire) made K p = refl
plain-left (outcomes.Pending a) made K p = cc
plain-left (outcomes.Fault f) made K p = refl
plain-left (outcomes.Intercept x) made K p = refl
plain-left (outcomes.Event kind vector next) made K p = refl
plain-left (outcomes.Handoff h) made K p = refl
plain-left outcomes.Unhandled made K p = refl
plain-left (outcomes.BusFault a) made K p = cc
plain-left (outcomes.Diverged at kept wanted) made K p = cc

then-or : (done : Bool) (before after : State) → (done ≡ false → after ≡ before) → (if done then after else before) ≡ after
then-or true before after h = refl
then-or false before after h = sym (h refl)

module _ (stepping : Supply → Stepped) (s : State) (v : View) (K : Kept) (b : BusView) (none : v.made ≡ []) (ok : IsKept K.answers K.asked) (row : Option Row) (after : State) (new : Sight) (ag : Agrees K.answers K.asked new.step.made) where
  plain-reports : (o : Outcome) → is_plain o ≡ true → (u : Option Access) → Tried stepping (record { step = v; kept = K; bus = b }) row o after new → expected K (length new.step.made) ≡ u → (r : Report) (now : State) (left : Kept) (bus : BusView) → r ≡ told_by row (judged o (length new.step.made) u) new.step.made → now ≡ state_by (judged o (length new.step.made) u) s after → left ≡ left_by (judged o (length new.step.made) u) new.step.made K → bus ≡ new.bus → (is_done o ≡ false → after ≡ s) → ReportsOnce stepping s K b r now left bus
  plain-reports o p None tried e r now left bus told is keeps bus_is stay =
      let whole : (if is_diverged o then [] else new.step.made) ≡ new.step.made = rw (plain-same o p) refl in
      reports_ended stepping s v K b none ok row o after new tried ag r now left bus p e (told ∙ ap (λ ms. record { row = row; finished = if is_done o then row else None; elements = if is_done o then 1 else 0; accesses = record { items = ms }; outcome = o }) whole) (is ∙ then-or (is_done o) s after stay) (keeps ∙ plain-left o new.step.made K p) bus_is stay
  plain-reports o p (Some x) tried e r now left bus told is keeps bus_is stay =
      let other : judged o (length new.step.made) (Some x) ≡ outcomes.Diverged (length new.step.made) x None = rw p refl in
      reports_unreached stepping s v K b none ok row o after new tried ag x r now left bus p e (told ∙ ap (λ y. told_by row y new.step.made) other) (is ∙ ap (λ y. state_by y s after) other) (keeps ∙ ap (λ y. left_by y new.step.made K) other) bus_is

  judged-not : (o : Outcome) (at : ℕ) (u : Option Access) → is_plain o ≡ false → judged o at u ≡ o
  judged-not o at None p = refl
  judged-not o at (Some x) p = rw p refl

  -- what a call reports of a step that was tried and judged
  pub reports : (o : Outcome) (u : Option Access) → Tried stepping (record { step = v; kept = K; bus = b }) row o after new → expected K (length new.step.made) ≡ u → (r : Report) (now : State) (left : Kept) (bus : BusView) → r ≡ told_by row (judged o (length new.step.made) u) new.step.made → now ≡ state_by (judged o (length new.step.made) u) s after → left ≡ left_by (judged o (length new.step.made) u) new.step.made K → bus ≡ new.bus → (is_done o ≡ false → after ≡ s) → ReportsOnce stepping s K b r now left bus
  reports (outcomes.Pending a) u tried e r now left bus told is keeps bus_is stay =
      let o = judged-not (outcomes.Pending a) (length new.step.made) u refl in
      let stood : StandsAt a new = tried.moves.stood.0 in
      reports_pending stepping s v K b none ok row (outcomes.Pending a) after new tried ag a stood tried.comes r now left bus refl (told ∙ ap (λ y. told_by row y new.step.made) o) (is ∙ ap (λ y. state_by y s after) o) (keeps ∙ ap (λ y. left_by y new.step.made K) o) bus_is
  reports (outcomes.BusFault a) u tried e r now left bus told is keeps bus_is stay =
      let o = judged-not (outcomes.BusFault a) (length new.step.made) u refl in
      let stood : StandsAt a new = tried.moves.stood.0 in
      reports_failed stepping s v K b none ok row (outcomes.BusFault a) after new tried ag a stood tried.comes r now left bus refl (told ∙ ap (λ y. told_by row y new.step.made) o) (is ∙ ap (λ y. state_by y s after) o) (keeps ∙ ap (λ y. left_by y new.step.made K) o) bus_is
  reports (outcomes.Diverged at x wanted) u tried e r now left bus told is keeps bus_is stay =
      let o = judged-not (outcomes.Diverged at x wanted) (length new.step.made) u refl in
      let a : Access = tried.moves.stood.2 in
      let same : outcomes.Diverged at x wanted ≡ outcomes.Diverged (length new.step.made) x (Some a) = (let p = tried.moves.stood.0 in let q = tried.moves.stood.3 in rw (p, q) refl) in
      let all : judged (outcomes.Diverged at x wanted) (length new.step.made) u ≡ outcomes.Diverged (length new.step.made) x (Some a) = o ∙ same in
      reports_differs stepping s v K b none ok row (outcomes.Diverged at x wanted) after new tried ag x a r now left bus same (told ∙ ap (λ y. told_by row y new.step.made) all) (is ∙ ap (λ y. state_by y s after) all) (keeps ∙ ap (λ y. left_by y new.step.made K) all) bus_is
  reports (outcomes.Done more retire) u tried e r now left bus told is keeps bus_is stay = plain-reports (outcomes.Done more retire) refl u tried e r now left bus told is keeps bus_is stay
  reports (outcomes.Fault f) u tried e r now left bus told is keeps bus_is stay = plain-reports (outcomes.Fault f) refl u tried e r now left bus told is keeps bus_is stay
  reports (outcomes.Intercept x) u tried e r now left bus told is keeps bus_is stay = plain-reports (outcomes.Intercept x) refl u tried e r now left bus told is keeps bus_is stay
  reports (outcomes.Event kind vector next) u tried e r now left bus told is keeps bus_is stay = plain-reports (outcomes.Event kind vector next) refl u tried e r now left bus told is keeps bus_is stay
  reports (outcomes.Handoff h) u tried e r now left bus told is keeps bus_is stay = plain-reports (outcomes.Handoff h) refl u tried e r now left bus told is keeps bus_is stay
  reports outcomes.Unhandled u tried e r now left bus told is keeps bus_is stay = plain-reports outcomes.Unhandled refl u tried e r now left bus told is keeps bus_is stay
