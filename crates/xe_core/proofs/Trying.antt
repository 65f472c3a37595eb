use Rattle.std.proofs.Common.{ℕ, ◌≡◌, List, [], ◌∷◌, ◌++◌, true, Option, Some, None, Result, Ok, Err, refl, sym, ap, subst, ◌∙◌, arith}
use Rattle.std.proofs.lemmas.List.{append-nil}
use Rattle.std.proofs.lemmas.List.Elements.{All-nil}
use Rattle.xe_base.specs.Access.{IsWellMade}
use Rattle.xe_base.specs.declared.access.Access.{Access}
use Rattle.xe_base.specs.declared.access.Made.{Made}
use Rattle.xe_opmap.specs.declared.row.Row.{Row}
use Rattle.xe_ctx.specs.Bus.{BusView}
use Rattle.xe_core.specs.Call.{standing, StandsEach}
use Rattle.xe_core.specs.Tried.{ComesTo, is_plain, why_by, Tried}
use Rattle.xe_ctx.specs.Is.{Sight, Moves, Leaves, Stood, Comes, WaitsForOne, AsksEach, Equals, Is, is, does, why_of, supply_of}
use Rattle.xe_ctx.specs.Kept.{Kept}
use Rattle.xe_ctx.specs.Part.{View, Waits}
use Rattle.xe_ctx.specs.Run.{run}
use Rattle.xe_ctx.specs.State.{State}
use Rattle.xe_core.specs.Step.{Stepped, Ends, Wants, concluded, early, outcome_of, retired}
use Rattle.xe_ctx.specs.Supply.{Supply, Supplies, Lack, Lacks, Unanswered, answers_alone, answers, next_answer}
use Rattle.xe_ctx.specs.Tree.{Tree}
use Rattle.xe_ctx.specs.declared.report.Outcome.{Outcome}
use Rattle.xe_ctx.specs.declared.report.Outcome.TheVariants as outcomes
use Rattle.xe_ctx.specs.declared.stop.Finish.{Finish}
use Rattle.xe_ctx.specs.declared.stop.Stop.{Stop}
use Rattle.xe_ctx.specs.declared.stop.Stop.TheVariants as stops
use Rattle.xe_core.proofs.Reporting.{supplied, comes-ended, plain-leaves, plain-stood}

-- From what the code did of an instruction to a step that was tried.

-- the same accesses, told with another word for why the code stopped
moves-as : (old new : Sight) (extra : List Made) (why other : Option Stop) → ((mid rest : Supply) → Leaves why mid rest → Leaves other mid rest) → (Stood why old new → Stood other old new) → Moves old extra why new → Moves old extra other new
moves-as old new extra why other leaves stood m = record {
  made = m.made;
  well_made = m.well_made;
  kept_ = m.kept_;
  told = λ t e. (let p = m.told t e in record { tape = p.tape; is = p.is; mid = p.mid; supplies = p.supplies; left = leaves p.mid _ p.left; log = p.log });
  untold = m.untold;
  room_ = m.room_;
  unready_ = m.unready_;
  faults_ = m.faults_;
  spare_ = m.spare_;
  stood = stood m.stood;
}

module _ (stepping : Supply → Stepped) (v : View) (K : Kept) (b : BusView) (none : v.made ≡ []) where
  abbrev from : Sight
  from = record { step = v; kept = K; bus = b }

  -- nothing was asked
  still : Moves from [] None from
  still = record {
    made = sym (append-nil v.made);
    well_made = All-nil IsWellMade;
    kept_ = refl;
    told = λ t e. record { tape = t; is = e; mid = supply_of from; supplies = refl; left = refl; log = λ before h. h };
    untold = λ e. e;
    room_ = omega arith;
    unready_ = omega arith;
    faults_ = omega arith;
    spare_ = λ k. refl;
    stood = tt;
  }

  -- a step that ended before its instruction was begun
  pub tried_early : (s : State) (row : Option Row) (outcome : Outcome) → is_plain outcome ≡ true → ((supply : Supply) → stepping supply ≡ early s row outcome supply) → Tried stepping from row outcome s from
  tried_early s row outcome p e =
      let quiet : Moves from [] (why_by outcome) from = moves-as from from [] None (why_by outcome) (plain-leaves outcome p) (λ _. plain-stood outcome from from p) still in
      record {
        moves = subst (λ ms. Moves from ms (why_by outcome) from) (sym none) quiet;
        comes = λ supply rest h. (let same : supply ≡ rest = (let g : Supplies supply [] rest = subst (λ ms. Supplies supply ms rest) none h in g) in
            comes-ended _ row outcome s v.made rest p (e supply ∙ ap (λ ms. Ends (record { row = row; outcome = outcome; state = s; made = ms; rest = supply })) (sym none) ∙ ap (λ r. Ends (record { row = row; outcome = outcome; state = s; made = v.made; rest = r })) same));
        stands = subst (λ ms. StandsEach stepping row [] ms) (sym none) tt;
      }

  module _ (s : State) (row : Row) (tree : Tree Finish) (step_is : (supply : Supply) → stepping supply ≡ concluded s row (run tree v supply)) (new : Sight) where
    stands-each : (before ms : List Made) → AsksEach (run tree v) [] before ms → StandsEach stepping (Some row) before ms
    stands-each before [] h = tt
    stands-each before (m ∷ ms) h =
        let w = h.0 (answers_alone (answers before)) (answers_alone []) (answers_alone []) Unanswered (supplied before) refl in
        (step_is (answers_alone (answers before)) ∙ ap (concluded s row) w.waits ∙ ap (standing (Some row) m.access) w.made_, stands-each (before ++ m ∷ []) ms h.1)

    module _ (res : Result Finish Stop) (d : Equals (run tree) from res new) where
      all : d.extra ≡ new.step.made
      all = sym (d.moves.made ∙ ap (λ ms. ms ++ d.extra) none)

      stands : StandsEach stepping (Some row) [] new.step.made
      stands =
          let h : AsksEach (run tree v) [] [] d.extra = subst (λ ms. AsksEach (run tree v) ms [] d.extra) none d.asks in
          subst (λ ms. StandsEach stepping (Some row) [] ms) all (stands-each [] d.extra h)

      came : (supply rest : Supply) → Supplies supply new.step.made rest → Comes (run tree v supply) res new.step rest
      came supply rest h = d.comes supply rest (subst (λ ms. Supplies supply ms rest) (sym all) h)

      moved : (other : Option Stop) → ((mid rest : Supply) → Leaves (why_of res) mid rest → Leaves other mid rest) → (Stood (why_of res) from new → Stood other from new) → Moves from new.step.made other new
      moved other leaves stood = moves-as from new new.step.made (why_of res) other leaves stood (subst (λ ms. Moves from ms (why_of res) new) all d.moves)

    finish : (f : Finish) → Equals (run tree) from (Ok f) new → Tried stepping from (Some row) (outcomes.Done f.more (retired s.cpu f.retire)) (record { cpu = f.cpu; ram = new.step.work }) new
    finish f d = record {
      moves = moved (Ok f) d None (λ mid rest h. h) (λ h. h);
      comes = λ supply rest h. step_is supply ∙ ap (concluded s row) (came (Ok f) d supply rest h);
      stands = stands (Ok f) d;
    }

    there : (a : Access) (supply rest : Supply) → ((lack : Lack) (left : Supply) → next_answer rest a ≡ Lacks lack left → run tree v supply ≡ Waits a lack new.step left) → (lack : Lack) (left : Supply) → next_answer rest a ≡ Lacks lack left → stepping supply ≡ Wants (record { row = Some row; access = a; lack = lack; made = new.step.made; rest = left })
    there a supply rest h lack left e = step_is supply ∙ ap (concluded s row) (h lack left e)

    there-one : (wanted : Option Access) (at : ℕ) (kept : Access) (supply rest : Supply) → WaitsForOne (run tree v supply) wanted new.step rest → ComesTo (stepping supply) (Some row) (outcomes.Diverged at kept wanted) s new.step.made rest
    there-one None at kept supply rest h = absurd h
    there-one (Some a) at kept supply rest h = there a supply rest h

    halt : (e : Stop) → Equals (run tree) from (Err e) new → Tried stepping from (Some row) (outcome_of e) s new
    halt (stops.Pending a) d = record { moves = moved (Err (stops.Pending a)) d (Some (stops.Pending a)) (λ mid rest h. h) (λ h. h); comes = λ supply rest h. there a supply rest (came (Err (stops.Pending a)) d supply rest h); stands = stands (Err (stops.Pending a)) d }
    halt (stops.BusFault a) d = record { moves = moved (Err (stops.BusFault a)) d (Some (stops.BusFault a)) (λ mid rest h. h) (λ h. h); comes = λ supply rest h. there a supply rest (came (Err (stops.BusFault a)) d supply rest h); stands = stands (Err (stops.BusFault a)) d }
    halt (stops.Diverged x) d = record { moves = moved (Err (stops.Diverged x)) d (Some (stops.Diverged x)) (λ mid rest h. h) (λ h. h); comes = λ supply rest h. there-one x.wanted x.at x.kept supply rest (came (Err (stops.Diverged x)) d supply rest h); stands = stands (Err (stops.Diverged x)) d }
    halt (stops.Fault x) d = record { moves = moved (Err (stops.Fault x)) d None (λ mid rest h. h) (λ h. h); comes = λ supply rest h. step_is supply ∙ ap (concluded s row) (came (Err (stops.Fault x)) d supply rest h); stands = stands (Err (stops.Fault x)) d }
    halt (stops.Intercept x) d = record { moves = moved (Err (stops.Intercept x)) d None (λ mid rest h. h) (λ h. h); comes = λ supply rest h. step_is supply ∙ ap (concluded s row) (came (Err (stops.Intercept x)) d supply rest h); stands = stands (Err (stops.Intercept x)) d }
    halt (stops.Event x) d = record { moves = moved (Err (stops.Event x)) d None (λ mid rest h. h) (λ h. h); comes = λ supply rest h. step_is supply ∙ ap (concluded s row) (came (Err (stops.Event x)) d supply rest h); stands = stands (Err (stops.Event x)) d }
    halt (stops.Handoff x) d = record { moves = moved (Err (stops.Handoff x)) d None (λ mid rest h. h) (λ h. h); comes = λ supply rest h. step_is supply ∙ ap (concluded s row) (came (Err (stops.Handoff x)) d supply rest h); stands = stands (Err (stops.Handoff x)) d }

    -- an instruction that finished
    pub tried_finish : (f : Finish) → Is tree from (Ok f) new → Tried stepping from (Some row) (outcomes.Done f.more (retired s.cpu f.retire)) (record { cpu = f.cpu; ram = new.step.work }) new
    tried_finish f (is (does d)) = finish f d

    -- one that stopped
    pub tried_stop : (e : Stop) → Is tree from (Err e) new → Tried stepping from (Some row) (outcome_of e) s new
    tried_stop e (is (does d)) = halt e d
