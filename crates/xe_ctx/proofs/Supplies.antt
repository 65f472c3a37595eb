use Rattle.std.proofs.Common.{◌≡◌, ◌≤◌, List, [], ◌∷◌, ◌++◌, Option, Some, None, refl, sym, ap, subst, ◌∙◌, append_assoc, arith}
use Rattle.std.proofs.lemmas.List.{append-nil}
use Rattle.std.proofs.lemmas.List.Elements.{All-append}
use Rattle.xe_base.specs.Access.{IsWellMade}
use Rattle.xe_base.specs.Ram.{Area}
use Rattle.xe_base.specs.declared.access.Access.{Access}
use Rattle.xe_base.specs.declared.access.Made.{Made}
use Rattle.xe_ctx.specs.Is.{Sight, Plays, Moves, Leaves, Stood, IsAt, AsksEach, supply_of}
use Rattle.xe_ctx.specs.Part.{Ran}
use Rattle.xe_ctx.specs.Supply.{Supply, Supplies, Lack}
use Rattle.xe_ctx.specs.Tape.{Tape}
use Rattle.xe_ctx.specs.declared.stop.Stop.{Stop}
use Rattle.xe_ctx.specs.declared.stop.Stop.TheVariants as stops

-- what answers two lists of accesses in turn
pub supplies-join : (xs ys : List Made) (s mid rest : Supply) → Supplies s xs mid → Supplies mid ys rest → Supplies s (xs ++ ys) rest
supplies-join [] ys s mid rest h k = subst (λ t. Supplies t ys rest) (sym h) k
supplies-join (x ∷ xs) ys s mid rest h k = (h.0, h.1, supplies-join xs ys h.0 mid rest h.2 k)

pub supplies-split : (xs ys : List Made) (s rest : Supply) → Supplies s (xs ++ ys) rest → (mid : Supply) × Supplies s xs mid × Supplies mid ys rest
supplies-split [] ys s rest h = (s, refl, h)
supplies-split (x ∷ xs) ys s rest h = let r = supplies-split xs ys h.0 rest h.2 in (r.0, (h.0, h.1, r.1), r.2)

-- ---- what parts leave, one after another

plays-then : (t : Tape) (u v w : Sight) (xs ys : List Made) (why : Option Stop) → Plays t u xs None v → ((s : Tape) → v.bus.tape ≡ Some s → Plays s v ys why w) → Plays t u (xs ++ ys) why w
plays-then t u v w xs ys why p q =
    let r = q p.tape p.is in
    record {
      tape = r.tape;
      is = r.is;
      mid = r.mid;
      supplies = supplies-join xs ys (supply_of u) p.mid r.mid p.supplies (subst (λ s. Supplies s ys r.mid) (sym p.left) r.supplies);
      left = r.left;
      log = λ before l. r.log before (p.log before l);
    }

stood-later : (why : Option Stop) (u v w : Sight) → u.bus.unready ≤ v.bus.unready → u.bus.faults ≤ v.bus.faults → Stood why v w → Stood why u w
stood-later None u v w h k s = tt
stood-later (Some (stops.Pending a)) u v w h k s = (s.0, λ l. (let m = s.1 l in omega arith))
stood-later (Some (stops.BusFault a)) u v w h k s = (s.0, λ l. (let m = s.1 l in omega arith))
stood-later (Some (stops.Diverged d)) u v w h k s = s
stood-later (Some (stops.Fault f)) u v w h k s = tt
stood-later (Some (stops.Intercept e)) u v w h k s = tt
stood-later (Some (stops.Event e)) u v w h k s = tt
stood-later (Some (stops.Handoff e)) u v w h k s = tt

pub moves_then : (u v w : Sight) (xs ys : List Made) (why : Option Stop) → Moves u xs None v → Moves v ys why w → Moves u (xs ++ ys) why w
moves_then u v w xs ys why p q = record {
  made = q.made ∙ ap (λ made. made ++ ys) p.made ∙ append_assoc u.step.made xs ys;
  well_made = All-append IsWellMade xs ys p.well_made q.well_made;
  kept_ = q.kept_ ∙ p.kept_;
  told = λ t e. plays-then t u v w xs ys why (p.told t e) q.told;
  untold = λ e. q.untold (p.untold e);
  room_ = omega (arith, p.room_, q.room_);
  unready_ = omega (arith, p.unready_, q.unready_);
  faults_ = omega (arith, p.faults_, q.faults_);
  spare_ = λ k. q.spare_ k ∙ p.spare_ k;
  stood = stood-later why u v w p.unready_ p.faults_ q.stood;
}

-- a part that made no access, and asked for none
pub moves_none : (v : Sight) (work : List Area) (why : Option Stop) → ((s : Supply) → Leaves why s s) → Stood why v (record v { step = record v.step { work = work } }) → Moves v [] why (record v { step = record v.step { work = work } })
moves_none v work why leaves stood = record {
  made = sym (append-nil v.step.made);
  well_made = λ k d h. absurd (omega arith);
  kept_ = refl;
  told = λ t f. record { tape = t; is = f; mid = supply_of v; supplies = refl; left = leaves (supply_of v); log = λ before l. l };
  untold = λ f. f;
  room_ = omega arith;
  unready_ = omega arith;
  faults_ = omega arith;
  spare_ = λ k. refl;
  stood = stood;
}

-- ---- at which accesses the definition stands

pub asks_join : {T : Type 0} (q : Supply → Ran T) (made xs ys b : List Made) → AsksEach q made b xs → AsksEach q made (b ++ xs) ys → AsksEach q made b (xs ++ ys)
asks_join q made [] ys b h k = subst (λ c. AsksEach q made c ys) (append-nil b) k
asks_join q made (x ∷ xs) ys b h k = (h.0, asks_join q made xs ys (b ++ x ∷ []) h.1 (subst (λ c. AsksEach q made c ys) (sym (append_assoc b (x ∷ []) xs)) k))

-- what stands at an access wherever another does
pub asks_map : {A B : Type 0} (q : Supply → Ran A) (p : Supply → Ran B) (made : List Made) → ((s : Supply) (a : Access) (before : List Made) (lack : Lack) (left : Supply) → IsAt (q s) a before lack left → IsAt (p s) a before lack left) → (b xs : List Made) → AsksEach q made b xs → AsksEach p made b xs
asks_map q p made f b [] h = tt
asks_map q p made f b (x ∷ xs) h = (λ s mid left lack sup lacks. f s x.access (made ++ b) lack left (h.0 s mid left lack sup lacks), asks_map q p made f (b ++ x ∷ []) xs h.1)
