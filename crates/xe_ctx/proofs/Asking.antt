use Rattle.std.proofs.Common.{ℕ, suc, ◌≡◌, ◌<◌, ◌≤◌, ◌+◌, ◌&&◌, List, [], ◌∷◌, ◌++◌, Option, Some, None, IsSome, IsTrue, Ok, Err, refl, sym, ap, subst, ◌∙◌, arith, Bool, true, false, length, drop, get_or, append_assoc, length-append}
use Rattle.std.proofs.Math.Seq.{drop-cons}
use Rattle.std.proofs.lemmas.List.{append-nil, drop_all, drop-append-le}
use Rattle.std.proofs.lemmas.List.Elements.{All-nil, All-cons}
use Rattle.xe_base.specs.Access.{IsWellFormed, IsWellMade, answers_to}
use Rattle.xe_base.specs.declared.access.Access.{Access}
use Rattle.xe_base.specs.declared.access.Answer.{Answer}
use Rattle.xe_base.specs.declared.access.Made.{Made}
use Rattle.xe_ctx.specs.Bus.{BusView, Replies}
use Rattle.xe_ctx.specs.Is.{Sight, Moves, Leaves, Stood, StandsAt, IsNext, Equals, Does, does, Comes, WaitsFor, AsksEach, supply_of, fresh}
use Rattle.xe_ctx.specs.Kept.{Agrees, expected, expected_from, same_access}
use Rattle.xe_ctx.specs.Part.{View, Gave, Waits, ask}
use Rattle.xe_ctx.specs.Supply.{Supply, Lack, Got, Lacks, from_tape, next_answer}
use Rattle.xe_ctx.specs.Supply.{replied as told_by}
use Rattle.xe_ctx.specs.Tape.{Tape, IsTold}
use Rattle.xe_ctx.specs.Tape.{ask as asked}
use Rattle.xe_ctx.specs.declared.bus.Reply.{Reply}
use Rattle.xe_ctx.specs.declared.bus.Reply.TheVariants.{Ready, NotYet, Failed}
use Rattle.xe_ctx.specs.declared.stop.Diverged.{Diverged}
use Rattle.xe_ctx.specs.View.{HasRoomBehind}
use Rattle.xe_ctx.specs.declared.stop.Stop.{Stop}
use Rattle.xe_ctx.specs.declared.stop.Stop.TheVariants as stops
use Rattle.xe_ctx.proofs.Records.{expected-later}
use Rattle.xe_ctx.proofs.Supplies.{moves_none}

-- ---- the definition of one access

stands : (a : Access) (v : View) (s : Supply) → WaitsFor (ask a v s) a v s
unfolding ask
stands a v s = λ lack left h. rw h refl

takes : (a : Access) (m : Made) (v : View) (s rest : Supply) → m.access ≡ a → next_answer s m.access ≡ Got m.answer rest → ask a v s ≡ Gave m.answer (record v { made = v.made ++ m ∷ [] }) rest
unfolding ask
takes a m v s rest e h = rw (← e, h) refl

waits-there : (a b : Access) (v : View) (s mid left : Supply) (lack : Lack) → s ≡ mid → b ≡ a → next_answer mid b ≡ Lacks lack left → ask a v s ≡ Waits b lack v left
unfolding ask
waits-there a b v s mid left lack e k h = rw (e, ← k, h) refl

asks-one : (a : Access) (m : Made) (v : View) → m.access ≡ a → AsksEach (ask a v) v.made [] (m ∷ [])
asks-one a m v e = (λ s mid left lack sup lacks. record { view = v; made_ = sym (append-nil v.made); waits = waits-there a m.access v s mid left lack sup e lacks }, tt)

answered : (v new : Sight) (m : Made) (a : Access) → m.access ≡ a → new.step ≡ record v.step { made = v.step.made ++ m ∷ [] } → Moves v (m ∷ []) None new → Does (ask a) v (Ok m.answer) new
answered v new m a e is moves =
    let all : Equals (ask a) v (Ok m.answer) new = record {
      extra = m ∷ [];
      moves = moves;
      comes = λ s rest h. rw is (takes a m v.step s rest e (h.1 ∙ ap (λ x. Got m.answer x) h.2));
      asks = asks-one a m v.step e;
    } in
    does all

-- ---- a kept answer

module _ (kept made : List Made) (m : Made) where
  longer : length (made ++ m ∷ []) ≡ suc (length made)
  longer = omega (arith, length-append made (m ∷ []))

  fresh-kept : length made < length kept → drop (length kept) (made ++ m ∷ []) ≡ drop (length kept) made
  fresh-kept h = let n = longer in drop_all (length kept) (made ++ m ∷ []) (omega arith) ∙ sym (drop_all (length kept) made (omega arith))

  fresh-asked : length kept ≤ length made → drop (length kept) (made ++ m ∷ []) ≡ drop (length kept) made ++ m ∷ []
  fresh-asked h = drop-append-le (length kept) made (m ∷ []) h

  used-one : length made < length kept → ((d : Made) → get_or kept (length made) d ≡ m) → drop (length made) kept ≡ m ∷ drop (length (made ++ m ∷ [])) kept
  used-one h at = rw (longer, drop-cons kept (length made) m h, at m) refl

-- ---- a kept answer

next-kept : (v : Sight) (m : Made) → length v.step.made < length v.kept.answers → ((d : Made) → get_or v.kept.answers (length v.step.made) d ≡ m) → next_answer (supply_of v) m.access ≡ Got m.answer (supply_of (record v { step = record v.step { made = v.step.made ++ m ∷ [] } }))
next-kept v m h at = rw (used-one v.kept.answers v.step.made m h at) refl

moves-kept : (v : Sight) (m : Made) → IsWellMade m → length v.step.made < length v.kept.answers → ((d : Made) → get_or v.kept.answers (length v.step.made) d ≡ m) → Moves v (m ∷ []) None (record v { step = record v.step { made = v.step.made ++ m ∷ [] } })
moves-kept v m w h at =
    let new : Sight = record v { step = record v.step { made = v.step.made ++ m ∷ [] } } in
    let same : fresh new ≡ fresh v = fresh-kept v.kept.answers v.step.made m h in
    record {
      made = refl;
      well_made = All-cons IsWellMade m [] w (All-nil IsWellMade);
      kept_ = refl;
      told = λ t e. record { tape = t; is = e; mid = supply_of new; supplies = (supply_of new, next-kept v m h at, refl); left = refl; log = λ before l. l ∙ ap (λ xs. before ++ xs) (sym same) };
      untold = λ e. e;
      room_ = omega (arith, ap length same);
      unready_ = omega arith;
      faults_ = omega arith;
      spare_ = λ k. refl;
      stood = tt;
    }

pub does_kept : (v : Sight) (step : View) (m : Made) (a : Access) → IsWellMade m → length v.step.made < length v.kept.answers → ((d : Made) → get_or v.kept.answers (length v.step.made) d ≡ m) → m.access ≡ a → step ≡ record v.step { made = v.step.made ++ m ∷ [] } → Does (ask a) v (Ok m.answer) (record v { step = step })
does_kept v step m a w h at e is = rw is (answered v (record v { step = record v.step { made = v.step.made ++ m ∷ [] } }) m a e refl (moves-kept v m w h at))

-- ---- the bus

supply-end : (w : Sight) (t : Tape) → length w.kept.answers ≤ length w.step.made → w.bus.tape ≡ Some t → supply_of w ≡ from_tape t
supply-end w t h e = rw (drop_all (length w.step.made) w.kept.answers h, e) refl

next-reply : (t : Tape) (a : Access) (reply : Reply) → reply ≡ (asked t a).reply → next_answer (from_tape t) a ≡ told_by reply (from_tape (asked t a).after)
next-reply t a reply e = rw e refl

log-ready : (t : Tape) (a : Access) (r : Answer) → Ready r ≡ (asked t a).reply → (asked t a).after.log ≡ t.log ++ record { access = a; answer = r } ∷ []
unfolding asked
log-ready t a r e = rw (← e) refl

log-waits : (t : Tape) (a : Access) → NotYet ≡ (asked t a).reply → (asked t a).after.log ≡ t.log
unfolding asked
log-waits t a e = rw (← e) refl

log-fails : (t : Tape) (a : Access) → Failed ≡ (asked t a).reply → (asked t a).after.log ≡ t.log
unfolding asked
log-fails t a e = rw (← e) refl

both-true : (a b : Bool) → a ≡ true → b ≡ true → a && b ≡ true
both-true a b p q = rw (p, q) refl

pub well-answered : (old new : BusView) (a : Access) (r : Answer) → IsWellFormed a → Replies old a (Ready r) new → IsWellMade (record { access = a; answer = r })
well-answered old new a r f q = both-true _ _ f q.is.0

module _ (v : Sight) (bus : BusView) (a : Access) (h : length v.kept.answers ≤ length v.step.made) where
  moves-ready : (r : Answer) → IsWellFormed a → Replies v.bus a (Ready r) bus → Moves v (record { access = a; answer = r } ∷ []) None (record v { step = record v.step { made = v.step.made ++ record { access = a; answer = r } ∷ [] }; bus = bus })
  moves-ready r f q =
      let m : Made = record { access = a; answer = r } in
      let new : Sight = record v { step = record v.step { made = v.step.made ++ m ∷ [] }; bus = bus } in
      let grown : fresh new ≡ fresh v ++ m ∷ [] = fresh-asked v.kept.answers v.step.made m h in
      let len : length (fresh new) ≡ length (fresh v) + 1 = ap length grown ∙ length-append (fresh v) (m ∷ []) in
      let later : length v.kept.answers ≤ length (v.step.made ++ m ∷ []) = omega (arith, longer v.kept.answers v.step.made m) in
      record {
        made = refl;
        well_made = All-cons IsWellMade m [] (well-answered v.bus bus a r f q) (All-nil IsWellMade);
        kept_ = refl;
        told = λ t e. (let told : IsTold (Some t) a (Ready r) bus.tape = subst (λ x. IsTold x a (Ready r) bus.tape) e q.told in record {
          tape = (asked t a).after;
          is = told.1;
          mid = supply_of new;
          supplies = (supply_of new, ap (λ s. next_answer s a) (supply-end v t h e) ∙ next-reply t a (Ready r) told.0 ∙ ap (λ s. Got r s) (sym (supply-end new (asked t a).after later told.1)), refl);
          left = refl;
          log = λ before l. log-ready t a r told.0 ∙ ap (λ xs. xs ++ m ∷ []) l ∙ append_assoc before (fresh v) (m ∷ []) ∙ ap (λ xs. before ++ xs) (sym grown);
        });
        untold = λ e. subst (λ x. IsTold x a (Ready r) bus.tape) e q.told;
        room_ = omega (arith, q.is.1, len);
        unready_ = q.unready_;
        faults_ = q.faults_;
        spare_ = q.spare_;
        stood = tt;
      }

  -- a bus that gave no answer
  moves-silent : (reply : Reply) (why : Option Stop) → ((t : Tape) → reply ≡ (asked t a).reply → (asked t a).after.log ≡ t.log) → ((t : Tape) → reply ≡ (asked t a).reply → Leaves why (from_tape t) (from_tape (asked t a).after)) → bus.room ≡ v.bus.room → Replies v.bus a reply bus → Stood why v (record v { bus = bus }) → Moves v [] why (record v { bus = bus })
  moves-silent reply why quiet leaves room q stood =
      let new : Sight = record v { bus = bus } in
      record {
        made = sym (append-nil v.step.made);
        well_made = All-nil IsWellMade;
        kept_ = refl;
        told = λ t e. (let told : IsTold (Some t) a reply bus.tape = subst (λ x. IsTold x a reply bus.tape) e q.told in record {
          tape = (asked t a).after;
          is = told.1;
          mid = supply_of v;
          supplies = refl;
          left = subst (λ s. Leaves why s (supply_of new)) (sym (supply-end v t h e)) (subst (λ s. Leaves why (from_tape t) s) (sym (supply-end new (asked t a).after h told.1)) (leaves t told.0));
          log = λ before l. quiet t told.0 ∙ l;
        });
        untold = λ e. subst (λ x. IsTold x a reply bus.tape) e q.told;
        room_ = omega (arith, room);
        unready_ = q.unready_;
        faults_ = q.faults_;
        spare_ = q.spare_;
        stood = stood;
      }

silent : (v : Sight) (a : Access) (e : Stop) (new : Sight) → ((s : Supply) → Comes (ask a v.step s) (Err e) new.step s) → Moves v [] (Some e) new → Does (ask a) v (Err e) new
silent v a e new c moves =
    let all : Equals (ask a) v (Err e) new = record {
      extra = [];
      moves = moves;
      comes = λ s rest h. subst (λ r. Comes (ask a v.step s) (Err e) new.step r) h (c s);
      asks = tt;
    } in
    does all

module _ (v : Sight) (bus : BusView) (a : Access) (n : IsNext a v) (f : IsWellFormed a) (r : length v.step.made < 256) where
  there : StandsAt a (record v { bus = bus })
  there = record { next = record { used = n.used; expects = n.expects }; room_ = r; well_formed = f }

  pub does_wait : Replies v.bus a NotYet bus → Does (ask a) v (Err (stops.Pending a)) (record v { bus = bus })
  does_wait q = silent v a (stops.Pending a) (record v { bus = bus }) (λ s. stands a v.step s) (moves-silent v bus a n.used NotYet (Some (stops.Pending a)) (λ t e. log-waits t a e) (λ t e. next-reply t a NotYet e) q.is.0 q (there, q.is.1))

  pub does_fail : Replies v.bus a Failed bus → Does (ask a) v (Err (stops.BusFault a)) (record v { bus = bus })
  does_fail q = silent v a (stops.BusFault a) (record v { bus = bus }) (λ s. stands a v.step s) (moves-silent v bus a n.used Failed (Some (stops.BusFault a)) (λ t e. log-fails t a e) (λ t e. next-reply t a Failed e) q.is.0 q (there, q.is.1))

pub does_ready : (v : Sight) (step : View) (bus : BusView) (a : Access) (r : Answer) → IsNext a v → IsWellFormed a → Replies v.bus a (Ready r) bus → step ≡ record v.step { made = v.step.made ++ record { access = a; answer = r } ∷ [] } → Does (ask a) v (Ok r) (record v { step = step; bus = bus })
does_ready v step bus a r n f q is = rw is (answered v (record v { step = record v.step { made = v.step.made ++ record { access = a; answer = r } ∷ [] }; bus = bus }) (record { access = a; answer = r }) a refl refl (moves-ready v bus a n.used r f q))

-- ---- the record has another access there

pub does_differ : (v : Sight) (a k : Access) (at : ℕ) (e : Stop) → at ≡ length v.step.made → expected v.kept at ≡ Some k → same_access a k ≡ false → e ≡ stops.Diverged (record { at = at; kept = k; wanted = Some a }) → Does (ask a) v (Err e) v
does_differ v a k at e here there apart is =
    let d : Diverged = record { at = at; kept = k; wanted = Some a } in
    rw is (silent v a (stops.Diverged d) v (λ s. stands a v.step s) (moves_none v v.step.work (Some (stops.Diverged d)) (λ s. refl) (here, there, a, refl, apart)))

-- ---- answers that an access can have

second : (a b : Bool) → a && b ≡ true → b ≡ true
second true b h = h
second false b h = cc

pub made-answers : (m : Made) (a : Access) → m.access ≡ a → IsWellMade m → IsTrue (answers_to a m.answer)
made-answers m a e h = rw (← e) (second _ _ h)

-- ---- what a step in progress keeps to

told-before : (old new : Option Tape) (a : Access) (reply : Reply) → IsTold old a reply new → IsSome new → IsSome old
told-before None new a reply h s = subst IsSome h s
told-before (Some t) new a reply h s = refl

pub room-kept : (bus : BusView) (kept made : List Made) (m : Made) → length made < length kept → HasRoomBehind bus kept made → HasRoomBehind bus kept (made ++ m ∷ [])
room-kept bus kept made m h room = λ s. (let k = room s in let n = longer kept made m in omega arith)

pub room-ready : (old new : BusView) (a : Access) (r : Answer) (kept made : List Made) (m : Made) → length kept ≤ length made → Replies old a (Ready r) new → HasRoomBehind old kept made → HasRoomBehind new kept (made ++ m ∷ [])
room-ready old new a r kept made m h q room = λ s. (let k = room (told-before old.tape new.tape a (Ready r) q.told s) in let n = longer kept made m in let l = q.is.1 in omega arith)

pub room-waits : (old new : BusView) (a : Access) (kept made : List Made) → Replies old a NotYet new → HasRoomBehind old kept made → HasRoomBehind new kept made
room-waits old new a kept made q room = λ s. (let k = room (told-before old.tape new.tape a NotYet q.told s) in let l = q.is.0 in omega arith)

pub room-fails : (old new : BusView) (a : Access) (kept made : List Made) → Replies old a Failed new → HasRoomBehind old kept made → HasRoomBehind new kept made
room-fails old new a kept made q room = λ s. (let k = room (told-before old.tape new.tape a Failed q.told s) in let l = q.is.0 in omega arith)

pub agrees-kept : (ks : List Made) (asked : Option Access) (made : List Made) (m : Made) → length made < length ks → ((d : Made) → get_or ks (length made) d ≡ m) → Agrees ks asked made → Agrees ks asked (made ++ m ∷ [])
agrees-kept [] asked made m h at g = absurd (omega arith)
agrees-kept (k ∷ ks) asked [] m h at g = (sym (at m), tt)
agrees-kept (k ∷ ks) asked (x ∷ made) m h at g = (g.0, agrees-kept ks asked made m (omega arith) at g.1)

pub agrees-asked : (ks : List Made) (asked : Option Access) (made : List Made) (m : Made) → length ks ≤ length made → ((b : Access) → expected_from ks asked (length made) ≡ Some b → b ≡ m.access) → Agrees ks asked made → Agrees ks asked (made ++ m ∷ [])
agrees-asked [] None [] m h e g = tt
agrees-asked [] None (x ∷ made) m h e g = tt
agrees-asked [] (Some a) [] m h e g = sym (e a refl)
agrees-asked [] (Some a) (x ∷ made) m h e g = g
agrees-asked (k ∷ ks) asked [] m h e g = absurd (omega arith)
agrees-asked (k ∷ ks) asked (x ∷ made) m h e g = (g.0, agrees-asked ks asked made m (omega arith) (λ b is. e b (expected-later k ks asked (length made) ∙ is)) g.1)
