use Rattle.std.proofs.Common.{ℕ, suc, ◌≡◌, ◌+◌, ◌<◌, ◌≤◌, List, [], ◌∷◌, ◌++◌, Option, Some, None, Result, Ok, Err, refl, sym, ap, subst, ◌∙◌, append_assoc, length, drop, get_or, add-one}
use Rattle.std.proofs.Math.Seq.{drop-cons}
use Rattle.std.proofs.lemmas.List.{append-nil, drop_all}
use Rattle.xe_base.specs.Ram.{Area}
use Rattle.xe_base.specs.declared.access.Access.{Access}
use Rattle.xe_base.specs.declared.access.Made.{Made}
use Rattle.xe_ctx.specs.Ending.{Ending, Raises, Exits, Interrupts, HandsOver, stop_of}
use Rattle.xe_ctx.specs.Is.{Sight, Leaves, Stood, Equals, Does, does, Gathers, Goes, Comes, WaitsForOne, IsAt, AsksEach, why_of}
use Rattle.xe_ctx.specs.Part.{View, Part, Ran, Gave, Waits, Ends, then_ran, ◌>>=◌, give, stop, look, change, gather, each}
use Rattle.xe_ctx.specs.Supply.{Supply, Supplies, Lack}
use Rattle.xe_ctx.specs.declared.stop.Stop.{Stop}
use Rattle.xe_ctx.specs.declared.stop.Stop.TheVariants as stops
use Rattle.xe_ctx.proofs.Supplies.{supplies-split, moves_then, moves_none, asks_join, asks_map}

module _ {A B : Type 0} (m : Part A) (f : A → Part B) where
  gave_then : (v : View) (s : Supply) (x : A) (w : View) (rest : Supply) → m v s ≡ Gave x w rest → (m >>= f) v s ≡ f x w rest
  unfolding ◌>>=◌
  gave_then v s x w rest e = rw e refl

  -- what a part comes to that stopped, it comes to with another behind it
  come-one : (r : Ran A) (a : Option Access) (v : View) (rest : Supply) → WaitsForOne r a v rest → WaitsForOne (then_ran r f) a v rest
  come-one r None v rest c = c
  come-one r (Some a) v rest c = λ lack left h. rw (c lack left h) refl

  come-stop : (r : Ran A) (e : Stop) (v : View) (rest : Supply) → Comes r (Err e) v rest → Comes (then_ran r f) (Err e) v rest
  come-stop r (stops.Fault x) v rest c = rw c refl
  come-stop r (stops.Intercept x) v rest c = rw c refl
  come-stop r (stops.Event x) v rest c = rw c refl
  come-stop r (stops.Handoff x) v rest c = rw c refl
  come-stop r (stops.Pending a) v rest c = λ lack left h. rw (c lack left h) refl
  come-stop r (stops.BusFault a) v rest c = λ lack left h. rw (c lack left h) refl
  come-stop r (stops.Diverged d) v rest c = come-one r d.wanted v rest c

  stop-comes : (v : View) (s : Supply) (e : Stop) (w : View) (rest : Supply) → Comes (m v s) (Err e) w rest → Comes ((m >>= f) v s) (Err e) w rest
  unfolding ◌>>=◌
  stop-comes v s e w rest c = come-stop (m v s) e w rest c

  stop-at : (v : View) (s : Supply) (a : Access) (before : List Made) (lack : Lack) (left : Supply) → IsAt (m v s) a before lack left → IsAt ((m >>= f) v s) a before lack left
  unfolding ◌>>=◌
  stop-at v s a before lack left at = record { view = at.view; made_ = at.made_; waits = rw at.waits refl }

  -- the accesses of what follows a part stand behind those of the part
  asks-right : (x : A) (old mid : View) (xs : List Made) → mid.made ≡ old.made ++ xs → ((s rest : Supply) → Supplies s xs rest → m old s ≡ Gave x mid rest) → (ys c : List Made) → AsksEach (f x mid) mid.made c ys → AsksEach ((m >>= f) old) old.made (xs ++ c) ys
  asks-right x old mid xs e g [] c h = tt
  asks-right x old mid xs e g (y ∷ ys) c h = (
    λ s rest left lack sup lacks. (let r = supplies-split xs c s rest sup in let at = h.0 r.0 rest left lack r.2 lacks in record { view = at.view; made_ = at.made_ ∙ (ap (λ made. made ++ c) e ∙ append_assoc old.made xs c); waits = gave_then old s x mid r.0 (g s r.0 r.1) ∙ at.waits }),
    subst (λ b. AsksEach ((m >>= f) old) old.made b ys) (sym (append_assoc xs c (y ∷ []))) (asks-right x old mid xs e g ys (c ++ y ∷ []) h.1),
  )

  -- a part that gave a value, and then what follows it
  equals_then : (x : A) (res : Result B Stop) (old mid new : Sight) → Equals m old (Ok x) mid → Equals (f x) mid res new → Equals (m >>= f) old res new
  equals_then x res old mid new d e =
      let right : AsksEach ((m >>= f) old.step) old.step.made (d.extra ++ []) e.extra = asks-right x old.step mid.step d.extra d.moves.made d.comes e.extra [] e.asks in
      record {
        extra = d.extra ++ e.extra;
        moves = moves_then old mid new d.extra e.extra (why_of res) d.moves e.moves;
        comes = λ s rest h. (let r = supplies-split d.extra e.extra s rest h in subst (λ ran. Comes ran res new.step rest) (sym (gave_then old.step s x mid.step r.0 (d.comes s r.0 r.1))) (e.comes r.0 rest r.2));
        asks = asks_join ((m >>= f) old.step) old.step.made d.extra e.extra [] (asks_map (m old.step) ((m >>= f) old.step) old.step.made (stop-at old.step) [] d.extra d.asks) (subst (λ b. AsksEach ((m >>= f) old.step) old.step.made b e.extra) (append-nil d.extra) right);
      }

  -- a part that stopped
  equals_stop : (e : Stop) (old new : Sight) → Equals m old (Err e) new → Equals (m >>= f) old (Err e) new
  equals_stop e old new d = record {
    extra = d.extra;
    moves = d.moves;
    comes = λ s rest h. stop-comes old.step s e new.step rest (d.comes s rest h);
    asks = asks_map (m old.step) ((m >>= f) old.step) old.step.made (stop-at old.step) [] d.extra d.asks;
  }

-- a part that makes no access, and asks for none
module _ {T : Type 0} (p : Part T) (v : Sight) (work : List Area) where
  pub quiet : (res : Result T Stop) → ((s : Supply) → Leaves (why_of res) s s) → Stood (why_of res) v (record v { step = record v.step { work = work } }) → ((s : Supply) → Comes (p v.step s) res (record v.step { work = work }) s) → Does p v res (record v { step = record v.step { work = work } })
  quiet res leaves stood e =
      let all : Equals p v res (record v { step = record v.step { work = work } }) = record {
        extra = [];
        moves = moves_none v work (why_of res) leaves stood;
        comes = λ s rest h. subst (λ r. Comes (p v.step s) res (record v.step { work = work }) r) h (e s);
        asks = tt;
      } in
      does all

  pub quiet_gave : (x : T) → ((s : Supply) → p v.step s ≡ Gave x (record v.step { work = work }) s) → Does p v (Ok x) (record v { step = record v.step { work = work } })
  quiet_gave x e = quiet (Ok x) (λ s. refl) tt e

  pub quiet_ends : (e : Ending) → ((s : Supply) → p v.step s ≡ Ends e (record v.step { work = work }) s) → Does p v (Err (stop_of e)) (record v { step = record v.step { work = work } })
  quiet_ends (Raises x) e = quiet (Err (stops.Fault x)) (λ s. refl) tt e
  quiet_ends (Exits x) e = quiet (Err (stops.Intercept x)) (λ s. refl) tt e
  quiet_ends (Interrupts x) e = quiet (Err (stops.Event x)) (λ s. refl) tt e
  quiet_ends (HandsOver x) e = quiet (Err (stops.Handoff x)) (λ s. refl) tt e

pub does_then : {A B : Type 0} {m : Part A} (f : A → Part B) {x : A} {old mid new : Sight} {res : Result B Stop} → Does m old (Ok x) mid → Does (f x) mid res new → Does (m >>= f) old res new
does_then f (does d) (does e) = does (equals_then _ f _ _ _ _ _ d e)

pub does_stop : {A B : Type 0} {m : Part A} (f : A → Part B) {e : Stop} {old new : Sight} → Does m old (Err e) new → Does (m >>= f) old (Err e) new
does_stop f (does d) = does (equals_stop _ f _ _ _ d)

pub does_give : {T : Type 0} {x : T} {v : Sight} → Does (give x) v (Ok x) v
unfolding give
does_give {x = x} {v = v} = quiet_gave _ v v.step.work x (λ s. refl)

pub does_stopped : {T : Type 0} (e : Ending) {v : Sight} → Does {T = T} (stop e) v (Err (stop_of e)) v
unfolding stop
does_stopped e {v = v} = quiet_ends _ v v.step.work e (λ s. refl)

pub does_look : {T : Type 0} (f : View → T) (v : Sight) → Does (look f) v (Ok (f v.step)) v
unfolding look
does_look f v = quiet_gave _ v v.step.work _ (λ s. refl)

pub does_change : (f : List Area → List Area) (v : Sight) (w : List Area) → w ≡ f v.step.work → Does (change f) v (Ok tt) (record v { step = record v.step { work = w } })
unfolding change
does_change f v w e = quiet_gave _ v w tt (λ s. rw e refl)

-- parts that do the same
same_equals : {T : Type 0} (p q : Part T) {old new : Sight} {res : Result T Stop} → ((v : View) (s : Supply) → p v s ≡ q v s) → Equals p old res new → Equals q old res new
same_equals p q {old = old} {new = new} {res = res} e d = record {
  extra = d.extra;
  moves = d.moves;
  comes = λ s rest h. subst (λ r. Comes r res new.step rest) (e old.step s) (d.comes s rest h);
  asks = asks_map (p old.step) (q old.step) old.step.made (λ s a before lack left at. record { view = at.view; made_ = at.made_; waits = sym (e old.step s) ∙ at.waits }) [] d.extra d.asks;
}

pub does_same : {T : Type 0} (p q : Part T) {old new : Sight} {res : Result T Stop} → ((v : View) (s : Supply) → p v s ≡ q v s) → Does p old res new → Does q old res new
does_same p q e (does d) = does (same_equals p q e d)

-- a part and nothing after it
then_give : {T : Type 0} (r : Ran T) → then_ran r give ≡ r
unfolding give
then_give (Gave x v s) = refl
then_give (Waits a lack v s) = refl
then_give (Ends e v s) = refl

ran_assoc : {A B C : Type 0} (r : Ran A) (k : A → Part B) (f : B → Part C) → then_ran (then_ran r k) f ≡ then_ran r (λ y v s. then_ran (k y v s) f)
ran_assoc (Gave x v s) k f = refl
ran_assoc (Waits a lack v s) k f = refl
ran_assoc (Ends e v s) k f = refl

pub does_assoc : {A B C : Type 0} (m : Part A) (k : A → Part B) (f : B → Part C) {old new : Sight} {res : Result C Stop} → Does (m >>= (λ y. k y >>= f)) old res new → Does ((m >>= k) >>= f) old res new
unfolding ◌>>=◌
does_assoc m k f h = does_same (λ v s. then_ran (m v s) (λ y w more. then_ran (k y w more) f)) (λ v s. then_ran (then_ran (m v s) k) f) (λ v s. sym (ran_assoc (m v s) k f)) h

ran_more : {Y : Type 0} (r : Ran (List Y)) (out ys : List Y) → then_ran r (λ rest. give ((out ++ ys) ++ rest)) ≡ then_ran (then_ran r (λ rest. give (ys ++ rest))) (λ rest. give (out ++ rest))
unfolding give
ran_more (Gave x v s) out ys = ap (λ zs. Gave zs v s) (append_assoc out ys x)
ran_more (Waits a lack v s) out ys = refl
ran_more (Ends e v s) out ys = refl

more_same : {Y : Type 0} (m : Part (List Y)) (out ys : List Y) {old new : Sight} {res : Result (List Y) Stop} → Does (m >>= (λ rest. give ((out ++ ys) ++ rest))) old res new → Does ((m >>= (λ rest. give (ys ++ rest))) >>= (λ rest. give (out ++ rest))) old res new
unfolding ◌>>=◌
more_same m out ys h = does_same (λ v s. then_ran (m v s) (λ rest. give ((out ++ ys) ++ rest))) (λ v s. then_ran (then_ran (m v s) (λ rest. give (ys ++ rest))) (λ rest. give (out ++ rest))) (λ v s. ran_more (m v s) out ys) h

module _ {X Y : Type 0} (body : X → Part (List Y)) (xs : List X) (start : Sight) where
  pub gathers_none : Gathers body xs start 0 [] start
  unfolding ◌>>=◌
  gathers_none = record { whole = λ res end r. does_same (gather body xs >>= (λ rest. give ([] ++ rest))) (gather body xs) (λ v s. then_give (gather body xs v s)) r }

module _ {X Y : Type 0} (body : X → Part (List Y)) (xs : List X) (start now : Sight) where
  pub gathers_more : (i : ℕ) (d : X) (out ys : List Y) (mid : Sight) → Gathers body xs start i out now → i < length xs → Does (body (get_or xs i d)) now (Ok ys) mid → Gathers body xs start (i + 1) (out ++ ys) mid
  unfolding gather
  gathers_more i d out ys mid s h r = record { whole = λ res end rest. s.whole res end (let e : drop (i + 1) xs ≡ drop (suc i) xs = rw add-one refl in let left : Does (gather body (drop (suc i) xs) >>= (λ rest. give ((out ++ ys) ++ rest))) mid res end = subst (λ zs. Does (gather body zs >>= (λ rest. give ((out ++ ys) ++ rest))) mid res end) e rest in rw (drop-cons xs i d) (does_assoc _ _ _ (does_then _ r (more_same _ out ys left)))) }

  -- the same in the words of a loop over a slice that appends what it got
  pub gathers_step : (slice : List X) (i : ℕ) (d : X) (out got ys new : List Y) (mid : Sight) → slice ≡ xs → i < length slice → got ≡ ys → new ≡ out ++ got → Gathers body xs start i out now → Does (body (get_or slice i d)) now (Ok ys) mid → Gathers body xs start (i + 1) new mid
  gathers_step slice i d out got ys new mid e h a b s r =
      let k : i < length xs = rw (← e) h in
      let t : Does (body (get_or xs i d)) now (Ok ys) mid = rw (← e) r in
      rw (b, a) (gathers_more i d out ys mid s k t)

  pub gathers_stop : (i : ℕ) (d : X) (out : List Y) (x : Stop) (end : Sight) → Gathers body xs start i out now → i < length xs → Does (body (get_or xs i d)) now (Err x) end → Does (gather body xs) start (Err x) end
  unfolding gather
  gathers_stop i d out x end s h r = s.whole (Err x) end (rw (drop-cons xs i d) (does_stop _ (does_stop _ r)))

  pub gathers_done : (i : ℕ) (out : List Y) → Gathers body xs start i out now → length xs ≤ i → Does (gather body xs) start (Ok out) now
  unfolding gather
  gathers_done i out s h = s.whole (Ok out) now (rw (drop_all i xs h) (does_then _ does_give (rw (append-nil out) does_give)))

module _ {X : Type 0} (body : X → Part (Unit {0})) (xs : List X) (start : Sight) where
  pub goes_none : Goes body xs start 0 start
  goes_none = record { whole = λ res end r. r }

module _ {X : Type 0} (body : X → Part (Unit {0})) (xs : List X) (start now : Sight) where
  pub goes_more : (i : ℕ) (d : X) (mid : Sight) → Goes body xs start i now → i < length xs → Does (body (get_or xs i d)) now (Ok tt) mid → Goes body xs start (i + 1) mid
  unfolding each
  goes_more i d mid s h r = record { whole = λ res end rest. s.whole res end (let e : drop (i + 1) xs ≡ drop (suc i) xs = rw add-one refl in let left : Does (each body (drop (suc i) xs)) mid res end = subst (λ ys. Does (each body ys) mid res end) e rest in rw (drop-cons xs i d) (does_then _ r left)) }

  pub goes_stop : (i : ℕ) (d : X) (x : Stop) (end : Sight) → Goes body xs start i now → i < length xs → Does (body (get_or xs i d)) now (Err x) end → Does (each body xs) start (Err x) end
  unfolding each
  goes_stop i d x end s h r = s.whole (Err x) end (rw (drop-cons xs i d) (does_stop _ r))

  pub goes_done : (i : ℕ) → Goes body xs start i now → length xs ≤ i → Does (each body xs) start (Ok tt) now
  unfolding each
  goes_done i s h = s.whole (Ok tt) now (rw (drop_all i xs h) does_give)

-- a list of one item, and of two
module _ {X Y : Type 0} (body : X → Part (List Y)) (x : X) where
  pub gather_one : {ys : List Y} {old new : Sight} → Does (body x) old (Ok ys) new → Does (gather body (x ∷ [])) old (Ok ys) new
  unfolding gather
  gather_one {ys = ys} r = does_then _ r (does_then _ does_give (rw (append-nil ys) does_give))

  pub gather_first : {s : Stop} (xs : List X) {old new : Sight} → Does (body x) old (Err s) new → Does (gather body (x ∷ xs)) old (Err s) new
  unfolding gather
  gather_first xs r = does_stop _ r

  pub gather_two : (y : X) {gs bs : List Y} {old mid new : Sight} → Does (body x) old (Ok gs) mid → Does (body y) mid (Ok bs) new → Does (gather body (x ∷ y ∷ [])) old (Ok (gs ++ bs)) new
  unfolding gather
  gather_two y {bs = bs} r t = does_then _ r (does_then _ (does_then _ t (does_then _ does_give (rw (append-nil bs) does_give))) does_give)

  pub gather_second : (y : X) {gs : List Y} {s : Stop} {old mid new : Sight} → Does (body x) old (Ok gs) mid → Does (body y) mid (Err s) new → Does (gather body (x ∷ y ∷ [])) old (Err s) new
  unfolding gather
  gather_second y r t = does_then _ r (does_stop _ (does_stop _ t))

-- the same for a part that gives nothing
module _ {X : Type 0} (body : X → Part (Unit {0})) (x : X) where
  pub each_one : {old new : Sight} → Does (body x) old (Ok tt) new → Does (each body (x ∷ [])) old (Ok tt) new
  unfolding each
  each_one r = does_then _ r does_give

  pub each_first : {s : Stop} (xs : List X) {old new : Sight} → Does (body x) old (Err s) new → Does (each body (x ∷ xs)) old (Err s) new
  unfolding each
  each_first xs r = does_stop _ r

  pub each_two : (y : X) {old mid new : Sight} → Does (body x) old (Ok tt) mid → Does (body y) mid (Ok tt) new → Does (each body (x ∷ y ∷ [])) old (Ok tt) new
  unfolding each
  each_two y r t = does_then _ r (does_then _ t does_give)

  pub each_second : (y : X) {s : Stop} {old mid new : Sight} → Does (body x) old (Ok tt) mid → Does (body y) mid (Err s) new → Does (each body (x ∷ y ∷ [])) old (Err s) new
  unfolding each
  each_second y r t = does_then _ r (does_stop _ t)

-- what a function's proof cites
pub ruleset part_rules = (does_then, does_stop, does_give, does_look, does_change)

pub ruleset loop_rules = (gathers_none, gathers_more, gathers_stop, gathers_done, goes_none, goes_more, goes_stop, goes_done)
