use Rattle.std.proofs.Common.{◌≡◌, Result, Ok, Err, Some, None, refl, sym}
use Rattle.xe_base.specs.declared.access.Access.{Access}
use Rattle.xe_base.specs.declared.access.Answer.{Answer}
use Rattle.xe_base.specs.declared.access.Answer.TheVariants.{Val}
use Rattle.xe_base.specs.declared.access.Fault.{Fault}
use Rattle.xe_icpt.specs.declared.exit.Exit.{Exit}
use Rattle.xe_icpt.specs.declared.point.Point.{Point}
use Rattle.xe_ctx.specs.Is.{Sight, Does, Is, is}
use Rattle.xe_ctx.specs.Ending.{Raises, Exits, Interrupts, HandsOver}
use Rattle.xe_ctx.specs.Part.{View, Ran, Gave, Waits, Ends, then_ran}
use Rattle.xe_ctx.specs.Part.{ask, ◌>>=◌ as ◌then◌}
use Rattle.xe_ctx.specs.Run.{run, do_request}
use Rattle.xe_ctx.specs.Supply.{Supply}
use Rattle.xe_ctx.specs.Tree.{Tree, Request, Device, Check, asks, fault, event, handoff, give, ◌>>=◌, device, point}
use Rattle.xe_ctx.specs.declared.stop.Event.{Event}
use Rattle.xe_ctx.specs.declared.stop.Handoff.{Handoff}
use Rattle.xe_ctx.specs.declared.stop.Stop.{Stop}
use Rattle.xe_ctx.specs.declared.stop.Stop.TheVariants.{Fault as Faults, Intercept, Event as Events, Handoff as Hands}
use Rattle.xe_ctx.proofs.Binds.{does_then, does_stop, does_give, does_same, quiet_gave, quiet_ends, does_stopped, does_look}

-- one part after another does what the first does, and then the other
module _ {A B : Type 0} (f : A → Tree B) where
  after : (r : Ran Answer) (k : Answer → Tree A) → ((a : Answer) (v : View) (s : Supply) → run (k a >>= f) v s ≡ then_ran (run (k a) v s) (λ x. run (f x))) → then_ran r (λ a. run (k a >>= f)) ≡ then_ran (then_ran r (λ a. run (k a))) (λ x. run (f x))
  after (Gave a v s) k each = each a v s
  after (Waits a lack v s) k each = refl
  after (Ends e v s) k each = refl

  run_then : (m : Tree A) (v : View) (s : Supply) → run (m >>= f) v s ≡ then_ran (run m v s) (λ x. run (f x))
  unfolding ◌>>=◌
  run_then (asks r k) v s = after (do_request r v s) k (λ a w more. run_then (k a) w more)
  run_then (fault e) v s = refl
  run_then (event e) v s = refl
  run_then (handoff h) v s = refl
  run_then (give x) v s = refl

  run_bind : (m : Tree A) (v : View) (s : Supply) → (run m then (λ x. run (f x))) v s ≡ run (m >>= f) v s
  unfolding ◌then◌
  run_bind m v s = sym (run_then m v s)

pub is_then : {A B : Type 0} {m : Tree A} (f : A → Tree B) {x : A} {old mid new : Sight} {res : Result B Stop} → Is m old (Ok x) mid → Is (f x) mid res new → Is (m >>= f) old res new
is_then {m = m} f (is d) (is e) = is (does_same _ (run (m >>= f)) (run_bind f m) (does_then (λ x. run (f x)) d e))

pub is_stop : {A B : Type 0} {m : Tree A} (f : A → Tree B) {e : Stop} {old new : Sight} → Is m old (Err e) new → Is (m >>= f) old (Err e) new
is_stop {m = m} f (is d) = is (does_same _ (run (m >>= f)) (run_bind f m) (does_stop (λ x. run (f x)) d))

pub is_give : {T : Type 0} {x : T} {v : Sight} → Is (give x) v (Ok x) v
is_give {x = x} {v = v} = is (quiet_gave _ v v.step.work x (λ s. refl))

pub is_fault : {T : Type 0} {e : Fault} {v : Sight} → Is {T = T} (fault e) v (Err (Faults e)) v
is_fault {e = e} {v = v} = is (quiet_ends _ v v.step.work (Raises e) (λ s. refl))

pub is_event : {T : Type 0} {e : Event} {v : Sight} → Is {T = T} (event e) v (Err (Events e)) v
is_event {e = e} {v = v} = is (quiet_ends _ v v.step.work (Interrupts e) (λ s. refl))

pub is_handoff : {T : Type 0} {h : Handoff} {v : Sight} → Is {T = T} (handoff h) v (Err (Hands h)) v
is_handoff {h = h} {v = v} = is (quiet_ends _ v v.step.work (HandsOver h) (λ s. refl))

-- what the proof of an instruction cites
pub ruleset row_rules = (is_then, is_stop, is_give, is_fault, is_event, is_handoff)

-- ---- a part that is one request

module _ {T : Type 0} (r : Request) (k : Answer → Tree T) where
  asked : (v : View) (s : Supply) → (do_request r then (λ a. run (k a))) v s ≡ run (asks r k) v s
  unfolding ◌then◌
  asked v s = refl

  pub is_asked : {a : Answer} {old mid new : Sight} {res : Result T Stop} → Does (do_request r) old (Ok a) mid → Does (run (k a)) mid res new → Is (asks r k) old res new
  is_asked d e = is (does_same _ (run (asks r k)) asked (does_then (λ a. run (k a)) d e))

  pub is_halted : {e : Stop} {old new : Sight} → Does (do_request r) old (Err e) new → Is (asks r k) old (Err e) new
  is_halted d = is (does_same _ (run (asks r k)) asked (does_stop (λ a. run (k a)) d))

pub run_gives : {T : Type 0} (x : T) (v : Sight) → Does (run (give x)) v (Ok x) v
run_gives x v = quiet_gave _ v v.step.work x (λ s. refl)

-- one access
pub is_device : (a : Access) (old new : Sight) (res : Result Answer Stop) → Does (ask a) old res new → Is (device a) old res new
unfolding device do_request
is_device a old new (Ok r) d = is_asked (Device a) give d (run_gives r new)
is_device a old new (Err e) d = is_halted (Device a) give d

-- what is about to happen
pub point_passes : (p : Point) (v : Sight) → v.step.hits p ≡ None → Is (point p) v (Ok tt) v
unfolding point do_request
point_passes p v e = is_asked (Check p) _ {a = Val 0} (does_then _ (does_look _ v) (rw e (does_then _ does_give does_give))) (run_gives tt v)

pub point_stops : (p : Point) (v : Sight) (x : Exit) → v.step.hits p ≡ Some x → Is (point p) v (Err (Intercept x)) v
unfolding point do_request
point_stops p v x e = is_halted (Check p) _ (does_then _ (does_look _ v) (rw e (does_stop _ (does_stopped (Exits x)))))

pub ruleset request_rules = (is_device, point_passes, point_stops)
