use Rattle.std.proofs.Common.{◌≡◌, List, [], ◌∷◌, Ok, refl, subst}
use Rattle.xe_base.specs.declared.access.Answer.{Answer}
use Rattle.xe_base.specs.declared.access.Made.{Made}
use Rattle.xe_ctx.specs.Finishes.{EachGives}
use Rattle.xe_ctx.specs.Is.{Sight, Is, is, does}
use Rattle.xe_ctx.specs.Part.{View, Ran, Gave, Waits, Ends, then_ran}
use Rattle.xe_ctx.specs.Run.{run, do_request}
use Rattle.xe_ctx.specs.Supply.{Supply, Supplies, answers_alone, answers}
use Rattle.xe_ctx.specs.Tree.{Tree, asks, fault, event, handoff, give, ◌>>=◌}

-- the answers of accesses supply those accesses
pub supplied : (ms : List Made) → Supplies (answers_alone (answers ms)) ms (answers_alone [])
supplied [] = refl
supplied (m ∷ ms) = (answers_alone (answers ms), refl, supplied ms)

module _ {T : Type 0} (P : T → Type 0) where
  -- what holds of each value holds of those of a part
  pub each_any : (t : Tree T) → ((x : T) → P x) → EachGives P t
  each_any (asks r k) h = λ a. each_any (k a) h
  each_any (fault e) h = tt
  each_any (event e) h = tt
  each_any (handoff x) h = tt
  each_any (give x) h = h x

  -- what holds of each value holds of them by what follows from it
  pub each_implies : (Q : T → Type 0) → ((x : T) → P x → Q x) → (t : Tree T) → EachGives P t → EachGives Q t
  each_implies Q f (asks r k) h = λ a. each_implies Q f (k a) (h a)
  each_implies Q f (fault e) h = tt
  each_implies Q f (event e) h = tt
  each_implies Q f (handoff y) h = tt
  each_implies Q f (give x) h = f x h

  -- one part after another
  pub each_then : {A : Type 0} (Q : A → Type 0) (m : Tree A) (f : A → Tree T) → EachGives Q m → ((x : A) → Q x → EachGives P (f x)) → EachGives P (m >>= f)
  unfolding ◌>>=◌
  each_then Q (asks r k) f h g = λ a. each_then Q (k a) f (h a) g
  each_then Q (fault e) f h g = tt
  each_then Q (event e) f h g = tt
  each_then Q (handoff x) f h g = tt
  each_then Q (give x) f h g = g x h

  gives-ran : (k : Answer → Tree T) (r : Ran Answer) (x : T) (w : View) (rest : Supply) → ((a : Answer) (v : View) (s : Supply) → run (k a) v s ≡ Gave x w rest → P x) → then_ran r (λ a. run (k a)) ≡ Gave x w rest → P x
  gives-ran k (Gave a v s) x w rest each e = each a v s e
  gives-ran k (Waits a lack v s) x w rest each e = cc
  gives-ran k (Ends t v s) x w rest each e = cc

  gives : (t : Tree T) → EachGives P t → (v : View) (s : Supply) (x : T) (w : View) (rest : Supply) → run t v s ≡ Gave x w rest → P x
  gives (asks r k) h v s x w rest e = gives-ran k (do_request r v s) x w rest (λ a u more. gives (k a) (h a) u more x w rest) e
  gives (fault y) h v s x w rest e = cc
  gives (event y) h v s x w rest e = cc
  gives (handoff y) h v s x w rest e = cc
  gives (give y) h v s x w rest e = let same : y ≡ x = cc in subst P same h

  -- what holds of each value that a part can come to holds of the one that it came to
  pub gives_of : (t : Tree T) (x : T) (old new : Sight) → EachGives P t → Is t old (Ok x) new → P x
  gives_of t x old new h (is (does d)) = gives t h old.step (answers_alone (answers d.extra)) x new.step (answers_alone []) (d.comes (answers_alone (answers d.extra)) (answers_alone []) (supplied d.extra))
