-- An access that is asked for until its device is ready, one reply after another.
use Rattle.std.proofs.Common.{◌≡◌, List, [], ◌∷◌, Bool, if◌then◌else◌, Some, None, drop, refl, sym, ap, ◌∙◌}
use Rattle.xe_base.specs.declared.access.Access.{Access}
use Rattle.xe_base.specs.declared.access.Answer.{Answer}
use Rattle.xe_ctx.specs.Tape.{Item, Gives, Waits, Fails, Key, Tape, ask, key_of, first_reply, logged, popped}
use Rattle.xe_ctx.specs.declared.bus.Reply.{Reply}
use Rattle.xe_ctx.specs.declared.bus.Reply.TheVariants.{Ready, NotYet, Failed}
use Rattle.xe_scene.proofs.KeyLaws.{same_key_itself}
use Rattle.xe_run.specs.Settled.{settle, settled, settled_by, once_more, answer_in}

logged_queues : (t : Tape) (a : Access) (reply : Reply) → (logged t a reply).queues ≡ t.queues
logged_queues t a (Ready r) = refl
logged_queues t a NotYet = refl
logged_queues t a Failed = refl

-- the queue of an access after it was asked for once
queue_popped : (t : Tape) (a : Access) → (ask t a).after.queues (key_of a) ≡ drop 1 (t.queues (key_of a))
unfolding ask
queue_popped t a =
    ap (λ (q : Key → List Item). q (key_of a)) (logged_queues (popped t a) a (first_reply a (t.queues (key_of a))))
    ∙ ap (λ (b : Bool). if b then drop 1 (t.queues (key_of a)) else t.queues (key_of a)) (same_key_itself (key_of a))

replies_first : (t : Tape) (a : Access) (q : List Item) → t.queues (key_of a) ≡ q → (ask t a).reply ≡ first_reply a q
unfolding ask
replies_first t a q e = ap (λ (x : List Item). first_reply a x) e

settle_waits : (q : List Item) (t : Tape) (a : Access) → t.queues (key_of a) ≡ q → (ask t a).reply ≡ NotYet → settle q a t ≡ once_more (settle (drop 1 q) a (ask t a).after)
unfolding settle
settle_waits [] t a e n = let h = sym (replies_first t a [] e) ∙ n in absurd (cc)
settle_waits (Waits ∷ items) t a e n = refl
settle_waits (Gives r ∷ items) t a e n = let h = sym (replies_first t a (Gives r ∷ items) e) ∙ n in absurd (cc)
settle_waits (Fails ∷ items) t a e n = let h = sym (replies_first t a (Fails ∷ items) e) ∙ n in absurd (cc)

-- a device that isn't ready yet is asked once more
pub settled-waits : (t : Tape) (a : Access) → (ask t a).reply ≡ NotYet → settled t a ≡ once_more (settled (ask t a).after a)
settled-waits t a n = settle_waits (t.queues (key_of a)) t a refl n ∙ ap (λ (q : List Item). once_more (settle q a (ask t a).after)) (sym (queue_popped t a))

settle_answers : (q : List Item) (t : Tape) (a : Access) (r : Answer) → t.queues (key_of a) ≡ q → (ask t a).reply ≡ Ready r → settle q a t ≡ settled_by (ask t a)
unfolding settle
settle_answers [] t a r e n = refl
settle_answers (Waits ∷ items) t a r e n = let h = sym (replies_first t a (Waits ∷ items) e) ∙ n in absurd (cc)
settle_answers (Gives s ∷ items) t a r e n = refl
settle_answers (Fails ∷ items) t a r e n = refl

-- one that is ready answers
pub settled-answers : (t : Tape) (a : Access) (r : Answer) → (ask t a).reply ≡ Ready r → settled t a ≡ record { waits = 0; answer = Some r; tape = (ask t a).after }
settled-answers t a r n = settle_answers (t.queues (key_of a)) t a r refl n ∙ ap (λ (x : Reply). record { waits = 0; answer = answer_in x; tape = (ask t a).after }) n

settle_fails : (q : List Item) (t : Tape) (a : Access) → t.queues (key_of a) ≡ q → (ask t a).reply ≡ Failed → settle q a t ≡ settled_by (ask t a)
unfolding settle
settle_fails [] t a e n = refl
settle_fails (Waits ∷ items) t a e n = let h = sym (replies_first t a (Waits ∷ items) e) ∙ n in absurd (cc)
settle_fails (Gives s ∷ items) t a e n = refl
settle_fails (Fails ∷ items) t a e n = refl

-- one that fails doesn't
pub settled-fails : (t : Tape) (a : Access) → (ask t a).reply ≡ Failed → settled t a ≡ record { waits = 0; answer = None; tape = (ask t a).after }
settled-fails t a n = settle_fails (t.queues (key_of a)) t a refl n ∙ ap (λ (x : Reply). record { waits = 0; answer = answer_in x; tape = (ask t a).after }) n
