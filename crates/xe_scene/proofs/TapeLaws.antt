-- A scripted bus as a tape.
use mathlib.Core.Path.{fun_ext}
use Rattle.std.proofs.Common.{◌≡◌, ℕ, ◌+◌, ◌<◌, Bool, true, false, List, [], ◌∷◌, ◌++◌, length, take, drop, map, Some, refl, sym, ap, ◌∙◌, if◌then◌else◌}
use Rattle.std.specs.List.{slice_get}
use Rattle.std.specs.BTreeMap.{BTreeMap}
use Rattle.std.proofs.lemmas.List.{map-append, drop-map}
use Rattle.std.proofs.lemmas.List.Elements.{All-head, All-tail}
use Rattle.std.proofs.lemmas.List.Sums.{sum_by_more}
use Rattle.std.specs.Prelude.{All}
use Rattle.std.proofs.lemmas.Option.{get_or_from_slice_get}
use Rattle.xe_base.specs.declared.access.Access.{Access}
use Rattle.xe_base.specs.declared.access.Made.{Made}
use Rattle.xe_ctx.specs.Tape as tapes
use Rattle.xe_ctx.specs.Tape.{Key, Tape, same_key, key_of, with_queue, first_reply, logged, popped, ask, IsTold}
use Rattle.xe_ctx.specs.declared.bus.Reply.{Reply}
use Rattle.xe_ctx.specs.declared.bus.Reply.TheVariants.{Ready, NotYet, Failed}
use Rattle.xe_scene.specs.declared.command.Command.{Command}
use Rattle.xe_scene.specs.declared.command.Item.{Item}
use Rattle.xe_scene.specs.declared.command.Item.TheVariants.{Wait, Value, No, Fail}
use Rattle.xe_scene.specs.declared.queue.QueueName.{QueueName}
use Rattle.xe_scene.specs.Queued.{Queued, filled, widened, without_first, roomy_queue}
use Rattle.xe_base.specs.declared.access.Space.{Space}
use Rattle.xe_base.specs.declared.access.Space.TheVariants.{Mem, Port, Msr, Cpuid}
use Rattle.xe_scene.specs.Formed.{IsItemFor}
use Rattle.xe_scene.specs.Script.{taped, taped_in, queue_at}
use Rattle.xe_scene.specs.Replies.{reply_to}
use Rattle.xe_scene.specs.Rooms.{items_for, fed_by}
use Rattle.xe_scene.proofs.KeyLaws.{equal_keys, not_true}

-- an item of its space is taped alike
alike : (s : Space) (i : Item) → IsItemFor s i → taped_in s i ≡ taped i
alike s Wait h = refl
alike s Fail h = refl
alike s (Value v) h = refl
alike Mem No h = absurd (not_true h)
alike Port No h = absurd (not_true h)
alike Msr No h = refl
alike Cpuid No h = absurd (not_true h)

taped_alike : (s : Space) (items : List Item) → All (IsItemFor s) items → map (taped_in s) items ≡ map taped items
taped_alike s [] h = refl
taped_alike s (i ∷ items) h =
    ap (λ (x : tapes.Item). x ∷ map (taped_in s) items) (alike s i (All-head (IsItemFor s) i items h))
    ∙ ap (λ (xs : List tapes.Item). taped i ∷ xs) (taped_alike s items (All-tail (IsItemFor s) i items h))

-- what waits on the tape
abbrev pub waiting : BTreeMap QueueName Queued → Key → List tapes.Item
waiting m k = map (taped_in k.space) (queue_at m k).waiting

-- a change of one queue is that change of the tape
changed : (m n : BTreeMap QueueName Queued) (j : Key) (f : Queued → Queued) (new : List tapes.Item) → map (taped_in j.space) (f (queue_at m j)).waiting ≡ new
    → ((k : Key) → queue_at n k ≡ (if same_key k j then f (queue_at m k) else queue_at m k)) → waiting n ≡ with_queue (waiting m) j new
changed m n j f new e h = fun_ext (λ k.
    let at : (b : Bool) → same_key k j ≡ b → waiting n k ≡ (if b then new else waiting m k) = λ b.
    elim b as (λ b. same_key k j ≡ b → waiting n k ≡ (if b then new else waiting m k)) [
      | true ↦ λ t.
          let now : queue_at n k ≡ f (queue_at m k) = h k ∙ ap (λ b. if b then f (queue_at m k) else queue_at m k) t in
          ap (λ (q : Queued). map (taped_in k.space) q.waiting) now ∙ ap (λ (i : Key). map (taped_in i.space) (f (queue_at m i)).waiting) (equal_keys k j t) ∙ e
      | false ↦ λ t.
          let now : queue_at n k ≡ queue_at m k = h k ∙ ap (λ b. if b then f (queue_at m k) else queue_at m k) t in
          ap (λ (q : Queued). map (taped_in k.space) q.waiting) now
    ] in
    at (same_key k j) refl)

pub fed_queues : (m n : BTreeMap QueueName Queued) (j : Key) (items : List Item)
    → All (IsItemFor j.space) items
    → ((k : Key) → queue_at n k ≡ (if same_key k j then filled (queue_at m k) items else queue_at m k)) → waiting n ≡ with_queue (waiting m) j (waiting m j ++ map taped items)
fed_queues m n j items fit h =
    changed m n j (λ (q : Queued). filled q items) _ (map-append (taped_in j.space) (queue_at m j).waiting items ∙ ap (λ (is : List tapes.Item). waiting m j ++ is) (taped_alike j.space items fit)) h

pub popped_queues : (m n : BTreeMap QueueName Queued) (j : Key)
    → ((k : Key) → queue_at n k ≡ (if same_key k j then without_first (queue_at m k) else queue_at m k)) → waiting n ≡ with_queue (waiting m) j (drop 1 (waiting m j))
popped_queues m n j h = changed m n j without_first _ (sym (drop-map (taped_in j.space) 1 (queue_at m j).waiting)) h

first_counts : (a : Access) (i : tapes.Item) (is : List tapes.Item) → first_reply a (i ∷ []) ≡ first_reply a (i ∷ is)
first_counts a (tapes.Gives r) is = refl
first_counts a tapes.Waits is = refl
first_counts a tapes.Fails is = refl

pub first_replied : (a : Access) (items : List Item) → reply_to a (slice_get items 0) ≡ first_reply a (map (taped_in a.space) items)
first_replied a [] = refl
first_replied a (i ∷ items) = first_counts a (taped_in a.space i) (map (taped_in a.space) items)

-- the tape after a reply: the first item is gone, and an answer is in the log
asked_after : (t : Tape) (a : Access) (reply : Reply) (queues : Key → List tapes.Item) (log : List Made)
    → reply ≡ first_reply a (t.queues (key_of a)) → queues ≡ with_queue t.queues (key_of a) (drop 1 (t.queues (key_of a)))
    → log ≡ (logged t a reply).log → (logged (popped t a) a reply ≡ record { queues = with_queue t.queues (key_of a) (drop 1 (t.queues (key_of a))); log = (logged t a reply).log })
    → IsTold (Some t) a reply (Some (record { queues = queues; log = log }))
unfolding ask
asked_after t a reply queues log e q l h = (
  e,
  ap (λ (q : Key → List tapes.Item). let t : Tape = record { queues = q; log = log } in Some t) q
      ∙ ap (λ (l : List Made). let t : Tape = record { queues = with_queue t.queues (key_of a) (drop 1 (t.queues (key_of a))); log = l } in Some t) l
      ∙ ap (λ (t : Tape). Some t) (sym h)
      ∙ ap (λ (r : Reply). Some (logged (popped t a) a r)) e,
)

pub told_reply : (t : Tape) (a : Access) (reply : Reply) (queues : Key → List tapes.Item) (log : List Made)
    → reply ≡ first_reply a (t.queues (key_of a)) → queues ≡ with_queue t.queues (key_of a) (drop 1 (t.queues (key_of a)))
    → log ≡ (logged t a reply).log → IsTold (Some t) a reply (Some (record { queues = queues; log = log }))
told_reply t a (Ready r) queues log e q l = asked_after t a (Ready r) queues log e q l refl
told_reply t a NotYet queues log e q l = asked_after t a NotYet queues log e q l refl
told_reply t a Failed queues log e q l = asked_after t a Failed queues log e q l refl

-- a taken item leaves the room of all queues
pub spare_kept : (m n : BTreeMap QueueName Queued) (j : Key) → ((k : Key) → queue_at n k ≡ (if same_key k j then without_first (queue_at m k) else queue_at m k))
    → (k : Key) → (queue_at n k).left ≡ (queue_at m k).left
spare_kept m n j h k =
    ap (λ (q : Queued). q.left) (h k) ∙ elim (same_key k j) as (λ b. (if b then without_first (queue_at m k) else queue_at m k).left ≡ (queue_at m k).left) [ true ↦ refl | false ↦ refl ]

-- queues of which none has an item
pub empty_queues : (m : BTreeMap QueueName Queued) (room : Key → ℕ) → ((k : Key) → queue_at m k ≡ roomy_queue (room k)) → waiting m ≡ (λ k. [])
empty_queues m room h = fun_ext (λ k. ap (λ (q : Queued). map (taped_in k.space) q.waiting) (h k))

pub more_room : (cs : List Command) (i : ℕ) (c : Command) (k : Key) (q : Queued) → i < length cs → slice_get cs i ≡ Some c → q ≡ roomy_queue (items_for (take i cs) k)
    → widened q (fed_by k c) ≡ roomy_queue (items_for (take (i + 1) cs) k)
more_room cs i c k q lt h e =
    ap (λ (q : Queued). widened q (fed_by k c)) e
    ∙ ap roomy_queue (ap (λ (x : Command). items_for (take i cs) k + fed_by k x) (sym (get_or_from_slice_get cs i c c h)) ∙ sym (sum_by_more (fed_by k) cs i c lt))
