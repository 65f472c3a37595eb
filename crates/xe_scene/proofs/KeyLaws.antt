-- Queue names and the keys of a tape.
use Rattle.std.proofs.Common.{◌≡◌, ℕ, ◌==◌, Bool, true, false, Option, Some, None, is_some, List, [], ◌∷◌, length, ◌≤◌, refl, sym, ap, ◌∙◌, arith, if◌then◌else◌}
use Rattle.std.proofs.lemmas.Bool.Decides.{nat_tests}
use Rattle.std.specs.Ordering.{is_eq, nat_cmp}
use Rattle.std.specs.BTreeMap.{BTreeMap, UpdatesBy, is_at}
use Rattle.xe_base.specs.declared.access.Space.{Space}
use Rattle.xe_base.specs.declared.access.Space.TheVariants.{Mem, Port, Msr, Cpuid}
use Rattle.xe_ctx.specs.Tape.{Key, same_key}
use Rattle.xe_scene.specs.declared.queue.QueueName.{QueueName}
use Rattle.xe_scene.specs.contracts.queue.QueueNameOrd.TheImpl as derived_ord
use Rattle.std.specs.Map.{lookup}
use Rattle.xe_scene.specs.declared.command.Item.{Item}
use Rattle.xe_scene.specs.Queued.{Queued, empty_queue, filled}
use Rattle.xe_scene.specs.Queues.{name_of}
use Rattle.xe_scene.specs.Script.{found_at, queue_at, or_empty}

same_number : (a b : ℕ) → is_eq (nat_cmp a b) ≡ (b == a)
same_number a b = grind (arith, nat_tests)

abbrev ties : QueueName → QueueName → Bool
ties p q = is_eq ((derived_ord.ghosts).cmp p q)

-- the order of names tells the same names as the keys of a tape
same_parts : (s t : Space) (v w : Bool) (a b : ℕ)
    → ties (record { space = s; write = v; address = a }) (record { space = t; write = w; address = b }) ≡ same_key (record { space = t; write = w; address = b }) (record { space = s; write = v; address = a })
same_parts Mem Mem false false a b = same_number a b
same_parts Mem Mem false true a b = refl
same_parts Mem Mem true false a b = refl
same_parts Mem Mem true true a b = same_number a b
same_parts Mem Port v w a b = refl
same_parts Mem Msr v w a b = refl
same_parts Mem Cpuid v w a b = refl
same_parts Port Mem v w a b = refl
same_parts Port Port false false a b = same_number a b
same_parts Port Port false true a b = refl
same_parts Port Port true false a b = refl
same_parts Port Port true true a b = same_number a b
same_parts Port Msr v w a b = refl
same_parts Port Cpuid v w a b = refl
same_parts Msr Mem v w a b = refl
same_parts Msr Port v w a b = refl
same_parts Msr Msr false false a b = same_number a b
same_parts Msr Msr false true a b = refl
same_parts Msr Msr true false a b = refl
same_parts Msr Msr true true a b = same_number a b
same_parts Msr Cpuid v w a b = refl
same_parts Cpuid Mem v w a b = refl
same_parts Cpuid Port v w a b = refl
same_parts Cpuid Msr v w a b = refl
same_parts Cpuid Cpuid false false a b = same_number a b
same_parts Cpuid Cpuid false true a b = refl
same_parts Cpuid Cpuid true false a b = refl
same_parts Cpuid Cpuid true true a b = same_number a b

pub same_name : (j k : Key) → ties (name_of j) (name_of k) ≡ same_key k j
same_name j k = same_parts j.space k.space j.write k.write j.address k.address

pub not_true : false ≡ true → ⊥
not_true h = cc

not_false : true ≡ false → ⊥
not_false h = cc

key : Space → Bool → ℕ → Key
key s v a = record { space = s; write = v; address = a }

number_equal : (a b : ℕ) → (a == b) ≡ true → a ≡ b
number_equal a b h = grind (arith, nat_tests)

-- a key is told by its parts
equal_parts : (s t : Space) (v w : Bool) (a b : ℕ) → same_key (key s v a) (key t w b) ≡ true → key s v a ≡ key t w b
unfolding key
equal_parts Mem Mem false false a b h = ap (λ (n : ℕ). key Mem false n) (number_equal a b h)
equal_parts Mem Mem false true a b h = absurd (not_true h)
equal_parts Mem Mem true false a b h = absurd (not_true h)
equal_parts Mem Mem true true a b h = ap (λ (n : ℕ). key Mem true n) (number_equal a b h)
equal_parts Mem Port v w a b h = absurd (not_true h)
equal_parts Mem Msr v w a b h = absurd (not_true h)
equal_parts Mem Cpuid v w a b h = absurd (not_true h)
equal_parts Port Mem v w a b h = absurd (not_true h)
equal_parts Port Port false false a b h = ap (λ (n : ℕ). key Port false n) (number_equal a b h)
equal_parts Port Port false true a b h = absurd (not_true h)
equal_parts Port Port true false a b h = absurd (not_true h)
equal_parts Port Port true true a b h = ap (λ (n : ℕ). key Port true n) (number_equal a b h)
equal_parts Port Msr v w a b h = absurd (not_true h)
equal_parts Port Cpuid v w a b h = absurd (not_true h)
equal_parts Msr Mem v w a b h = absurd (not_true h)
equal_parts Msr Port v w a b h = absurd (not_true h)
equal_parts Msr Msr false false a b h = ap (λ (n : ℕ). key Msr false n) (number_equal a b h)
equal_parts Msr Msr false true a b h = absurd (not_true h)
equal_parts Msr Msr true false a b h = absurd (not_true h)
equal_parts Msr Msr true true a b h = ap (λ (n : ℕ). key Msr true n) (number_equal a b h)
equal_parts Msr Cpuid v w a b h = absurd (not_true h)
equal_parts Cpuid Mem v w a b h = absurd (not_true h)
equal_parts Cpuid Port v w a b h = absurd (not_true h)
equal_parts Cpuid Msr v w a b h = absurd (not_true h)
equal_parts Cpuid Cpuid false false a b h = ap (λ (n : ℕ). key Cpuid false n) (number_equal a b h)
equal_parts Cpuid Cpuid false true a b h = absurd (not_true h)
equal_parts Cpuid Cpuid true false a b h = absurd (not_true h)
equal_parts Cpuid Cpuid true true a b h = ap (λ (n : ℕ). key Cpuid true n) (number_equal a b h)

pub equal_keys : (j k : Key) → same_key j k ≡ true → j ≡ k
unfolding key
equal_keys j k h = equal_parts j.space k.space j.write k.write j.address k.address h

same_itself : (s : Space) (v : Bool) (a : ℕ) → same_key (key s v a) (key s v a) ≡ true
unfolding key
same_itself Mem false a = grind (arith, nat_tests)
same_itself Mem true a = grind (arith, nat_tests)
same_itself Port false a = grind (arith, nat_tests)
same_itself Port true a = grind (arith, nat_tests)
same_itself Msr false a = grind (arith, nat_tests)
same_itself Msr true a = grind (arith, nat_tests)
same_itself Cpuid false a = grind (arith, nat_tests)
same_itself Cpuid true a = grind (arith, nat_tests)

pub same_key_itself : (k : Key) → same_key k k ≡ true
unfolding key
same_key_itself k = same_itself k.space k.write k.address

found_step : (m n : BTreeMap QueueName Queued) (j : Key) (w : Option Queued) → UpdatesBy (derived_ord.ghosts).cmp ((derived_ord.ghosts).cmp (name_of j)) m n w
    → (k : Key) → found_at n k ≡ (if same_key k j then w else found_at m k)
unfolding found_at
found_step m n j w u k = u.0 (name_of k) ∙ ap (λ b. if b then w else found_at m k) (same_name j k)

-- a change of one queue that there is
pub queue_step : (m n : BTreeMap QueueName Queued) (j : Key) (f : Queued → Queued) (q : Queued) → found_at m j ≡ Some q
    → UpdatesBy (derived_ord.ghosts).cmp ((derived_ord.ghosts).cmp (name_of j)) m n (Some (f q)) → (k : Key) → queue_at n k ≡ (if same_key k j then f (queue_at m k) else queue_at m k)
queue_step m n j f q h u k =
    let at : (b : Bool) → same_key k j ≡ b → queue_at n k ≡ (if b then f (queue_at m k) else queue_at m k) = λ b.
    elim b as (λ b. same_key k j ≡ b → queue_at n k ≡ (if b then f (queue_at m k) else queue_at m k)) [
      | true ↦ λ e.
          let new : found_at n k ≡ Some (f q) = found_step m n j (Some (f q)) u k ∙ ap (λ b. if b then Some (f q) else found_at m k) e in
          let old : found_at m k ≡ Some q = ap (found_at m) (equal_keys k j e) ∙ h in
          ap or_empty new ∙ ap f (sym (ap or_empty old))
      | false ↦ λ e. ap or_empty (found_step m n j (Some (f q)) u k ∙ ap (λ b. if b then Some (f q) else found_at m k) e)
    ] in
    at (same_key k j) refl ∙ refl

-- a change of a queue that there isn't changes nothing
pub queue_none : (m n : BTreeMap QueueName Queued) (j : Key) (f : Queued → Queued) → found_at m j ≡ None → f empty_queue ≡ empty_queue
    → n ≡ m → (k : Key) → queue_at n k ≡ (if same_key k j then f (queue_at m k) else queue_at m k)
queue_none m n j f h e same k =
    let at : (b : Bool) → same_key k j ≡ b → queue_at m k ≡ (if b then f (queue_at m k) else queue_at m k) = λ b.
    elim b as (λ b. same_key k j ≡ b → queue_at m k ≡ (if b then f (queue_at m k) else queue_at m k)) [
      | true ↦ λ t.
          let old : queue_at m k ≡ empty_queue = ap or_empty (ap (found_at m) (equal_keys k j t) ∙ h) in
          old ∙ sym e ∙ ap f (sym old)
      | false ↦ λ t. refl
    ] in
    ap (λ (m : BTreeMap QueueName Queued). queue_at m k) same ∙ at (same_key k j) refl

pub filled_none : (items : List Item) → length items ≤ 0 → filled empty_queue items ≡ empty_queue
filled_none [] h = refl
filled_none (x ∷ xs) h = absurd (omega arith)

none_found : (o : Option Queued) → is_some o ≡ false → o ≡ None
none_found None h = refl
none_found (Some q) h = absurd (not_false h)

-- a queue that is added
pub queue_added : (m n : BTreeMap QueueName Queued) (j : Key) → is_some (found_at m j) ≡ false → UpdatesBy (derived_ord.ghosts).cmp ((derived_ord.ghosts).cmp (name_of j)) m n (Some empty_queue)
    → (k : Key) → queue_at n k ≡ queue_at m k
queue_added m n j h u k =
    let at : (b : Bool) → same_key k j ≡ b → queue_at n k ≡ queue_at m k = λ b.
    elim b as (λ b. same_key k j ≡ b → queue_at n k ≡ queue_at m k) [
      | true ↦ λ e.
          let new : found_at n k ≡ Some empty_queue = found_step m n j (Some empty_queue) u k ∙ ap (λ b. if b then Some empty_queue else found_at m k) e in
          let old : found_at m k ≡ None = ap (found_at m) (equal_keys k j e) ∙ none_found (found_at m j) h in
          ap or_empty new ∙ sym (ap or_empty old)
      | false ↦ λ e. ap or_empty (found_step m n j (Some empty_queue) u k ∙ ap (λ b. if b then Some empty_queue else found_at m k) e)
    ] in
    at (same_key k j) refl

-- and that is there from then on
pub added_found : (m n : BTreeMap QueueName Queued) (j : Key) → UpdatesBy (derived_ord.ghosts).cmp ((derived_ord.ghosts).cmp (name_of j)) m n (Some empty_queue) → found_at n j ≡ Some empty_queue
added_found m n j u = found_step m n j (Some empty_queue) u j ∙ ap (λ b. if b then Some empty_queue else found_at m j) (same_key_itself j)

pub no_queues : (m : BTreeMap QueueName Queued) → m.entries ≡ [] → (k : Key) → queue_at m k ≡ empty_queue
unfolding found_at
no_queues m h k = ap (λ (es : List (QueueName × Queued)). or_empty (lookup (is_at ((derived_ord.ghosts).cmp (name_of k))) es)) h
