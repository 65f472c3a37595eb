-- An access that is asked for until its device is ready, or fails. This project's choice.
use Rattle.std.specs.Prelude.{ℕ, ◌+◌, List, [], ◌∷◌, Option, Some, None}
use Rattle.xe_base.specs.declared.access.Access.{Access}
use Rattle.xe_base.specs.declared.access.Answer.{Answer}
use Rattle.xe_ctx.specs.Tape.{Item, Gives, Waits, Fails, Tape, Asked, ask, key_of}
use Rattle.xe_ctx.specs.declared.bus.Reply.{Reply}
use Rattle.xe_ctx.specs.declared.bus.Reply.TheVariants.{Ready, NotYet, Failed}

-- how often its device wasn't ready, its answer, or none where the device failed, and the script then
pub record Settled : Type 0 where
  pub waits : ℕ
  pub answer : Option Answer
  pub tape : Tape

abbrev pub answer_in : Reply → Option Answer
answer_in (Ready answer) = Some answer
answer_in NotYet = None
answer_in Failed = None

-- a reply other than "not yet" settles it
abbrev pub settled_by : Asked → Settled
settled_by asked = record { waits = 0; answer = answer_in asked.reply; tape = asked.after }

abbrev pub once_more : Settled → Settled
once_more s = record s { waits = s.waits + 1 }

-- Each "not yet" takes an item from the access's queue, and an empty queue is ready: so this goes down the items that the queue has.
unfoldable pub settle : List Item → Access → Tape → Settled
settle [] a t = settled_by (ask t a)
settle (Waits ∷ items) a t = once_more (settle items a (ask t a).after)
settle (Gives r ∷ items) a t = settled_by (ask t a)
settle (Fails ∷ items) a t = settled_by (ask t a)

-- the access is asked for until the reply isn't "not yet"
abbrev pub settled : Tape → Access → Settled
settled t a = settle (t.queues (key_of a)) a t
