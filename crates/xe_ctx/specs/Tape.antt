use Rattle.std.specs.Prelude.{ℕ, ◌≡◌, ◌*◌, ◌-◌, ◌%◌, ◌^◌, ◌++◌, ◌==◌, ◌&&◌, List, [], ◌∷◌, Bool, true, false, not, Option, Some, None, drop, if◌then◌else◌}
use Rattle.xe_base.specs.declared.access.Space.{Space}
use Rattle.xe_base.specs.declared.access.Space.TheVariants.{Mem, Port, Msr, Cpuid}
use Rattle.xe_base.specs.declared.access.Access.{Access}
use Rattle.xe_base.specs.declared.access.Answer.{Answer}
use Rattle.xe_base.specs.declared.access.Answer.TheVariants.{Val, No}
use Rattle.xe_base.specs.declared.access.Made.{Made}
use Rattle.xe_ctx.specs.declared.bus.Reply.{Reply}
use Rattle.xe_ctx.specs.declared.bus.Reply.TheVariants.{Ready, NotYet, Failed}

-- what a device does when it is asked once: it answers, it isn't ready yet, or it fails
pub data Item : Type 0 where
  Gives : Answer → Item
  Waits : Item
  Fails : Item

-- the accesses that share a queue of items: a space, a direction and an address
pub record Key : Type 0 where
  pub space : Space
  pub write : Bool
  pub address : ℕ

-- the spaces by number
abbrev pub space_number : Space → ℕ
space_number Mem = 0
space_number Port = 1
space_number Msr = 2
space_number Cpuid = 3

abbrev pub same_bool : Bool → Bool → Bool
same_bool true b = b
same_bool false b = not b

abbrev pub same_key : Key → Key → Bool
same_key a b = space_number a.space == space_number b.space && same_bool a.write b.write && a.address == b.address

abbrev pub key_of : Access → Key
key_of a = record { space = a.space; write = a.write; address = a.address }

-- a script of devices: the items that each queue still has, and the accesses that were answered, with their answers
pub record Tape : Type 0 where
  pub queues : Key → List Item
  pub log : List Made

-- no items, nothing answered
abbrev pub empty_tape : Tape
empty_tape = record { queues = λ _. []; log = [] }

-- the queues with another one at a key
abbrev pub with_queue : (Key → List Item) → Key → List Item → Key → List Item
with_queue queues key items = λ k. if same_key k key then items else queues k

-- the script with these items at the end of a queue
abbrev pub fed : Tape → Key → List Item → Tape
fed t key items = record t { queues = with_queue t.queues key (t.queues key ++ items) }

-- the script with an empty log
abbrev pub begun : Tape → Tape
begun t = record t { log = [] }

-- an answer in the width of the access
abbrev pub fitted : Access → Answer → Answer
fitted a (Val v) = Val (v % 2 ^ (8 * a.size))
fitted a No = No

-- what an access gets where its queue is empty: all ones to a read, 0 to a write
abbrev pub unscripted : Access → Answer
unscripted a = if a.write then Val 0 else Val (2 ^ (8 * a.size) - 1)

-- the reply to an access whose queue has these items: that of the first of them
abbrev pub first_reply : Access → List Item → Reply
first_reply a [] = Ready (unscripted a)
first_reply a ((Gives r) ∷ rest) = Ready (fitted a r)
first_reply a (Waits ∷ rest) = NotYet
first_reply a (Fails ∷ rest) = Failed

-- the script with one more access answered: the log tells what was answered, and nothing else
abbrev pub logged : Tape → Access → Reply → Tape
logged t a (Ready r) = record t { log = t.log ++ record { access = a; answer = r } ∷ [] }
logged t a NotYet = t
logged t a Failed = t

-- a reply and the script after it
pub record Asked : Type 0 where
  pub reply : Reply
  pub after : Tape

-- the queue of the access loses its first item
abbrev pub popped : Tape → Access → Tape
popped t a = record t { queues = with_queue t.queues (key_of a) (drop 1 (t.queues (key_of a))) }

-- one access is asked once
abbrev pub replied : Tape → Access → Reply → Asked
replied t a reply = record { reply = reply; after = logged (popped t a) a reply }

unfoldable pub ask : Tape → Access → Asked
ask t a = replied t a (first_reply a (t.queues (key_of a)))

-- what one access says of a bus that tells its script, or doesn't
abbrev pub IsTold : Option Tape → Access → Reply → Option Tape → Type 0
IsTold None a reply new = new ≡ None
IsTold (Some t) a reply new = (reply ≡ (ask t a).reply) × (new ≡ Some (ask t a).after)
