-- A scripted bus as the tape that it is: what the definitions say of a tape holds of its devices.
use Rattle.std.specs.Prelude.{ℕ, ◌-◌, List, map, length, if◌then◌else◌, Option, Some, None}
use Rattle.std.specs.BTreeMap.{BTreeMap, get}
use Rattle.xe_base.specs.Access.{is_msr}
use Rattle.xe_base.specs.declared.access.Answer.TheVariants as answers
use Rattle.xe_base.specs.declared.access.Answer.TheVariants.{Val}
use Rattle.xe_ctx.specs.Bus.{BusView}
use Rattle.xe_ctx.specs.Tape as tapes
use Rattle.xe_ctx.specs.Tape.{Key, Tape, Gives, Waits, Fails, fed}
use Rattle.xe_base.specs.declared.access.Space.{Space}
use Rattle.xe_scene.specs.declared.command.Dir.{Dir}
use Rattle.xe_scene.specs.declared.command.Item.{Item}
use Rattle.xe_scene.specs.declared.command.Item.TheVariants.{Wait, Value, No, Fail}
use Rattle.xe_scene.specs.declared.queue.QueueName.{QueueName}
use Rattle.xe_scene.specs.declared.script_bus.ScriptBus.{ScriptBus}
use Rattle.xe_scene.specs.contracts.queue.QueueNameOrd.TheImpl as derived_ord
use Rattle.xe_scene.specs.Queued.{Queued, empty_queue}
use Rattle.xe_scene.specs.Queues.{name_of, key_of_queue}

-- what an item does on a tape
abbrev pub taped : Item → tapes.Item
taped Wait = Waits
taped (Value v) = Gives (Val v)
taped No = Gives answers.No
taped Fail = Fails

-- the same in a queue of a space: `No` is fed to model-specific registers only, and would read as 0 elsewhere
abbrev pub taped_in : Space → Item → tapes.Item
taped_in s Wait = Waits
taped_in s (Value v) = Gives (Val v)
taped_in s No = if is_msr s then Gives answers.No else Gives (Val 0)
taped_in s Fail = Fails

-- what is found, and where nothing is found an empty queue without room
abbrev pub or_empty : Option Queued → Queued
or_empty None = empty_queue
or_empty (Some q) = q

-- the queue of a key, if there is one
unfoldable pub found_at : BTreeMap QueueName Queued → Key → Option Queued
found_at m k = get (derived_ord.ghosts).cmp m (name_of k)

abbrev pub queue_at : BTreeMap QueueName Queued → Key → Queued
queue_at m k = or_empty (found_at m k)

-- the tape: the items that wait, and the log
abbrev pub tape_of : ScriptBus → Tape
tape_of b = record { queues = λ k. map (taped_in k.space) (queue_at b.queues k).waiting; log = b.log.items }

-- how many items each queue may still be fed
abbrev pub spare_of : ScriptBus → Key → ℕ
spare_of b k = (queue_at b.queues k).left

-- how many accesses the log still has room for
abbrev pub log_room : ScriptBus → ℕ
log_room b = 256 - length b.log.items

-- how often a device wasn't ready, and how often one failed
abbrev pub unready_of : ScriptBus → ℕ
unready_of b = b.unready

abbrev pub faults_of : ScriptBus → ℕ
faults_of b = b.faults

-- what is told of a scripted bus
abbrev pub sight_of : ScriptBus → BusView
sight_of b = record { tape = Some (tape_of b); room = log_room b; spare = spare_of b; unready = unready_of b; faults = faults_of b }

-- the tape after a dev line
abbrev pub with_device : Tape → Space → Dir → ℕ → List Item → Tape
with_device t s d a items = fed t (key_of_queue s d a) (map taped items)
