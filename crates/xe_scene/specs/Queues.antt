-- The names of device queues. Reads and writes of one address have queues of their own, since a device answers them apart, and the
-- same number in two spaces names two devices.
use Rattle.std.specs.Prelude.{ℕ, Bool, true, false}
use Rattle.xe_base.specs.declared.access.Space.{Space}
use Rattle.xe_ctx.specs.Tape.{Key}
use Rattle.xe_scene.specs.declared.command.Dir.{Dir}
use Rattle.xe_scene.specs.declared.command.Dir.TheVariants.{Read, Write}
use Rattle.xe_scene.specs.declared.queue.QueueName.{QueueName}
use Rattle.xe_scene.specs.contracts.queue.QueueNamePartialEq.TheImpl as derived_eq

abbrev pub is_write : Dir → Bool
is_write Read = false
is_write Write = true

-- the queue of a space, a direction and an address
abbrev pub queue_of : Space → Dir → ℕ → QueueName
queue_of s d a = record { space = s; write = is_write d; address = a }

abbrev pub same_queue : QueueName → QueueName → Bool
same_queue = (derived_eq.ghosts).eq

-- the key of a queue on a tape
abbrev pub script_key : Space → Bool → ℕ → Key
script_key s w a = record { space = s; write = w; address = a }

abbrev pub key_of_queue : Space → Dir → ℕ → Key
key_of_queue s d a = script_key s (is_write d) a

abbrev pub name_of : Key → QueueName
name_of k = record { space = k.space; write = k.write; address = k.address }

abbrev pub key_of_name : QueueName → Key
key_of_name q = record { space = q.space; write = q.write; address = q.address }
