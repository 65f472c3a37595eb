-- The driver as the world that it is, and the room of its queues.
use Rattle.std.specs.Prelude.{◌≡◌, ◌≤◌, ◌-◌, List}
use Rattle.xe_ctx.specs.Machine.{state_of}
use Rattle.xe_ctx.specs.Recorded.{kept_of}
use Rattle.xe_ctx.specs.Tape.{Key}
use Rattle.xe_scene.specs.Script.{tape_of, spare_of}
use Rattle.xe_scene.specs.Rooms.{items_for, fed_by}
use Rattle.xe_scene.specs.declared.command.Command.{Command}
use Rattle.xe_run.specs.Drive.{World}
use Rattle.xe_run.specs.declared.driver.Driver.{Driver}

-- what the driver goes through
abbrev pub world : Driver → World
world d = record { machine = state_of d.machine; draft = d.draft; icpt = d.icpt; batch = d.batch.most; tape = tape_of d.bus; kept = kept_of d.suspended }

-- the queues have room for the items of these commands
abbrev pub HasRoomFor : Driver → List Command → Type 0
HasRoomFor d cs = (k : Key) → items_for cs k ≤ spare_of d.bus k

-- the queues have room for the items of one command
abbrev pub HasRoomOf : Driver → Command → Type 0
HasRoomOf d c = (k : Key) → fed_by k c ≤ spare_of d.bus k

-- the queues have less room by the items of one command
abbrev pub Feeds : Driver → Command → Driver → Type 0
Feeds old c new = (k : Key) → spare_of new.bus k ≡ spare_of old.bus k - fed_by k c

-- the queues have the same room
abbrev pub SameRoom : Driver → Driver → Type 0
SameRoom old new = (k : Key) → spare_of new.bus k ≡ spare_of old.bus k
