-- The room that a scene's queues need: that of all items which its lines feed. It is taken before the scene runs, so that want of memory
-- can't come in the middle of a trace.
use Rattle.std.specs.Prelude.{ℕ, if◌then◌else◌, List, length, sum_by}
use Rattle.xe_ctx.specs.Tape.{Key, same_key}
use Rattle.xe_scene.specs.declared.command.Command.{Command}
use Rattle.xe_scene.specs.declared.command.Command.TheVariants.{Reg, Seg, Table, Poke, Dev, Icpt, Unicpt, Ioport, Icptmsr, Batch, Run, Call, Show, Dump}
use Rattle.xe_scene.specs.Queues.{key_of_queue}

-- how many items a command feeds to a queue
abbrev pub fed_by : Key → Command → ℕ
fed_by k (Reg r v) = 0
fed_by k (Seg r s b l a) = 0
fed_by k (Table t b l) = 0
fed_by k (Poke a b) = 0
fed_by k (Dev s d a is) = if same_key k (key_of_queue s d a) then length is.items else 0
fed_by k (Icpt n) = 0
fed_by k (Unicpt n) = 0
fed_by k (Ioport l h) = 0
fed_by k (Icptmsr d n) = 0
fed_by k (Batch n) = 0
fed_by k (Run n) = 0
fed_by k Call = 0
fed_by k Show = 0
fed_by k (Dump a n) = 0

-- how many items commands feed to a queue
abbrev pub items_for : List Command → Key → ℕ
items_for cs k = sum_by (fed_by k) cs
