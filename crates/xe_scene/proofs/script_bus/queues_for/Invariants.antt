use Rattle.std.proofs.Common.{◌≡◌, take}
use Rattle.xe_ctx.specs.Tape.{Key}
use Rattle.xe_scene.specs.Queued.{roomy_queue}
use Rattle.xe_scene.specs.Script.{queue_at}
use Rattle.xe_scene.specs.Rooms.{items_for}
use Rattle.xe_scene.proofs.script_bus.queues_for.Given as goal

abbrev pub invariant-loop-i : goal.invariant-loop-i
invariant-loop-i l = record { roomy : (k : Key) → queue_at l.queues k ≡ roomy_queue (items_for (take l.i l.commands) k) }
