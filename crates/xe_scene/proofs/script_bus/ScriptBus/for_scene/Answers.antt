use Rattle.std.proofs.Common.{ap, ◌∙◌, List, []}
use Rattle.xe_base.specs.declared.access.Made.{Made}
use Rattle.xe_ctx.specs.Tape.{Tape, Item, Key}
use Rattle.xe_scene.specs.Rooms.{items_for}
use Rattle.xe_scene.proofs.TapeLaws.{empty_queues}
use Rattle.xe_scene.proofs.script_bus.ScriptBus.for_scene.Goals as goal

pub returns-in-Ok-clause-tape : goal.returns-in-Ok-clause-tape
returns-in-Ok-clause-tape c =
    ap (λ (q : Key → List Item). let t : Tape = record { queues = q; log = c.new.result.items } in t) (empty_queues c.in-Ok.queues (items_for c.args.scene.now.commands) c.in-Ok.ensures)
    ∙ ap (λ (l : List Made). let t : Tape = record { queues = λ k. []; log = l } in t) c.new.ensures
