use Rattle.std.proofs.Common.{ap, List}
use Rattle.xe_ctx.specs.Tape.{Tape, Item, Key}
use Rattle.xe_scene.specs.Queues.{script_key}
use Rattle.xe_scene.proofs.TapeLaws.{fed_queues}
use Rattle.xe_scene.proofs.script_bus.ScriptBus.feed.Goals as goal

pub returns-clause-tape : goal.returns-clause-tape
returns-clause-tape c =
    let queues = rw c.new-name.ensures at c.feed_queue.ensures in
    let same = fed_queues c.args.self.now.queues c.feed_queue.new.queues (script_key c.args.space c.args.write c.args.address) c.args.items.now c.requires.formed queues in
    ap (λ (q : Key → List Item). let t : Tape = record { queues = q; log = c.args.self.now.log.items } in t) same
