use Rattle.std.proofs.Common.{rules, sym, ◌≤◌, length}
use Rattle.xe_scene.specs.Queued.{Queued, filled}
use Rattle.xe_scene.specs.Queues.{key_of_name}
use Rattle.xe_scene.specs.Script.{found_at}
use Rattle.xe_scene.proofs.KeyLaws.{queue_step, queue_none, filled_none}
use Rattle.xe_scene.proofs.script_bus.feed_queue.Goals as goal

pub feed-requires : goal.feed-requires
unfolding found_at
feed-requires c = rw (← c.in-Some.ensures.value) at c.requires

pub returns-in-Some : goal.returns-in-Some
unfolding found_at
returns-in-Some c =
    queue_step c.args.queues.now (c.get_mut.follows.lender c.feed.new.self) (key_of_name c.args.name) (λ (q : Queued). filled q c.args.items.now) c.in-Some.queue.now (sym c.in-Some.ensures.value)
    (rw (← c.feed.ensures) ((c.get_mut.follows.holds c.feed.new.self).3 (search rules)))

pub returns-in_default : goal.returns-in_default
unfolding found_at
returns-in_default c =
    let none : length c.args.items.now ≤ 0 = rw (← c.in_default.ensures.value) at c.requires in
    queue_none c.args.queues.now c.get_mut.follows.lender-at-none (key_of_name c.args.name) (λ (q : Queued). filled q c.args.items.now) (sym c.in_default.ensures.value) (filled_none c.args.items.now none)
    c.get_mut.follows.holds-at-none
