use Rattle.std.proofs.Common.{rules, sym}
use Rattle.xe_scene.specs.Queued.{Queued, widened}
use Rattle.xe_scene.specs.Queues.{key_of_name}
use Rattle.xe_scene.specs.Script.{found_at}
use Rattle.xe_scene.proofs.KeyLaws.{queue_step, not_true}
use Rattle.xe_scene.proofs.script_bus.widen_queue.Goals as goal

pub returns-in_ok-widen-in-Some : goal.returns-in_ok-widen-in-Some
unfolding found_at
returns-in_ok-widen-in-Some c =
    queue_step c.args.queues.now (c.get_mut.follows.lender c.widen.new.self) (key_of_name c.args.name) (λ (q : Queued). widened q c.args.more) c.in-Some.queue.now (sym c.in-Some.ensures.value)
    (rw (← c.in_ok-widen-in-Some.ensures) ((c.get_mut.follows.holds c.widen.new.self).3 (search rules)))

pub returns-in-None : goal.returns-in-None
unfolding found_at
returns-in-None c = absurd (not_true (rw (← c.in-None.ensures.value) at c.requires))
