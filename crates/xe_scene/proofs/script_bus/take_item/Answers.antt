use Rattle.std.proofs.Common.{rules, sym, refl}
use Rattle.xe_scene.specs.Queued.{without_first}
use Rattle.xe_scene.specs.Queues.{key_of_name}
use Rattle.xe_scene.specs.Script.{found_at}
use Rattle.xe_scene.proofs.KeyLaws.{queue_step, queue_none}
use Rattle.xe_scene.proofs.script_bus.take_item.Goals as goal

pub returns-in-Some-clause-first : goal.returns-in-Some-clause-first
unfolding found_at
returns-in-Some-clause-first c = rw (← c.in-Some.ensures.value) c.take.ensures.first

pub returns-in-Some-clause-rest : goal.returns-in-Some-clause-rest
unfolding found_at
returns-in-Some-clause-rest c =
    queue_step c.args.queues.now (c.get_mut.follows.lender c.take.new.self) (key_of_name c.args.name) without_first c.in-Some.queue.now (sym c.in-Some.ensures.value)
    (rw (← c.take.ensures.rest) ((c.get_mut.follows.holds c.take.new.self).3 (search rules)))

pub returns-in-None-clause-first : goal.returns-in-None-clause-first
unfolding found_at
returns-in-None-clause-first c = rw (← c.in-None.ensures.value)

pub returns-in-None-clause-rest : goal.returns-in-None-clause-rest
unfolding found_at
returns-in-None-clause-rest c = queue_none c.args.queues.now c.get_mut.follows.lender-at-none (key_of_name c.args.name) without_first (sym c.in-None.ensures.value) refl c.get_mut.follows.holds-at-none
