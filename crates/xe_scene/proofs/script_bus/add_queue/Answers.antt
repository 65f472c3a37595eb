use Rattle.std.proofs.Common.{sym, ap, ◌∙◌, is_some}
use Rattle.xe_scene.specs.Queues.{key_of_name}
use Rattle.xe_scene.specs.Script.{found_at}
use Rattle.xe_scene.proofs.KeyLaws.{queue_added, added_found}
use Rattle.xe_scene.proofs.script_bus.add_queue.Goals as goal

pub returns-in_ok-insert-clause-same : goal.returns-in_ok-insert-clause-same
unfolding found_at
returns-in_ok-insert-clause-same c =
    queue_added c.args.queues.now c.insert.new.self (key_of_name c.args.name) (sym c.contains_key.ensures ∙ c.if-not-contains_key.true)
    (rw (← c.new.ensures) c.in_ok-insert.ensures.updates)

pub returns-in_ok-insert-clause-found : goal.returns-in_ok-insert-clause-found
unfolding found_at
returns-in_ok-insert-clause-found c = ap is_some (added_found c.args.queues.now c.insert.new.self (key_of_name c.args.name) (rw (← c.new.ensures) c.in_ok-insert.ensures.updates))

pub returns-else-not-contains_key-clause-found : goal.returns-else-not-contains_key-clause-found
unfolding found_at
returns-else-not-contains_key-clause-found c = sym c.contains_key.ensures ∙ c.if-not-contains_key.false
