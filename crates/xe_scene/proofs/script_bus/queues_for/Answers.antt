use Rattle.std.proofs.Common.{arith, ap, ◌∙◌, ◌≤◌, ◌<◌, length, List}
use Rattle.std.proofs.lemmas.List.{take_all}
use Rattle.xe_scene.specs.declared.command.Command.{Command}
use Rattle.xe_scene.specs.Queued.{roomy_queue}
use Rattle.xe_scene.specs.Script.{queue_at}
use Rattle.xe_scene.specs.Rooms.{items_for}
use Rattle.xe_scene.proofs.KeyLaws.{no_queues}
use Rattle.xe_scene.proofs.TapeLaws.{more_room}
use Rattle.xe_scene.proofs.script_bus.queues_for.Goals as goal

pub loop-i-init : goal.loop-i-init
loop-i-init c = record { roomy = λ k. no_queues c.new-queues.result c.new-queues.ensures.empty k }

pub loop-i-preserved : goal.loop-i-preserved
loop-i-preserved c =
    let within : c.loop-i.i < length c.args.commands.now = omega (arith, c.len-i-end.ensures.count) in
    record {
      roomy = λ k. c.in_ok-make_room.ensures k ∙ more_room c.args.commands.now c.loop-i.i c.get.result.now k (queue_at c.loop-i.queues k) within c.get.ensures.command (c.loop-i.invariant.roomy k);
    }

pub returns : goal.returns
returns c =
    let past : length c.args.commands.now ≤ c.loop-i.i = omega (arith, c.len-i-end.ensures.count) in
    λ k. c.loop-i.invariant.roomy k ∙ ap (λ (cs : List Command). roomy_queue (items_for cs k)) (take_all c.loop-i.i c.args.commands.now past)
