use Rattle.xe_scene.specs.Queues.{key_of_queue}
use Rattle.xe_run.proofs.DriveLaws.{feeds_here}
use Rattle.xe_run.proofs.driver.Driver.feed.Goals as goal

pub feed-requires-clause-room : goal.feed-requires-clause-room
feed-requires-clause-room c =
    rw (c.as_slice.ensures.value, c.is_write.ensures) (feeds_here c.args.space c.args.dir c.args.address c.args.items.now _ (c.requires.room (key_of_queue c.args.space c.args.dir c.args.address)))
