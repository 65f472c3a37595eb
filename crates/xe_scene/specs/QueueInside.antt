-- How a queue is kept: its items so far, of which the first ones were taken, in memory that holds all that may come. Taken items stay,
-- so that taking one moves none.
use Rattle.std.specs.Prelude.{◌+◌, ◌≤◌, drop, vec_len, vec_capacity}
use Rattle.xe_scene.specs.declared.queue.Queue.TheInside.{Inside}
use Rattle.xe_scene.specs.Queued.{Queued}

abbrev pub queued : Inside → Queued
queued q = record { waiting = drop q.next q.items.items; left = q.left }

pub record IsRoomy (q : Inside) : Type 0 where
  pub taken : q.next ≤ vec_len q.items
  pub room : vec_len q.items + q.left ≤ vec_capacity q.items
