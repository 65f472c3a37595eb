-- What a device queue has. Its room is counted, so that feeding it asks for no memory.
use Rattle.std.specs.Prelude.{ℕ, ◌+◌, ◌-◌, List, [], ◌++◌, drop, length}
use Rattle.xe_scene.specs.declared.command.Item.{Item}

-- the items that wait, and how many more may be fed
pub record Queued : Type 0 where
  pub waiting : List Item
  pub left : ℕ

-- no items, with room for so many
abbrev pub roomy_queue : ℕ → Queued
roomy_queue n = record { waiting = []; left = n }

abbrev pub empty_queue : Queued
empty_queue = roomy_queue 0

-- a queue with room for more items, with items fed into its room, and without its first item
abbrev pub widened : Queued → ℕ → Queued
widened q more = record q { left = q.left + more }

abbrev pub filled : Queued → List Item → Queued
filled q items = record { waiting = q.waiting ++ items; left = q.left - length items }

abbrev pub without_first : Queued → Queued
without_first q = record q { waiting = drop 1 q.waiting }
