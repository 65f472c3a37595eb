-- The room of queues, as commands feed them one after another.
use Rattle.std.proofs.Common.{◌≡◌, ◌+◌, List, ◌∷◌}
use Rattle.std.proofs.lemmas.List.Sums.{sum_by-cons}
use Rattle.xe_ctx.specs.Tape.{Key}
use Rattle.xe_scene.specs.declared.command.Command.{Command}
use Rattle.xe_scene.specs.Rooms.{items_for, fed_by}

-- the first command's items, and those of the others
pub items_more : (c : Command) (cs : List Command) (k : Key) → items_for (c ∷ cs) k ≡ fed_by k c + items_for cs k
items_more c cs k = sum_by-cons (fed_by k) c cs
