use Rattle.std.proofs.lemmas.List.Elements.{All-replicate}
use Rattle.xe_opmap.specs.Known.{IsPlace}
use Rattle.xe_opmap.proofs.known.Known.new.Goals as goal

pub invariant_of-result : goal.invariant_of-result
invariant_of-result c = All-replicate IsPlace 512 c.free.result c.free.ensures
