use Rattle.std.proofs.Common.{◌≡◌, drop}
use Rattle.xe_walk.specs.Rights.{some_has}
use Rattle.xe_walk.proofs.rights.some_has.Given as goal

abbrev pub invariant-loop-entry : goal.invariant-loop-entry
invariant-loop-entry l = some_has l.at l.entries ≡ some_has l.at (drop l.entry-index l.entries)
