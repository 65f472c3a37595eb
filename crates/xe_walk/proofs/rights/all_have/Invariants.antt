use Rattle.std.proofs.Common.{◌≡◌, drop}
use Rattle.xe_walk.specs.Rights.{all_have}
use Rattle.xe_walk.proofs.rights.all_have.Given as goal

abbrev pub invariant-loop-entry : goal.invariant-loop-entry
invariant-loop-entry l = all_have l.at l.entries ≡ all_have l.at (drop l.entry-index l.entries)
