use Rattle.std.proofs.Common.{◌≡◌, take}
use Rattle.xe_mem.proofs.region.copy_of.Given as goal

abbrev pub invariant-loop-region : goal.invariant-loop-region
invariant-loop-region l = l.regions.items ≡ take l.region-index l.list
