use Rattle.std.proofs.Common.{◌≡◌, ◌++◌, drop, map, length}
use Rattle.x86emu_c.specs.Regions.{region_of}
use Rattle.x86emu_c.proofs.create.copied.Given as goal

abbrev pub invariant-loop-region : goal.invariant-loop-region
invariant-loop-region l = record {
  so_far : l.list.items ++ map region_of (drop l.region-index l.regions) ≡ map region_of l.regions;
  count : length l.list.items ≡ l.region-index;
}
