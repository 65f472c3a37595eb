use Rattle.std.proofs.Common.{◌≡◌, ◌+◌, drop, true}
use Rattle.xe_mem.specs.Layout.{follow}
use Rattle.xe_mem.specs.Flat.{gap_behind}
use Rattle.xe_mem.proofs.search.pass_touching.Given as goal

abbrev pub invariant-loop-region : goal.invariant-loop-region
invariant-loop-region l = record {
  items : l.region-items ≡ drop l.index l.regions;
  same : gap_behind (drop l.region-index l.region-items) l.gap ≡ gap_behind l.regions l.from;
  behind : follow (l.gap + 1) (drop (l.region-index + 1) l.region-items) ≡ true;
}
