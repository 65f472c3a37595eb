use Rattle.std.proofs.Common.{◌≡◌, ◌≤◌, ◌+◌, length, take, drop, true}
use Rattle.xe_mem.specs.Layout.{follow, end_behind}
use Rattle.xe_mem.proofs.search.find.Given as goal

abbrev pub decreases-loop-count : goal.decreases-loop-count
decreases-loop-count l = l.count

abbrev pub invariant-loop-count : goal.invariant-loop-count
invariant-loop-count l = record {
  within : l.first + l.count ≤ length l.regions;
  none : l.count ≡ 0 → length l.regions ≡ 0;
  front : end_behind 0 (take l.first l.regions) ≤ l.pa;
  behind : follow (l.pa + 1) (drop (l.first + l.count) l.regions) ≡ true;
}
