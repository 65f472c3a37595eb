use Rattle.std.proofs.Common.{◌≡◌, take, true}
use Rattle.xe_mem.specs.Layout.{follow, end_behind}
use Rattle.xe_mem.proofs.region.first_bad.Given as goal

abbrev pub invariant-loop-i : goal.invariant-loop-i
invariant-loop-i l = record {
  front : follow 0 (take l.i l.list) ≡ true;
  low : l.low ≡ end_behind 0 (take l.i l.list);
}
