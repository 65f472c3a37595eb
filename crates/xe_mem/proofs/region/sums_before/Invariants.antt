use Rattle.std.proofs.Common.{◌≡◌, ℕ, ◌<◌, length, take, slice_index}
use Rattle.xe_mem.specs.Layout.{total}
use Rattle.xe_mem.proofs.region.sums_before.Given as goal

abbrev pub invariant-loop-region : goal.invariant-loop-region
invariant-loop-region l = record {
  len : length l.before.items ≡ l.region-index;
  sum : l.sum ≡ total (take l.region-index l.list);
  each : (k : ℕ) → k < l.region-index → slice_index l.before.items k ≡ total (take k l.list);
}
