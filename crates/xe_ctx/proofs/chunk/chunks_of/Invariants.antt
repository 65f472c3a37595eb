use Rattle.std.proofs.Common.{◌≡◌, ◌+◌, ◌-◌, ◌≤◌, ◌++◌}
use Rattle.xe_ctx.specs.Chunks.{chunks_from, chunks}
use Rattle.xe_ctx.proofs.chunk.chunks_of.Given as goal

abbrev pub invariant-cut : goal.invariant-cut
invariant-cut l = record {
  in_range : l.at ≤ l.n;
  is : l.all.items ++ chunks_from (l.n - l.at) (l.pa + l.at) l.at (l.n - l.at) ≡ chunks l.pa l.n;
}

abbrev pub decreases-cut : goal.decreases-cut
decreases-cut l = l.n - l.at
