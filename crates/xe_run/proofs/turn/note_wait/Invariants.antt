use Rattle.std.proofs.Common.{◌≡◌, ℕ, ◌+◌, ◌-◌, ◌≤◌, length}
use Rattle.xe_run.specs.Reported.{count_at}
use Rattle.xe_run.proofs.turn.note_wait.Given as goal

abbrev pub invariant-ready : goal.invariant-ready
invariant-ready l = record {
  same : (k : ℕ) → count_at l.waits.items k ≡ count_at l.fn.waits.items k;
  reached : length l.waits.items ≤ l.at + 1;
}

abbrev pub decreases-ready : goal.decreases-ready
decreases-ready l = l.at + 1 - length l.waits.items
