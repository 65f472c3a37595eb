use Rattle.std.proofs.Common.{◌≡◌, ◌+◌, ◌*◌, ◌≤◌, ◌++◌, length}
use Rattle.std.specs.List.{flat_map, range_with_len}
use Rattle.xe_run.specs.Changes.{general_change}
use Rattle.xe_run.proofs.changes.push_general.Given as goal

abbrev pub invariant-loop-number : goal.invariant-loop-number
invariant-loop-number l = record {
  text : l.line ≡ l.fn.line ++ flat_map (general_change l.old l.new) (range_with_len 0 l.number);
  len : length l.line ≤ length l.fn.line + 22 * l.number;
}
