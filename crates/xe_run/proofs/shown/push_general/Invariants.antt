use Rattle.std.proofs.Common.{◌≡◌, ◌+◌, ◌*◌, ◌≤◌, ◌++◌, length, codes}
use Rattle.std.specs.List.{flat_map, range_with_len}
use Rattle.xe_run.specs.Shown.{general_shown}
use Rattle.xe_run.proofs.shown.push_general.Given as goal

abbrev pub invariant-loop-number : goal.invariant-loop-number
invariant-loop-number l = record {
  text : l.line ≡ (l.fn.line ++ codes "gpr") ++ flat_map (general_shown l.gpr) (range_with_len 0 l.number);
  len : length l.line ≤ length l.fn.line + 3 + 22 * l.number;
}
