use Rattle.std.proofs.Common.{◌≡◌, drop, length}
use Rattle.std.specs.List.{slice_split}
use Rattle.xe_scene.specs.Scene.{lines_say, nothing, is_newline}
use Rattle.xe_scene.proofs.text.read_lines.Given as goal

abbrev pub invariant-loop-line : goal.invariant-loop-line
invariant-loop-line l = record {
  so_far : lines_say l.before l.reader (drop l.before (slice_split is_newline l.bytes)) ≡ lines_say 0 nothing (slice_split is_newline l.bytes);
  count : l.before ≡ length l.yielded;
}
