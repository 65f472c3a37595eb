use Rattle.std.proofs.Common.{◌≡◌, ◌+◌, ◌-◌, ◌≤◌, vec_len}
use Rattle.xe_scene.specs.Scene.{text_most}
use Rattle.xe_run.specs.Told.{preceded_by}
use Rattle.xe_run.proofs.whole_text.read_text.Given as goal

abbrev pub invariant-loop-piece : goal.invariant-loop-piece
invariant-loop-piece g l = record {
  taken : g.S.Source.left l.fn.src ≡ preceded_by l.text.items (g.S.Source.left l.src);
  bounded : vec_len l.text ≤ text_most + 1;
  count : g.S.Source.faults l.fn.src ≤ g.S.Source.faults l.src;
}

abbrev pub decreases-loop-piece : goal.decreases-loop-piece
decreases-loop-piece g l = (text_most + 1) - vec_len l.text
