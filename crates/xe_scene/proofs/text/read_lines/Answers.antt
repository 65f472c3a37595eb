use Rattle.std.proofs.Common.{length, arith, rules, tests, ◌∙◌, sym, ap, Ok, ◌≤◌}
use Rattle.std.proofs.lemmas.Iterator.Consumers.{YieldsList-turn, YieldsList-end}
use Rattle.std.proofs.lemmas.Iterator.Splits.{YieldsList-from_slice_split}
use Rattle.std.proofs.lemmas.List.{length_push}
use Rattle.std.specs.List.{slice_split}
use Rattle.xe_scene.specs.Content.{Content}
use Rattle.xe_scene.specs.Scene.{is_newline}
use Rattle.xe_scene.proofs.SceneLaws.{lines_step, lines_stop, lines_end}
use Rattle.xe_scene.proofs.text.read_lines.Goals as goal

pub loop-line-preserved : goal.loop-line-preserved
loop-line-preserved c =
    let t = YieldsList-turn (YieldsList-from_slice_split _ is_newline c.args.bytes.now (cc) (cc) (cc) (λ x b q k. search (rules, tests))) c.loop-line.yielded _ c.loop-line.yielded_by _ _ c.in-Some.line c.in-Some.is c.next.ensures.steps in
    let n = rw (← c.loop-line.invariant.count) at t in
    record {
      so_far = lines_step (slice_split is_newline c.args.bytes.now) c.loop-line.before c.loop-line.reader c.line_after.new.reader c.in-Some.line.now _ n.0 n.1 c.in-Ok.ensures c.loop-line.invariant.so_far;
      count = omega (arith, c.loop-line.invariant.count, length_push c.loop-line.yielded c.in-Some.line);
    }

pub returns-in-Err-clause-lines : goal.returns-in-Err-clause-lines
returns-in-Err-clause-lines c =
    let t = YieldsList-turn (YieldsList-from_slice_split _ is_newline c.args.bytes.now (cc) (cc) (cc) (λ x b q k. search (rules, tests))) c.loop-line.yielded _ c.loop-line.yielded_by _ _ c.in-Some.line c.in-Some.is c.next.ensures.steps in
    let n = rw (← c.loop-line.invariant.count) at t in
    rw c.at_line.ensures (lines_stop (slice_split is_newline c.args.bytes.now) c.loop-line.before c.loop-line.reader c.line_after.new.reader c.in-Some.line.now c.in-Err.fault _ n.0 n.1 c.in-Err.ensures c.loop-line.invariant.so_far)

pub returns-clause-lines : goal.returns-clause-lines
returns-clause-lines c =
    let t = YieldsList-end (YieldsList-from_slice_split _ is_newline c.args.bytes.now (cc) (cc) (cc) (λ x b q k. search (rules, tests))) c.loop-line.yielded _ c.loop-line.yielded_by _ _ c.in-None.is c.next.ensures.steps in
    let past : length (slice_split is_newline c.args.bytes.now) ≤ c.loop-line.before = omega (arith, t.1, c.loop-line.invariant.count) in
    lines_end (slice_split is_newline c.args.bytes.now) c.loop-line.before c.loop-line.reader _ past c.loop-line.invariant.so_far ∙ ap (λ (d : Content). Ok d) (sym c.into_scene.ensures.content)
