use Rattle.std.proofs.Common.{arith}
use Rattle.std.proofs.lemmas.List.Elements.{All-push}
use Rattle.std.proofs.lemmas.Result.{err_from_is_err_and}
use Rattle.xe_scene.specs.Formed.{IsItemFor}
use Rattle.xe_scene.proofs.WordLaws.{items_step, items_stop, items_end}
use Rattle.xe_scene.proofs.words.items_of.Goals as goal

pub returns-in_err-item_of-clause-value : goal.returns-in_err-item_of-clause-value
returns-in_err-item_of-clause-value c =
    let p = err_from_is_err_and c.from_residual.result c.from_residual.ensures.1 in
    rw (p.1, p.2) (items_stop c.args.space (λ w. w.now) c.args.words.now _ c.loop-word.word-index c.loop-word.items.items c.in_err-item_of.field-0.0 _ c.loop-word-test.true c.in_err-item_of.ensures.value c.loop-word.invariant.so_far)

pub loop-word-preserved : goal.loop-word-preserved
loop-word-preserved c = record {
  so_far = rw c.push.ensures.items (items_step c.args.space (λ w. w.now) c.args.words.now _ c.loop-word.word-index c.loop-word.items.items c.in_ok-item_of.field-0 _ c.loop-word-test.true c.in_ok-item_of.ensures.value c.loop-word.invariant.so_far);
  count = omega (arith, c.push.ensures.len, c.loop-word.invariant.count);
  formed = rw c.push.ensures.items (All-push (IsItemFor c.args.space) c.loop-word.items.items c.in_ok-item_of.field-0 c.loop-word.invariant.formed c.in_ok-item_of.ensures.formed);
}

pub returns-clause-value : goal.returns-clause-value
returns-clause-value c = items_end c.args.space (λ w. w.now) c.args.words.now c.loop-word.word-index c.loop-word.items.items _ (omega arith) c.loop-word.invariant.so_far
