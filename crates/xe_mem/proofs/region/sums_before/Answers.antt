use Rattle.std.proofs.Common.{◌+◌, ◌∙◌, [], ◌∷◌, sym, ap, arith, get_or, length, length-append}
use Rattle.xe_mem.specs.declared.region.Region.{Region}
use Rattle.xe_mem.proofs.FlatLaws.{total-nil}
use Rattle.xe_mem.proofs.SearchLaws.{total-more, sums-push}
use Rattle.xe_mem.proofs.region.sums_before.Goals as goal

none : Region
none = record { start = 0; len = 0 }

pub loop-region-init : goal.loop-region-init
loop-region-init c = record { len = ap length c.new-before.ensures; sum = sym total-nil; each = λ k h. absurd (omega arith) }

pub overflow_add-sum : goal.overflow_add-sum
unfolding none
overflow_add-sum c =
    let m = total-more c.args.list.now c.loop-region.region-index none c.loop-region-test.true in
    omega (arith, m.0, m.1, c.loop-region.invariant.sum, c.requires.small)

pub loop-region-preserved : goal.loop-region-preserved
unfolding none
loop-region-preserved c =
    let i = c.loop-region.invariant in
    let m = total-more c.args.list.now c.loop-region.region-index none c.loop-region-test.true in
    record {
      len = omega (arith, ap length c.push.ensures.items, length-append c.loop-region.before.items (c.loop-region.sum ∷ []), i.len);
      sum = ap (λ n. n + (get_or c.args.list.now c.loop-region.region-index none).len) i.sum ∙ sym m.0;
      each = rw c.push.ensures.items (sums-push c.args.list.now c.loop-region.before.items c.loop-region.sum c.loop-region.region-index i.len i.sum i.each);
    }
