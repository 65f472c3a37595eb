use Rattle.std.proofs.Common.{◌≡◌, ◌<◌, ◌≤◌, ◌+◌, ◌*◌, ◌-◌, ◌∙◌, ◌⊎◌, sym, inl, inr, arith, length}
use Rattle.xe_mem.proofs.MoveLaws.{down-whole, down-step, down-none, paste-sets, part-in}
use Rattle.xe_mem.proofs.moves.move_down.Goals as goal
use Rattle.xe_mem.proofs.moves.move_down.Goals.{then-from-to-via-then-from-to, then-from-to-via-else-from-to+then-to-len}

pub returns-then-from-to : goal.returns-then-from-to
returns-then-from-to c =
    let apart : (c.args.from ≤ c.args.to) ⊎ (c.args.to + c.args.unit * c.args.count ≤ c.args.from) = elim c.then-from-to.branch [
      | then-from-to-via-then-from-to w ↦ inl w.if-from-to.true
      | then-from-to-via-else-from-to+then-to-len w ↦ inr w.if-to-len.true
    ] in
    let m : c.args.from + c.args.unit * c.args.count - c.args.from ≡ c.args.unit * c.args.count = omega arith in
    c.copy_within.ensures.after ∙ paste-sets c.args.bytes.now c.args.to c.args.from (c.args.unit * c.args.count) _ c.requires.to c.requires.from m ∙ sym (down-whole c.args.count c.args.bytes.now c.args.to c.args.from c.args.unit c.requires.to c.requires.from apart)

pub loop-left-preserved : goal.loop-left-preserved
loop-left-preserved c =
    let b : c.loop-left.left - 1 < c.args.count = omega (arith, c.loop-left-test.true, c.loop-left.invariant.few) in
    let p = part-in c.args.unit (c.loop-left.left - 1) c.args.count b in
    let len = c.loop-left.auto.bytes in
    let t : c.args.to + c.args.unit * (c.loop-left.left - 1) + c.args.unit ≤ length c.loop-left.bytes = omega (arith, c.requires.to) in
    let f : c.args.from + c.args.unit * (c.loop-left.left - 1) + c.args.unit ≤ length c.loop-left.bytes = omega (arith, c.requires.from) in
    let m : c.args.from + c.args.unit * (c.loop-left.left - 1) + c.args.unit - (c.args.from + c.args.unit * (c.loop-left.left - 1)) ≡ c.args.unit = omega arith in
    record {
      few = omega arith;
      moves = rw (c.copy_within-in-loop-left.ensures.after, paste-sets c.loop-left.bytes (c.args.to + c.args.unit * (c.loop-left.left - 1)) (c.args.from + c.args.unit * (c.loop-left.left - 1)) c.args.unit _ t f m) (down-step c.loop-left.bytes c.args.to c.args.from c.args.unit c.loop-left.left c.loop-left-test.true ∙ c.loop-left.invariant.moves);
    }

pub returns : goal.returns
returns c = sym (down-none c.loop-left.bytes c.args.to c.args.from c.args.unit c.loop-left.left (omega arith)) ∙ c.loop-left.invariant.moves
