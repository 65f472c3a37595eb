use Rattle.std.proofs.Common.{◌≡◌, ◌≤◌, ◌+◌, ◌*◌, ◌-◌, ◌∙◌, ◌⊎◌, sym, inl, inr, arith, length}
use Rattle.xe_mem.proofs.MoveLaws.{up-whole, up-step, up-none, paste-sets, part-in}
use Rattle.xe_mem.proofs.moves.move_up.Goals as goal
use Rattle.xe_mem.proofs.moves.move_up.Goals.{then-to-from-via-then-to-from, then-to-from-via-else-to-from+then-from-len}

pub returns-then-to-from : goal.returns-then-to-from
returns-then-to-from c =
    let apart : (c.args.to ≤ c.args.from) ⊎ (c.args.from + c.args.unit * c.args.count ≤ c.args.to) = elim c.then-to-from.branch [
      | then-to-from-via-then-to-from w ↦ inl w.if-to-from.true
      | then-to-from-via-else-to-from+then-from-len w ↦ inr w.if-from-len.true
    ] in
    let m : c.args.from + c.args.unit * c.args.count - c.args.from ≡ c.args.unit * c.args.count = omega arith in
    c.copy_within.ensures.after ∙ paste-sets c.args.bytes.now c.args.to c.args.from (c.args.unit * c.args.count) _ c.requires.to c.requires.from m ∙ sym (up-whole c.args.count c.args.bytes.now c.args.to c.args.from c.args.unit c.requires.to c.requires.from apart)

pub loop-k-preserved : goal.loop-k-preserved
loop-k-preserved c =
    let p = part-in c.args.unit c.loop-k.k c.args.count c.loop-k-test.true in
    let len = c.loop-k.auto.bytes in
    let t : c.args.to + c.args.unit * c.loop-k.k + c.args.unit ≤ length c.loop-k.bytes = omega (arith, c.requires.to) in
    let f : c.args.from + c.args.unit * c.loop-k.k + c.args.unit ≤ length c.loop-k.bytes = omega (arith, c.requires.from) in
    let m : c.args.from + c.args.unit * c.loop-k.k + c.args.unit - (c.args.from + c.args.unit * c.loop-k.k) ≡ c.args.unit = omega arith in
    rw (c.copy_within-in-loop-k.ensures.after, paste-sets c.loop-k.bytes (c.args.to + c.args.unit * c.loop-k.k) (c.args.from + c.args.unit * c.loop-k.k) c.args.unit _ t f m) (up-step c.loop-k.bytes c.args.to c.args.from c.args.unit c.args.count c.loop-k.k c.loop-k-test.true ∙ c.loop-k.invariant)

pub returns : goal.returns
returns c = sym (up-none c.loop-k.bytes _ _ c.args.unit (c.args.count - c.loop-k.k) (omega arith)) ∙ c.loop-k.invariant
