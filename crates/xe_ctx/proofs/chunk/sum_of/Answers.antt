use Rattle.std.proofs.Common.{arith, refl, ◌≡◌, length}
use Rattle.std.proofs.lemmas.List.{drop_all}
use Rattle.xe_base.specs.Bytes.{num}
use Rattle.xe_base.proofs.Bytes.{num-nil, num-below, fits-more}
use Rattle.xe_ctx.proofs.chunk.sum_of.Goals as goal

pub down-init : goal.down-init
down-init c = record { in_range = omega arith; is = rw (drop_all (length c.args.bytes.now) c.args.bytes.now (omega arith), num-nil) refl }

pub overflow_mul-number : goal.overflow_mul-number
overflow_mul-number c =
    let f = fits-more c.args.bytes.now c.down.at c.down.number (λ k. let t = c.type_inv.bytes k in omega arith) c.requires c.down-test.true c.down.invariant.in_range c.down.invariant.is in
    omega arith

pub overflow_add-number : goal.overflow_add-number
overflow_add-number c =
    let f = fits-more c.args.bytes.now c.down.at c.down.number (λ k. let t = c.type_inv.bytes k in omega arith) c.requires c.down-test.true c.down.invariant.in_range c.down.invariant.is in
    omega arith

pub returns-clause-below : goal.returns-clause-below
returns-clause-below c =
    let z : c.down.at ≡ 0 = omega arith in
    let e : c.down.number ≡ num c.args.bytes.now = rw z at c.down.invariant.is in
    rw e (num-below c.args.bytes.now (λ k. let t = c.type_inv.bytes k in omega arith))
