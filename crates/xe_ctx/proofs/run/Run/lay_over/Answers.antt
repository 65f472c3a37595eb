use Rattle.std.proofs.Common.{◌≡◌, ◌∙◌, inl, inr, refl, arith, length, take}
use Rattle.std.proofs.lemmas.List.{length-set, take_all}
use Rattle.xe_base.specs.Bytes.{le}
use Rattle.xe_base.proofs.Ram.{bytes-none}
use Rattle.xe_ctx.proofs.Numbers.{size-small}
use Rattle.xe_ctx.proofs.Changes.{lay-in, lay-out}
use Rattle.xe_ctx.proofs.run.Run.lay_over.Goals as goal
use Rattle.xe_ctx.proofs.run.Run.lay_over.Goals.{then-pa-at+then-at-pa, else-pa-at, else-pa-at-via-then-pa-at+else-at-pa, else-pa-at-via-else-pa-at}

pub loop-i-init : goal.loop-i-init
loop-i-init c = record { len = refl; is = λ ram are e. rw (bytes-none ram c.args.self.now.at) e }

pub loop-i-preserved : goal.loop-i-preserved
loop-i-preserved c =
    elim c.if-pa-at.branch [
      | then-pa-at+then-at-pa w ↦ record {
        len = rw w.out-is (length-set c.loop-i.out _ _ ∙ c.loop-i.invariant.len);
        is = λ ram are e. w.out-is ∙ lay-in ram c.args.self.now.at (take c.args.self.now.size c.all_bytes-all.result) c.loop-i.i c.args.pa (length c.args.out.now) c.loop-i.out c.loop-i-test.true are w.if-pa-at.true (omega (arith, w.if-at-pa.true, c.loop-i.invariant.len)) (c.loop-i.invariant.is ram are e);
      }
      | else-pa-at w ↦ record {
        len = rw w.out-is c.loop-i.invariant.len;
        is = λ ram are e. w.out-is ∙ lay-out ram c.args.self.now.at (take c.args.self.now.size c.all_bytes-all.result) c.loop-i.i c.args.pa (length c.args.out.now) c.loop-i.out c.loop-i-test.true (elim w.else-pa-at.branch [
          | else-pa-at-via-then-pa-at+else-at-pa u ↦ inr (omega (arith, u.if-pa-at.true, u.if-at-pa.false, c.loop-i.invariant.len))
          | else-pa-at-via-else-pa-at u ↦ inl u.if-pa-at.false
        ]) (c.loop-i.invariant.is ram are e);
      }
    ]

pub returns : goal.returns
returns c = λ ram are e.
    let small = size-small c.args.self.now.size c.args.self.now.sized in
    let bytes : take c.args.self.now.size c.all_bytes-all.result ≡ le c.args.self.now.size c.args.self.now.value = c.all_bytes-all.ensures c.args.self.now.size small in
    let whole = take_all c.loop-i.i (take c.args.self.now.size c.all_bytes-all.result) c.loop-i-test.false in
    rw (← bytes) (rw whole at (c.loop-i.invariant.is ram are e))
