use Rattle.std.proofs.Common.{sym, arith}
use Rattle.xe_base.proofs.Ram.{bytes-none}
use Rattle.xe_ctx.specs.Work.{patched, expand}
use Rattle.xe_ctx.proofs.Changes.{byte-pushed, one-are}
use Rattle.xe_ctx.proofs.overlay.push_bytes.Goals as goal

pub loop-i-init : goal.loop-i-init
loop-i-init c = record { room = omega arith; is = λ ram. sym (bytes-none (patched ram (expand c.args.runs.now.items)) c.args.pa); in_ram_ = λ ram h all. all }

pub loop-i-preserved : goal.loop-i-preserved
loop-i-preserved c = record {
  room = omega (arith, c.push_number.ensures.room, c.loop-i.invariant.room);
  is = λ ram. byte-pushed (patched ram (expand c.args.runs.now.items)) _ _ c.args.pa c.args.bytes.now c.loop-i.i c.loop-i-test.true (let t = c.type_inv.bytes c.loop-i.i in omega arith) (rw c.from.ensures at (c.push_number.ensures.is ram)) (c.loop-i.invariant.is ram);
  in_ram_ = λ ram are all. c.push_number.ensures.in_ram ram (one-are ram c.args.pa _ c.loop-i.i are c.loop-i-test.true) (c.loop-i.invariant.in_ram_ ram are all);
}
