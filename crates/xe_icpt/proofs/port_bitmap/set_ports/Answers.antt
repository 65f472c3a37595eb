use Rattle.std.proofs.Common.{◌<◌, ◌≤◌, ◌*◌, ◌%◌, ◌∙◌, arith, length, length-set, get_or, bit_or}
use Rattle.xe_icpt.specs.PortBitmap.{port_bit}
use Rattle.xe_icpt.proofs.PortLaws.{set-word, bits-start, bits-end, ports-added}
use Rattle.xe_icpt.proofs.port_bitmap.set_ports.Goals as goal

pub loop-word-init : goal.loop-word-init
loop-word-init c = record {
  size = c.told-ports;
  bits = λ port h. bits-start (port_bit c.args.ports.now port) c.args.low c.args.high port;
}

pub loop-word-preserved : goal.loop-word-preserved
loop-word-preserved c =
    let n = c.loop-word.invariant.size in
    let fits : c.loop-word.word < length c.loop-word.ports = omega arith in
    let up : 64 * c.loop-word.word ≤ c.args.high = omega arith in
    record {
      size = length-set c.loop-word.ports c.loop-word.word (bit_or (get_or c.loop-word.ports c.loop-word.word 0) c.mask.result) ∙ n;
      bits = λ port h. set-word (port_bit c.args.ports.now port) c.loop-word.ports c.args.low c.args.high c.loop-word.word port c.mask.result fits up (rw (← c.saturating_sub.ensures, ← c.min-to.ensures) (c.mask.ensures (port % 64) (omega arith))) (c.loop-word.invariant.bits port h);
    }

pub returns : goal.returns
returns c = ports-added c.args.ports.now c.loop-word.ports c.args.low c.args.high c.requires (omega arith) (λ port h. c.loop-word.invariant.bits port h ∙ bits-end (port_bit c.args.ports.now port) c.args.low c.args.high port c.loop-word.word (omega arith))
