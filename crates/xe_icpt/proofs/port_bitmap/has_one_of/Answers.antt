use Rattle.std.proofs.Common.{◌∙◌, sym}
use Rattle.xe_icpt.specs.PortBitmap.{ports_of}
use Rattle.xe_icpt.proofs.PortLaws.{none-yet, none-more, one-found}
use Rattle.xe_icpt.proofs.port_bitmap.has_one_of.Goals as goal

pub loop-k-init : goal.loop-k-init
loop-k-init c = none-yet (ports_of c.args.ports.now) c.args.port

pub returns-then-has_port : goal.returns-then-has_port
returns-then-has_port c = sym (one-found (ports_of c.args.ports.now) c.args.port c.loop-k.k c.args.size c.loop-k-test.true (sym c.has_port.ensures ∙ c.if-has_port.true))

pub loop-k-preserved : goal.loop-k-preserved
loop-k-preserved c = none-more (ports_of c.args.ports.now) c.args.port c.loop-k.k (sym c.has_port.ensures ∙ c.if-has_port.false) c.loop-k.invariant
