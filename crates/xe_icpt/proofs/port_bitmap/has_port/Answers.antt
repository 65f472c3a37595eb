use Rattle.std.proofs.Common.{sym, arith}
use Rattle.std.proofs.lemmas.Nat.Bits.{shr_and_one}
use Rattle.xe_icpt.specs.PortBitmap.{port_bit}
use Rattle.xe_icpt.proofs.PortLaws.{contains-ports}
use Rattle.xe_icpt.proofs.port_bitmap.has_port.Goals as goal

pub returns : goal.returns
unfolding port_bit
returns c = rw shr_and_one (sym (contains-ports c.args.ports.now c.args.port (omega arith)))
