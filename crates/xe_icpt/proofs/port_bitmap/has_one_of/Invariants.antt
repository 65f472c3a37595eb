use Rattle.std.proofs.Common.{◌≡◌, false}
use Rattle.xe_icpt.specs.PortBitmap.{ports_of}
use Rattle.xe_icpt.specs.Ports.{has_one_of}
use Rattle.xe_icpt.proofs.port_bitmap.has_one_of.Given as goal

abbrev pub invariant-loop-k : goal.invariant-loop-k
invariant-loop-k l = has_one_of (ports_of l.ports) l.port l.k ≡ false
