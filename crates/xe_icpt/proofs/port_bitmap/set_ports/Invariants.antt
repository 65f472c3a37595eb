use Rattle.std.proofs.Common.{◌≡◌, ◌<◌, ◌/◌, ◌||◌, ◌&&◌, ℕ, nat_le, nat_lt, length}
use Rattle.xe_icpt.specs.PortBitmap.{port_bit}
use Rattle.xe_icpt.proofs.port_bitmap.set_ports.Given as goal

abbrev pub invariant-loop-word : goal.invariant-loop-word
invariant-loop-word l = record {
  size : length l.ports ≡ 1024;
  bits : (port : ℕ) → port < 65536 → port_bit l.ports port ≡ (port_bit l.fn.ports port || (nat_le l.low port && (nat_le port l.high && nat_lt (port / 64) l.word)));
}
