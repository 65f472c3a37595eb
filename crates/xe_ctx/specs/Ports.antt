use Rattle.std.specs.Prelude.{ℕ, ◌+◌, ◌/◌, ◌%◌, ◌^◌, ◌==◌, Bool, not, nat_le, nat_lt, ◌&&◌, ◌||◌, if◌then◌else◌}
use Rattle.xe_base.specs.Bits.{bit}
use Rattle.xe_base.specs.State.{mode_of}
use Rattle.xe_base.specs.declared.cpu.Cpu.{Cpu}
use Rattle.xe_base.specs.declared.segment.Seg.{Seg}
use Rattle.xe_ctx.specs.Privilege.{is_real_mode, iopl, or_protection}
use Rattle.xe_ctx.specs.Tree.{Tree, ◌>>=◌, give, load_sys}

-- Which ports a program may use (SDM volume 1, "I/O Permission Bit Map").

-- the bit map is asked: outside real mode, above the I/O privilege level
abbrev pub asks_bitmap : Cpu → Bool
asks_bitmap cpu = not (is_real_mode (mode_of cpu)) && nat_lt (iopl cpu) cpu.cpl

-- TR holds a TSS that has a bit map: present, of type 9 or 11, and its limit holds the map's offset
abbrev pub has_bitmap : Seg → Bool
has_bitmap tr = bit tr.attr 7 && ((tr.attr % 16 == 9) || (tr.attr % 16 == 11)) && nat_le 0x67 tr.limit

-- the place in the TSS of the two bytes with a port's bits, where its map begins there
abbrev pub bits_place : ℕ → ℕ → ℕ
bits_place map port = map + port / 8

-- none of the bits of the access is set, from that of the port on; the two bytes hold them all
abbrev pub are_clear : ℕ → ℕ → ℕ → Bool
are_clear bits port size = bits / 2 ^ (port % 8) % 2 ^ size == 0

-- the two bytes at a place of the TSS
abbrev pub tss_word : Cpu → ℕ → Tree ℕ
tss_word cpu at = load_sys ((cpu.tr.base + at) % 2 ^ 64) 2

-- the map's offset is in bytes 66h and 67h; both bytes of the port's bits lie within the TSS
unfoldable pub by_bitmap : Cpu → ℕ → ℕ → Tree (Unit {0})
by_bitmap cpu port size = do
  _ ← or_protection cpu (has_bitmap cpu.tr)
  map ← tss_word cpu 0x66
  _ ← or_protection cpu (nat_le (bits_place (map % 2 ^ 16) port + 1) cpu.tr.limit)
  bits ← tss_word cpu (bits_place (map % 2 ^ 16) port)
  or_protection cpu (are_clear bits port size)

-- the ports from this one on, as many as the access has bytes, may be used; else #GP(0)
unfoldable pub port_allowed : Cpu → ℕ → ℕ → Tree (Unit {0})
port_allowed cpu port size = if asks_bitmap cpu then by_bitmap cpu port size else give tt
