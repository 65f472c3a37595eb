use Rattle.std.specs.Prelude.{ℕ, Bool, ◌+◌, ◌*◌, ◌/◌, ◌%◌, ◌^◌, if◌then◌else◌}
use Rattle.xe_base.specs.Bits.{bit}
use Rattle.xe_seg.specs.declared.descriptor.Descriptor.{Descriptor}

-- The fields of a descriptor of 8 bytes (SDM volume 3, "Segment Descriptors").

-- so many bits of a number, from the bit low on
abbrev pub field : ℕ → ℕ → ℕ → ℕ
field raw low bits = raw / 2 ^ low % 2 ^ bits

-- bits 39:16, and above them bits 63:56
abbrev pub base_of : Descriptor → ℕ
base_of d = field d.raw 16 24 + field d.raw 56 8 * 2 ^ 24

-- bits 15:0, and above them bits 51:48
abbrev pub units_of : Descriptor → ℕ
units_of d = field d.raw 0 16 + field d.raw 48 4 * 2 ^ 16

-- G: the limit counts pages of 4 KiB
abbrev pub g_of : Descriptor → Bool
g_of d = bit d.raw 55

-- the greatest offset, in bytes: with G the last byte of the page that the field names
abbrev pub limit_of : Descriptor → ℕ
limit_of d = if g_of d then units_of d * 4096 + 4095 else units_of d

-- the type
abbrev pub kind_of : Descriptor → ℕ
kind_of d = field d.raw 40 4

-- S: code or data, and otherwise a system segment or a gate
abbrev pub s_of : Descriptor → Bool
s_of d = bit d.raw 44

-- the descriptor's privilege level
abbrev pub dpl_of : Descriptor → ℕ
dpl_of d = field d.raw 45 2

-- P: present
abbrev pub present_of : Descriptor → Bool
present_of d = bit d.raw 47

-- L: code of 64 bits
abbrev pub l_of : Descriptor → Bool
l_of d = bit d.raw 53

-- DB: code, data or a stack of 32 bits
abbrev pub db_of : Descriptor → Bool
db_of d = bit d.raw 54

-- the attributes of a segment register: bits 47:40 (type, S, DPL, P), and above them bits 55:52 (AVL, L, DB, G)
abbrev pub attr_of : Descriptor → ℕ
attr_of d = field d.raw 40 8 + field d.raw 52 4 * 2 ^ 8
