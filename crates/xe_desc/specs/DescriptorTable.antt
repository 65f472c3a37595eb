use Rattle.std.specs.Prelude.{ℕ, Bool, not, ◌+◌, ◌-◌, ◌%◌, ◌^◌, ◌&&◌, nat_le, if◌then◌else◌}
use Rattle.xe_base.specs.Bits.{bit}
use Rattle.xe_base.specs.Exceptions.{general_protection}
use Rattle.xe_base.specs.declared.cpu.Cpu.{Cpu}
use Rattle.xe_seg.specs.Descriptors.{field, s_of}
use Rattle.xe_seg.specs.Loads.{selector_fault}
use Rattle.xe_seg.specs.declared.descriptor.Descriptor.{Descriptor}
use Rattle.xe_ctx.specs.Tree.{Tree, ◌>>=◌, give, fault, load_sys, store_sys}

-- Descriptor tables (SDM volume 3, "Segment Selectors", "Segment Descriptor Tables" and "Segment Descriptors").

-- TI: the selector names a descriptor of the LDT, and otherwise one of the GDT
abbrev pub is_local : ℕ → Bool
is_local sel = bit sel 2

-- where a descriptor begins in its table
abbrev pub offset_in_table : ℕ → ℕ
offset_in_table sel = sel - sel % 8

-- the linear address of its first byte
abbrev pub descriptor_address : Cpu → ℕ → ℕ
descriptor_address cpu sel = ((if is_local sel then cpu.ldtr.base else cpu.gdtr.base) + offset_in_table sel) % 2 ^ 64

-- so many bytes from there on lie in the table, which has one byte more than its limit says; an LDT that isn't present has none
abbrev pub is_in_table : Cpu → ℕ → ℕ → Bool
is_in_table cpu sel n =
    if is_local sel then bit cpu.ldtr.attr 7 && nat_le (offset_in_table sel + n) (cpu.ldtr.limit + 1)
    else nat_le (offset_in_table sel + n) (cpu.gdtr.limit + 1)

-- the descriptor of a selector, where it is known to lie in its table
unfoldable pub fetch_descriptor : Cpu → ℕ → Tree Descriptor
fetch_descriptor cpu sel = do
  raw ← load_sys (descriptor_address cpu sel) 8
  give (record { raw = raw })

-- the descriptor of a selector; past its table it is #GP(selector)
unfoldable pub read_descriptor : Cpu → ℕ → Tree Descriptor
read_descriptor cpu sel = if is_in_table cpu sel 8 then fetch_descriptor cpu sel else fault (selector_fault cpu general_protection sel)

-- byte 5 of a descriptor: type, S, DPL and P
abbrev pub access_byte : Descriptor → ℕ
access_byte d = field d.raw 40 8

-- the segment's descriptor hasn't the accessed bit, type bit 0, yet
abbrev pub is_fresh : Descriptor → Bool
is_fresh d = s_of d && not (bit d.raw 40)

-- byte 5 as it was read, with the accessed bit
abbrev pub accessed_byte : Descriptor → ℕ
accessed_byte d = access_byte d - access_byte d % 2 + 1

-- the accessed bit is set where a code or data segment hasn't it
unfoldable pub mark_accessed : Cpu → ℕ → Descriptor → Tree (Unit {0})
mark_accessed cpu sel d = if is_fresh d then store_sys ((descriptor_address cpu sel + 5) % 2 ^ 64) 1 (accessed_byte d) else give tt
