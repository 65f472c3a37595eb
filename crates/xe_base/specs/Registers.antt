use Rattle.std.specs.Prelude.{ℕ, Bool, not, ◌&&◌, ◌||◌, nat_le, ◌+◌, ◌*◌, ◌/◌, ◌%◌, ◌^◌, ◌-◌, ◌==◌, if◌then◌else◌, slice_index, slice_set}
use Rattle.xe_base.specs.declared.cpu.Cpu.{Cpu}
use Rattle.xe_base.specs.declared.cpu.CodeSize.{CodeSize}
use Rattle.xe_base.specs.declared.cpu.CodeSize.TheVariants.{B16, B32, B64}
use Rattle.xe_base.specs.declared.segment.Seg.{Seg}
use Rattle.xe_base.specs.declared.segment.SegName.{SegName}
use Rattle.xe_base.specs.declared.segment.SegName.TheVariants.{Es, Cs, Ss, Ds, Fs, Gs}
use Rattle.xe_base.specs.State.{code_size_of, is_long}

-- the segment register of a name
abbrev pub segment : Cpu → SegName → Seg
segment cpu Es = cpu.es
segment cpu Cs = cpu.cs
segment cpu Ss = cpu.ss
segment cpu Ds = cpu.ds
segment cpu Fs = cpu.fs
segment cpu Gs = cpu.gs

-- the instruction pointer a number of bytes further on: it wraps at 64 bits in 64-bit code, and at 32 bits elsewhere
abbrev pub rip_after : CodeSize → ℕ → ℕ → ℕ
rip_after B64 rip len = (rip + len) % 2 ^ 64
rip_after B32 rip len = (rip + len) % 2 ^ 32
rip_after B16 rip len = (rip + len) % 2 ^ 32

-- where the instruction after one of this length begins
abbrev pub next_rip : Cpu → ℕ → ℕ
next_rip cpu len = rip_after (code_size_of cpu) cpu.rip len

-- the widths of a register, in bytes
abbrev pub is_size : ℕ → Bool
is_size n = n == 1 || n == 2 || n == 4 || n == 8

-- ---- general registers at a width in bytes (SDM volume 1, "General-Purpose Registers" and "General-Purpose Registers in 64-Bit Mode")

-- without REX the numbers 4 to 7 of a byte register are AH, CH, DH and BH: bits 15:8 of the registers 0 to 3
abbrev pub is_high_byte : ℕ → Bool → ℕ → Bool
is_high_byte size has_rex index = size == 1 && (not has_rex && (nat_le 4 index && nat_le index 7))

-- the number in a register
unfoldable pub register_value : Cpu → ℕ → Bool → ℕ → ℕ
register_value cpu size has_rex index =
    if is_high_byte size has_rex index
    then slice_index cpu.gpr (index - 4) / 2 ^ 8 % 2 ^ 8
    else slice_index cpu.gpr index % 2 ^ (8 * size)

-- a number in place of the low bits of another
abbrev pub with_low : ℕ → ℕ → ℕ → ℕ
with_low bits old new = old - old % 2 ^ bits + new % 2 ^ bits

-- a byte in place of bits 15:8
abbrev pub with_high_byte : ℕ → ℕ → ℕ
with_high_byte old new = old - old / 2 ^ 8 % 2 ^ 8 * 2 ^ 8 + new % 2 ^ 8 * 2 ^ 8

-- what a register holds after a write: writes of 8 and 16 bits keep the rest; one of 32 bits clears bits 63:32 in 64-bit mode and keeps them elsewhere
abbrev pub written : Bool → ℕ → ℕ → ℕ → ℕ
written is_long size old new = if size == 4 && is_long then new % 2 ^ 32 else with_low (8 * size) old new

-- the registers with one of them written
unfoldable pub with_register : Cpu → ℕ → Bool → ℕ → ℕ → Cpu
with_register cpu size has_rex index value =
    if is_high_byte size has_rex index
    then record cpu { gpr = slice_set cpu.gpr (index - 4) (with_high_byte (slice_index cpu.gpr (index - 4)) value) }
    else record cpu { gpr = slice_set cpu.gpr index (written (is_long cpu) size (slice_index cpu.gpr index) value) }
