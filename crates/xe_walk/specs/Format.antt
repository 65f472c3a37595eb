use Rattle.std.specs.Prelude.{ℕ, ◌+◌, ◌-◌, ◌*◌, ◌/◌, ◌%◌, ◌^◌, ◌≡◌, ◌≤◌, ◌⊎◌, List, [], ◌∷◌, Bool, true, false, not, ◌&&◌, ◌||◌, ◌==◌, if◌then◌else◌, bit_and}
use Rattle.xe_base.specs.Bits.{bit}
use Rattle.xe_base.specs.State.{pae, lma}
use Rattle.xe_base.specs.declared.cpu.Cpu.{Cpu}
use Rattle.xe_walk.specs.declared.format.Level.{Level}

-- The formats of page tables (SDM volume 3, "Paging"), with 40 bits of a physical address. A format is a list of levels: a further level is
-- one more line.

-- CR4.PSE: 32-bit paging has pages of 4 MiB
abbrev pub pse : Cpu → Bool
pse cpu = bit cpu.cr4 4

-- EFER.NXE: entries of 8 bytes have an execute-disable bit
abbrev pub nxe : Cpu → Bool
nxe cpu = bit cpu.efer 11

-- the bits from low to high
abbrev pub bits : ℕ → ℕ → ℕ
bits high low = 2 ^ (high + 1) - 2 ^ low

-- some bit of the mask is set
abbrev pub has_any : ℕ → ℕ → Bool
has_any mask x = not (bit_and x mask == 0)

-- the bits from low on and below another, in their places
abbrev pub field : ℕ → ℕ → ℕ → ℕ
field below low x = x % 2 ^ below / 2 ^ low * 2 ^ low

-- ---- levels (SDM volume 3, "32-Bit Paging", "PAE Paging", "4-Level Paging and 5-Level Paging")

-- linear address bits 31:22 and 21:12. An entry with PS set maps 4 MiB where PSE is 1; PSE-36 is not supported, so its bits 21:13 are reserved
abbrev pub levels_32 : Bool → List Level
levels_32 large =
    record { shift = 22; index_bits = 10; size = 4; address_bits = 32; has_large = large; reserved = 0; reserved_large = bits 21 13 }
    ∷ record { shift = 12; index_bits = 10; size = 4; address_bits = 32; has_large = false; reserved = 0; reserved_large = 0 }
    ∷ []

-- 31:30, 29:21 and 20:12. The first are directory pointers
abbrev pub levels_pae : List Level
levels_pae =
    record { shift = 30; index_bits = 2; size = 8; address_bits = 40; has_large = false; reserved = bits 63 52 + bits 51 40 + bits 8 5 + bits 2 1; reserved_large = 0 }
    ∷ record { shift = 21; index_bits = 9; size = 8; address_bits = 40; has_large = true; reserved = bits 62 52 + bits 51 40; reserved_large = bits 20 13 }
    ∷ record { shift = 12; index_bits = 9; size = 8; address_bits = 40; has_large = false; reserved = bits 62 52 + bits 51 40; reserved_large = 0 }
    ∷ []

-- 47:39, 38:30, 29:21 and 20:12
abbrev pub levels_4 : List Level
levels_4 =
    record { shift = 39; index_bits = 9; size = 8; address_bits = 40; has_large = false; reserved = bits 51 40 + bits 7 7; reserved_large = 0 }
    ∷ record { shift = 30; index_bits = 9; size = 8; address_bits = 40; has_large = true; reserved = bits 51 40; reserved_large = bits 29 13 }
    ∷ record { shift = 21; index_bits = 9; size = 8; address_bits = 40; has_large = true; reserved = bits 51 40; reserved_large = bits 20 13 }
    ∷ record { shift = 12; index_bits = 9; size = 8; address_bits = 40; has_large = false; reserved = bits 51 40; reserved_large = 0 }
    ∷ []

-- PAE without long mode
abbrev pub pae_format : Cpu → Bool
pae_format cpu = not (lma cpu) && pae cpu

-- the levels of the format in force, from the top
unfoldable pub levels_of : Cpu → List Level
levels_of cpu = if lma cpu then levels_4 else (if pae cpu then levels_pae else levels_32 (pse cpu))

-- how many of these levels, from the top, have directory pointers: entries without RW, US, A, D and XD
abbrev pub pointers_of : Cpu → ℕ
pointers_of cpu = if pae_format cpu then 1 else 0

-- the first address of the top table
unfoldable pub root_of : Cpu → ℕ
root_of cpu = if lma cpu then field 40 12 cpu.cr3 else (if pae cpu then field 32 5 cpu.cr3 else field 32 12 cpu.cr3)

-- ---- entries of a level

-- the address of the entry for a linear address in the table that begins there; an entry stands for 2 ^ shift bytes
abbrev pub place : Level → ℕ → ℕ → ℕ
place level table la = table + la / 2 ^ level.shift % 2 ^ level.index_bits * level.size

-- the address that an entry holds, from the bit low on
abbrev pub frame : Level → ℕ → ℕ → ℕ
frame level low entry = field level.address_bits low entry

-- the entry maps a page of 2 ^ shift bytes, larger than 4 KiB: PS is set, where the level has such pages
abbrev pub is_large : Level → ℕ → Bool
is_large level entry = level.has_large && bit entry 7

-- a reserved bit is set: one of the level's, one of a large page's, or XD where NXE is 0
abbrev pub has_reserved : Cpu → Level → ℕ → Bool
has_reserved cpu level entry =
    has_any level.reserved entry || (is_large level entry && has_any level.reserved_large entry) || (level.size == 8 && not (nxe cpu) && bit entry 63)

-- what all levels have: tables of at most a page, and widths within an address
pub record IsLevel (level : Level) : Type 0 where
  pub size : (level.size ≡ 4) ⊎ (level.size ≡ 8)
  pub table : 2 ^ level.index_bits * level.size ≤ 4096
  pub index_bits : level.index_bits ≤ 10
  pub shift : level.shift ≤ 48
  pub address_bits : (level.address_bits ≡ 32) ⊎ (level.address_bits ≡ 40)
  pub large : level.has_large ≡ true → (level.shift ≡ 21) ⊎ (level.shift ≡ 22) ⊎ (level.shift ≡ 30)
