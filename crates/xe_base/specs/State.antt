use Rattle.std.specs.Prelude.{ℕ, Bool, not, ◌^◌, ◌==◌, ◌||◌, ◌&&◌, nat_lt, nat_le, if◌then◌else◌, Option, Some, None, Result, Ok, Err, ◌≡◌}
use Rattle.xe_base.specs.Bits.{bit, only, canonical}
use Rattle.xe_base.specs.declared.cpu.Cpu.{Cpu}
use Rattle.xe_base.specs.declared.cpu.Mode.{Mode}
use Rattle.xe_base.specs.declared.cpu.Mode.TheVariants.{Real, Protected, Compat, Long}
use Rattle.xe_base.specs.declared.cpu.CodeSize.{CodeSize}
use Rattle.xe_base.specs.declared.cpu.CodeSize.TheVariants.{B16, B32, B64}
use Rattle.xe_base.specs.declared.cpu.BadState.{BadState}
use Rattle.xe_base.specs.declared.segment.Seg.{Seg}

-- ---- bits by their names (SDM volume 3, "Control Registers" and "Extended Feature Enable Register")

abbrev pub pe : Cpu → Bool
pe cpu = bit cpu.cr0 0

abbrev pub pg : Cpu → Bool
pg cpu = bit cpu.cr0 31

abbrev pub et : Cpu → Bool
et cpu = bit cpu.cr0 4

abbrev pub nw : Cpu → Bool
nw cpu = bit cpu.cr0 29

abbrev pub cd : Cpu → Bool
cd cpu = bit cpu.cr0 30

abbrev pub pae : Cpu → Bool
pae cpu = bit cpu.cr4 5

abbrev pub lme : Cpu → Bool
lme cpu = bit cpu.efer 8

abbrev pub lma : Cpu → Bool
lma cpu = bit cpu.efer 10

-- of a segment's attributes: code of 64 bits, and code, data or a stack of 32 bits
abbrev pub seg_l : Seg → Bool
seg_l s = bit s.attr 9

abbrev pub seg_db : Seg → Bool
seg_db s = bit s.attr 10

-- implication of tests
abbrev pub needs : Bool → Bool → Bool
needs a b = not a || b

-- ---- modes (SDM volume 3, "Modes of Operation")

-- 64-bit mode: long mode is active, and the code segment is one of 64-bit code
abbrev pub is_long : Cpu → Bool
is_long cpu = lma cpu && seg_l cpu.cs

abbrev pub mode_of : Cpu → Mode
mode_of cpu = if lma cpu then (if seg_l cpu.cs then Long else Compat) else (if pe cpu then Protected else Real)

abbrev pub code_size_of : Cpu → CodeSize
code_size_of cpu = if is_long cpu then B64 else (if seg_db cpu.cs then B32 else B16)

-- ---- widths of linear addresses (SDM volume 1, "Canonical Addressing")

-- in how many bits linear addresses wrap: those of accesses through segments outside 64-bit mode have 32
abbrev pub address_bits : Cpu → ℕ
address_bits cpu = if is_long cpu then 64 else 32

-- how many bits of a linear address are translated in long mode: 48, with page tables of four levels
abbrev pub linear_bits : Cpu → ℕ
linear_bits cpu = 48

-- an address that long mode can translate
abbrev pub is_canonical : Cpu → ℕ → Bool
is_canonical cpu x = canonical (linear_bits cpu) x

-- how many bits the bases of segments and tables have
abbrev pub base_bits : Cpu → ℕ
base_bits cpu = 48

-- a base that a register can hold
abbrev pub is_base : Cpu → ℕ → Bool
is_base cpu x = canonical (base_bits cpu) x

-- ---- the rules of a valid state

-- bit 1 of the flags is 1; bits 3, 5, 15, 16 (RF), 17 (VM), 19, 20 and 63:22 are 0
abbrev pub flags_are_valid : Cpu → Bool
flags_are_valid cpu = bit cpu.rflags 1 && only 0x247FD7 cpu.rflags

-- PE, MP, EM, TS, ET, NE, WP, AM, NW, CD and PG alone; ET is 1; PG needs PE; NW needs CD
abbrev pub cr0_is_valid : Cpu → Bool
cr0_is_valid cpu = only 0xE005003F cpu.cr0 && et cpu && needs (pg cpu) (pe cpu) && needs (nw cpu) (cd cpu)

-- TSD, DE, PSE, PAE, MCE, PGE, OSFXSR, OSXMMEXCPT, SMEP and SMAP alone
abbrev pub cr4_is_valid : Cpu → Bool
cr4_is_valid cpu = only 0x3006FC cpu.cr4

-- SCE, LME, LMA and NXE alone; LMA exactly where LME and PG are; LMA needs PAE
abbrev pub efer_is_valid : Cpu → Bool
efer_is_valid cpu = only 0xD01 cpu.efer && (if lme cpu && pg cpu then lma cpu else not (lma cpu)) && needs (lma cpu) (pae cpu)

-- 40 physical address bits; task priorities up to 15
abbrev pub paging_is_valid : Cpu → Bool
paging_is_valid cpu = nat_lt cpu.cr3 (2 ^ 40) && nat_le cpu.cr8 15

abbrev pub attr_is_valid : Seg → Bool
attr_is_valid s = nat_lt s.attr 0x1000

abbrev pub attrs_are_valid : Cpu → Bool
attrs_are_valid cpu =
    attr_is_valid cpu.es && attr_is_valid cpu.cs && attr_is_valid cpu.ss && attr_is_valid cpu.ds && attr_is_valid cpu.fs && attr_is_valid cpu.gs
    && attr_is_valid cpu.ldtr && attr_is_valid cpu.tr

abbrev pub is_low_base : Seg → Bool
is_low_base s = nat_lt s.base (2 ^ 32)

abbrev pub low_bases_are_valid : Cpu → Bool
low_bases_are_valid cpu = is_low_base cpu.es && is_low_base cpu.cs && is_low_base cpu.ss && is_low_base cpu.ds

abbrev pub bases_are_canonical : Cpu → Bool
bases_are_canonical cpu =
    is_base cpu cpu.fs.base && is_base cpu cpu.gs.base && is_base cpu cpu.ldtr.base && is_base cpu cpu.tr.base
    && is_base cpu cpu.gdtr.base && is_base cpu cpu.idtr.base && is_base cpu cpu.kgs

abbrev pub segments_are_valid : Cpu → Bool
segments_are_valid cpu = attrs_are_valid cpu && low_bases_are_valid cpu && bases_are_canonical cpu

-- a level from 0 to 3, and 0 without protection
abbrev pub level_is_valid : Cpu → Bool
level_is_valid cpu = nat_le cpu.cpl 3 && needs (not (pe cpu)) (cpu.cpl == 0)

-- 64-bit code has no DB
abbrev pub code_is_valid : Cpu → Bool
code_is_valid cpu = needs (is_long cpu) (not (seg_db cpu.cs))

-- outside 64-bit code the instruction pointer has 32 bits
abbrev pub pointer_is_valid : Cpu → Bool
pointer_is_valid cpu = is_long cpu || nat_lt cpu.rip (2 ^ 32)

-- the number of the first rule that a state breaks
unfoldable pub broken : Cpu → Option ℕ
broken cpu =
    if not (flags_are_valid cpu) then Some 1 else
    (if not (cr0_is_valid cpu) then Some 2 else
    (if not (cr4_is_valid cpu) then Some 3 else
    (if not (efer_is_valid cpu) then Some 4 else
    (if not (paging_is_valid cpu) then Some 5 else
    (if not (segments_are_valid cpu) then Some 6 else
    (if not (level_is_valid cpu) then Some 7 else
    (if not (code_is_valid cpu) then Some 8 else
    (if not (pointer_is_valid cpu) then Some 9 else None))))))))

-- no rule is broken
abbrev pub Valid : Cpu → Type 0
Valid cpu = broken cpu ≡ None

-- what a check of the state answers
abbrev pub answer_of : Option ℕ → Result (Unit {0}) BadState
answer_of None = Ok tt
answer_of (Some n) = Err (record { rule = n })
