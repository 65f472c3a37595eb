use Rattle.std.specs.Prelude.{ℕ, [], ◌∷◌}
use Rattle.xe_base.specs.declared.cpu.Cpu.{Cpu}
use Rattle.xe_base.specs.declared.segment.Seg.{Seg}
use Rattle.xe_base.specs.declared.segment.Table.{Table}

-- a segment at address 0 with 64 KiB
abbrev pub flat : ℕ → Seg
flat attr = record { sel = 0; base = 0; limit = 0xFFFF; attr = attr }

-- a table at address 0 with 64 KiB
abbrev pub wide_table : Table
wide_table = record { base = 0; limit = 0xFFFF }

-- the start state: all zero but for bit 1 of the flags, ET, the limits, and the attributes of present, accessed segments:
-- writable data, readable code, an LDT, and a busy 32-bit TSS
unfoldable pub reset_state : Cpu
reset_state = record {
  gpr = 0 ∷ 0 ∷ 0 ∷ 0 ∷ 0 ∷ 0 ∷ 0 ∷ 0 ∷ 0 ∷ 0 ∷ 0 ∷ 0 ∷ 0 ∷ 0 ∷ 0 ∷ 0 ∷ [];
  rip = 0;
  rflags = 2;
  es = flat 0x93;
  cs = flat 0x9B;
  ss = flat 0x93;
  ds = flat 0x93;
  fs = flat 0x93;
  gs = flat 0x93;
  ldtr = flat 0x82;
  tr = flat 0x8B;
  gdtr = wide_table;
  idtr = wide_table;
  cr0 = 0x10;
  cr2 = 0;
  cr3 = 0;
  cr4 = 0;
  cr8 = 0;
  efer = 0;
  kgs = 0;
  cpl = 0;
}
