use Rattle.std.specs.Prelude.{◌+◌, ◌-◌, ◌^◌, ◌==◌, nat_le, bit_and, bit_or, if◌then◌else◌}
use Rattle.xe_ctx.specs.Definition.{ℕ, Bool, true, false, nat_lt, Cpu, Insn, Tree, ◌>>=◌, give, point, ends, ends_with}
use Rattle.xe_base.specs.Bits.{bit}
use Rattle.xe_icpt.specs.declared.point.Point.TheVariants.{Pushf, Popf}
use Rattle.xe_flags.specs.Status.{at_place}
use Rattle.xe_ctx.specs.Privilege.{iopl, at_io_level}
use Rattle.xe_ctx.specs.Stack.{released, stack_load, push}
use Rattle.xe_ctx.specs.declared.stop.Finish.{Finish}

-- Flags and the stack, and IF (SDM volume 2, "PUSHF/PUSHFD/PUSHFQ", "POPF/POPFD/POPFQ", "CLI" and "STI").

-- the registers with these flags
abbrev pub with_flags : Cpu → ℕ → Cpu
with_flags cpu flags = record cpu { rflags = flags }

-- PUSHF: the low n bytes of the flags, in which VM and RF are always 0
abbrev pub pushf_row : Insn → Cpu → Tree Finish
pushf_row insn cpu = do
  _ ← point Pushf
  after ← push cpu insn.opsize cpu.rflags
  ends insn after

-- a level up to IOPL
abbrev pub is_io_level : Cpu → Bool
is_io_level cpu = nat_le cpu.cpl (iopl cpu)

-- CF PF AF ZF SF TF DF OF and NT: a program at any level may change them
abbrev pub common_flags : ℕ
common_flags = 0x4DD5

-- IF; IOPL, of two bits; AC and ID
abbrev pub interrupt_flag : ℕ
interrupt_flag = 0x200

abbrev pub io_privilege : ℕ
io_privilege = 0x3000

abbrev pub high_flags : ℕ
high_flags = 0x240000

-- a mask where it holds, else none
abbrev pub mask_where : Bool → ℕ → ℕ
mask_where holds mask = if holds then mask else 0

-- the flags that POPF of n bytes writes, as do other loads of all flags: IF up to IOPL, IOPL at level 0, and AC and ID where there are more than two bytes
abbrev pub popf_mask : Cpu → ℕ → ℕ
popf_mask cpu n = common_flags + mask_where (is_io_level cpu) interrupt_flag + mask_where (cpu.cpl == 0) io_privilege + mask_where (nat_lt 2 n) high_flags

-- the flags after n bytes of them were loaded, with the level and the IOPL from before
abbrev pub flags_by_popf : Cpu → ℕ → ℕ → ℕ
flags_by_popf cpu n value = bit_or (bit_and cpu.rflags (2 ^ 64 - 1 - popf_mask cpu n)) (bit_and value (popf_mask cpu n))

abbrev pub popf_row : Insn → Cpu → Tree Finish
popf_row insn cpu = do
  let n = insn.opsize
  _ ← point Popf
  value ← stack_load cpu 0 n
  ends insn (with_flags (released cpu n) (flags_by_popf cpu n value))

-- ---- IF

-- the place of IF in the flags
abbrev pub interrupt_place : ℕ
interrupt_place = 9

-- the flags with this IF
abbrev pub with_interrupts : ℕ → Bool → ℕ
with_interrupts flags on = bit_or (bit_and flags (2 ^ 64 - 1 - 2 ^ interrupt_place)) (at_place on interrupt_place)

abbrev pub cli_row : Insn → Cpu → Tree Finish
cli_row insn cpu = do
  _ ← at_io_level cpu
  ends insn (with_flags cpu (with_interrupts cpu.rflags false))

-- 1 where STI turns IF on: interrupts wait for one more instruction
abbrev pub sti_retire : ℕ → ℕ
sti_retire flags = if bit flags interrupt_place then 0 else 1

abbrev pub sti_row : Insn → Cpu → Tree Finish
sti_row insn cpu = do
  _ ← at_io_level cpu
  give (record (ends_with insn (with_flags cpu (with_interrupts cpu.rflags true))) { retire = sti_retire cpu.rflags })
