use Rattle.std.specs.Prelude.{◌-◌, ◌%◌, ◌^◌, ◌==◌, ◌&&◌, ◌||◌, nat_lt, nat_le, bit_and, bit_or, if◌then◌else◌, Option, Some, None}
use Rattle.xe_ctx.specs.Definition.{ℕ, Bool, true, false, not, Cpu, Insn, Tree, ◌>>=◌, fault, give, point, operand_of, reg_of, read_operand, write_operand, reads, writes, ends}
use Rattle.xe_base.specs.Bits.{bit, only}
use Rattle.xe_base.specs.Exceptions.{plain_exception, invalid_opcode}
use Rattle.xe_base.specs.State.{needs, pg, lme, lma, pae, seg_l, is_long}
use Rattle.xe_icpt.specs.declared.point.CrKind.TheVariants.{Mov, Lmsw, Clts}
use Rattle.xe_icpt.specs.declared.point.Point.{Point}
use Rattle.xe_icpt.specs.declared.point.Point.TheVariants.{CrRead, CrWrite, Cr0Sel}
use Rattle.xe_ctx.specs.Privilege.{or_protection, at_level_0}
use Rattle.xe_ctx.specs.declared.operand.Operand.{Operand}
use Rattle.xe_ctx.specs.declared.operand.Operand.TheVariants.{Register, Memory}
use Rattle.xe_ctx.specs.declared.stop.Finish.{Finish}
use Rattle.xe_sys.specs.declared.control.ControlRegister.{ControlRegister}
use Rattle.xe_sys.specs.declared.control.ControlRegister.TheVariants.{Cr0, Cr2, Cr3, Cr4, Cr8}

-- Control registers (SDM volume 2, "MOV—Move to/from Control Registers", "SMSW", "LMSW" and "CLTS"; volume 3, "Control Registers").

-- the control register of a number, where there is one
abbrev pub control_of : ℕ → Option ControlRegister
control_of n =
    if n == 0 then Some Cr0 else
    (if n == 2 then Some Cr2 else
    (if n == 3 then Some Cr3 else
    (if n == 4 then Some Cr4 else
    (if n == 8 then Some Cr8 else None))))

abbrev pub control_number : ControlRegister → ℕ
control_number Cr0 = 0
control_number Cr2 = 2
control_number Cr3 = 3
control_number Cr4 = 4
control_number Cr8 = 8

abbrev pub control_value : Cpu → ControlRegister → ℕ
control_value cpu Cr0 = cpu.cr0
control_value cpu Cr2 = cpu.cr2
control_value cpu Cr3 = cpu.cr3
control_value cpu Cr4 = cpu.cr4
control_value cpu Cr8 = cpu.cr8

-- the bytes of MOV's operand, whatever the prefixes say
abbrev pub control_size : Cpu → ℕ
control_size cpu = if is_long cpu then 8 else 4

-- ---- writing CR0

-- what CR0 gets of a number: of bits 31:0 the known ones, and ET
abbrev pub cr0_of : ℕ → ℕ
cr0_of value = bit_or (bit_and value 0xE005003F) 0x10

-- PE, EM, NE, WP, AM, NW, CD and PG: the known bits but MP, ET and TS
abbrev pub selected : ℕ → ℕ
selected cr0 = bit_and cr0 0xE0050025

abbrev pub changes_selected : Cpu → ℕ → Bool
changes_selected cpu cr0 = not (selected cr0 == selected cpu.cr0)

-- a TSS of 16 bits, which long mode doesn't have
abbrev pub has_small_tss : Cpu → Bool
has_small_tss cpu = cpu.tr.attr % 16 == 1 || cpu.tr.attr % 16 == 3

-- long mode can begin: PAE, no 64-bit code segment, no TSS of 16 bits
abbrev pub may_enter_long : Cpu → Bool
may_enter_long cpu = pae cpu && not (seg_l cpu.cs) && not (has_small_tss cpu)

-- CR0 takes a number: 32 bits; PG needs PE; NW needs CD; PG is turned on with LME only where long mode can begin; PG stays in 64-bit mode
abbrev pub is_cr0_allowed : Cpu → ℕ → ℕ → Bool
is_cr0_allowed cpu value cr0 =
    nat_lt value (2 ^ 32)
    && needs (bit cr0 31) (bit cr0 0)
    && needs (bit cr0 29) (bit cr0 30)
    && needs (bit cr0 31 && not (pg cpu) && lme cpu) (may_enter_long cpu)
    && needs (pg cpu && is_long cpu) (bit cr0 31)

-- EFER with this LMA
abbrev pub with_lma : ℕ → Bool → ℕ
with_lma efer active = if active then bit_or efer 0x400 else bit_and efer (2 ^ 64 - 1 - 0x400)

-- LMA follows LME and PG
abbrev pub with_cr0 : Cpu → ℕ → Cpu
with_cr0 cpu cr0 = record cpu { cr0 = cr0; efer = with_lma cpu.efer (lme cpu && bit cr0 31) }

-- what is intercepted where the selected bits change
unfoldable pub select_point : Cpu → ℕ → Tree (Unit {0})
select_point cpu cr0 = if changes_selected cpu cr0 then point Cr0Sel else give tt

unfoldable pub cr0_written : Cpu → ℕ → ℕ → Tree Cpu
cr0_written cpu value cr0 = do
  _ ← select_point cpu cr0
  _ ← or_protection cpu (is_cr0_allowed cpu value cr0)
  give (with_cr0 cpu cr0)

-- ---- MOV to and from control registers

-- known bits alone, and PAE stays in long mode
abbrev pub is_cr4_allowed : Cpu → ℕ → Bool
is_cr4_allowed cpu value = only 0x3006FC value && needs (lma cpu) (bit value 5)

unfoldable pub control_written : Cpu → ControlRegister → ℕ → Tree Cpu
control_written cpu Cr0 value = cr0_written cpu value (cr0_of value)
control_written cpu Cr2 value = give (record cpu { cr2 = value })
control_written cpu Cr3 value = do
  _ ← or_protection cpu (nat_lt value (2 ^ 40))
  give (record cpu { cr3 = value })
control_written cpu Cr4 value = do
  _ ← or_protection cpu (is_cr4_allowed cpu value)
  give (record cpu { cr4 = value })
control_written cpu Cr8 value = do
  _ ← or_protection cpu (nat_le value 15)
  give (record cpu { cr8 = value })

abbrev pub read_control : Insn → Cpu → ControlRegister → ℕ → Tree Finish
read_control insn cpu c r = do
  _ ← at_level_0 cpu
  _ ← point (CrRead (control_number c) r)
  ends insn (writes insn cpu (control_size cpu) r (control_value cpu c))

-- the point carries the operand as it is
abbrev pub control_point : ControlRegister → ℕ → ℕ → Point
control_point c r value = CrWrite (control_number c) r Mov value false

abbrev pub write_control : Insn → Cpu → ControlRegister → ℕ → Tree Finish
write_control insn cpu c r = do
  let value = reads insn cpu (control_size cpu) r
  _ ← at_level_0 cpu
  _ ← point (control_point c r value)
  after ← control_written cpu c value
  ends insn after

-- 0F 20 reads a control register, and 0F 22 writes one. A register that isn't there is undefined
abbrev pub movcr_on : Insn → Cpu → ℕ → Option ControlRegister → Tree Finish
movcr_on insn cpu r None = fault (plain_exception invalid_opcode)
movcr_on insn cpu r (Some c) = if insn.opcode == 0x0F20 then read_control insn cpu c r else write_control insn cpu c r

-- the operand is a general register, whatever the ModRM byte says
abbrev pub movcr_at : Insn → Cpu → Operand → Tree Finish
movcr_at insn cpu (Register r) = movcr_on insn cpu r (control_of (reg_of insn))
movcr_at insn cpu (Memory seg offset) = fault (plain_exception invalid_opcode)

abbrev pub movcr_row : Insn → Cpu → Tree Finish
movcr_row insn cpu = movcr_at insn cpu (operand_of insn cpu)

-- ---- SMSW, LMSW and CLTS

abbrev pub is_in_memory : Operand → Bool
is_in_memory (Register r) = false
is_in_memory (Memory seg offset) = true

-- SMSW writes a register in the operand size, and 2 bytes of memory
abbrev pub word_size : Insn → Operand → ℕ
word_size insn (Register r) = insn.opsize
word_size insn (Memory seg offset) = 2

abbrev pub smsw_row : Insn → Cpu → Tree Finish
smsw_row insn cpu = do
  _ ← point (CrRead 0 0)
  after ← write_operand insn cpu (operand_of insn cpu) (word_size insn (operand_of insn cpu)) cpu.cr0
  ends insn after

-- CR0 with TS, EM and MP of a number, and PE, where it has it
abbrev pub with_status_word : Cpu → ℕ → Cpu
with_status_word cpu value = record cpu { cr0 = bit_or (bit_and cpu.cr0 (2 ^ 64 - 1 - 0xE)) (bit_and value 0xF) }

abbrev pub lmsw_point : Operand → ℕ → Point
lmsw_point operand value = CrWrite 0 0 Lmsw value (is_in_memory operand)

abbrev pub lmsw_row : Insn → Cpu → Tree Finish
lmsw_row insn cpu = do
  _ ← at_level_0 cpu
  value ← read_operand insn cpu (operand_of insn cpu) 2
  _ ← point (lmsw_point (operand_of insn cpu) (value % 2 ^ 16))
  _ ← point Cr0Sel
  ends insn (with_status_word cpu (value % 2 ^ 16))

abbrev pub without_ts : Cpu → Cpu
without_ts cpu = record cpu { cr0 = bit_and cpu.cr0 (2 ^ 64 - 1 - 8) }

abbrev pub clts_row : Insn → Cpu → Tree Finish
clts_row insn cpu = do
  _ ← at_level_0 cpu
  _ ← point (CrWrite 0 0 Clts 0 false)
  ends insn (without_ts cpu)
