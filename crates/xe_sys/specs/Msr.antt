use Rattle.std.specs.Prelude.{◌+◌, ◌*◌, ◌/◌, ◌%◌, ◌^◌, ◌==◌, ◌&&◌, nat_lt, slice_index, bit_and, bit_or, if◌then◌else◌}
use Rattle.xe_ctx.specs.Definition.{ℕ, Bool, true, false, not, Cpu, Insn, Tree, ◌>>=◌, give, ax, cx, dx, device, point, writes, ends}
use Rattle.xe_base.specs.Access.{number_of}
use Rattle.xe_base.specs.Bits.{bit, only}
use Rattle.xe_base.specs.State.{needs, pg, lme, is_base}
use Rattle.xe_base.specs.declared.access.Access.{Access}
use Rattle.xe_base.specs.declared.access.Answer.{Answer}
use Rattle.xe_base.specs.declared.access.Answer.TheVariants.{Val, No}
use Rattle.xe_base.specs.declared.access.Space.TheVariants.{Msr as MsrSpace}
use Rattle.xe_icpt.specs.declared.point.Point.TheVariants.{Msr as AtMsr, Rdtsc as AtRdtsc}
use Rattle.xe_ctx.specs.Privilege.{or_protection, at_level_0}
use Rattle.xe_ctx.specs.declared.stop.Finish.{Finish}
use Rattle.xe_sys.specs.declared.msr.KnownMsr.{KnownMsr}
use Rattle.xe_sys.specs.declared.msr.KnownMsr.TheVariants.{Efer, FsBase, GsBase, KernelGsBase, OfDevice}

-- Model-specific registers (SDM volume 2, "RDMSR", "WRMSR" and "RDTSC"; volume 4).

-- where the register of a number is: EFER and three bases are the processor's own
abbrev pub known_msr : ℕ → KnownMsr
known_msr number =
    if number == 0xC0000080 then Efer else
    (if number == 0xC0000100 then FsBase else
    (if number == 0xC0000101 then GsBase else
    (if number == 0xC0000102 then KernelGsBase else OfDevice)))

-- the number of the time-stamp counter
abbrev pub time_stamp : ℕ
time_stamp = 0x10

abbrev pub msr_read : ℕ → Access
msr_read number = record { space = MsrSpace; write = false; address = number; size = 8; value = 0 }

abbrev pub msr_write : ℕ → ℕ → Access
msr_write number value = record { space = MsrSpace; write = true; address = number; size = 8; value = value }

-- ---- EDX:EAX

abbrev pub pair_of : Cpu → ℕ
pair_of cpu = slice_index cpu.gpr dx % 2 ^ 32 * 2 ^ 32 + slice_index cpu.gpr ax % 2 ^ 32

abbrev pub with_pair : Insn → Cpu → ℕ → Cpu
with_pair insn cpu value = writes insn (writes insn cpu 4 ax value) 4 dx (value / 2 ^ 32)

-- ---- registers of devices

abbrev pub is_there : Answer → Bool
is_there (Val v) = true
is_there No = false

-- a register that no device has is #GP(0)
unfoldable pub device_msr : Cpu → Access → Tree ℕ
device_msr cpu a = do
  answer ← device a
  _ ← or_protection cpu (is_there answer)
  give (number_of answer)

-- ---- RDMSR

unfoldable pub msr_value : Cpu → ℕ → KnownMsr → Tree ℕ
msr_value cpu number Efer = give cpu.efer
msr_value cpu number FsBase = give cpu.fs.base
msr_value cpu number GsBase = give cpu.gs.base
msr_value cpu number KernelGsBase = give cpu.kgs
msr_value cpu number OfDevice = device_msr cpu (msr_read number)

abbrev pub msr_number : Cpu → ℕ
msr_number cpu = slice_index cpu.gpr cx % 2 ^ 32

abbrev pub rdmsr_row : Insn → Cpu → Tree Finish
rdmsr_row insn cpu = do
  let number = msr_number cpu
  _ ← at_level_0 cpu
  _ ← point (AtMsr number false)
  value ← msr_value cpu number (known_msr number)
  ends insn (with_pair insn cpu value)

-- ---- WRMSR

-- EFER takes SCE, LME, LMA and NXE alone, and LME only as it is while paging is on
abbrev pub is_efer_allowed : Cpu → ℕ → Bool
is_efer_allowed cpu value = only 0xD01 value && needs (pg cpu) (if lme cpu then bit value 8 else not (bit value 8))

-- LMA stays whatever is written
abbrev pub with_efer : Cpu → ℕ → Cpu
with_efer cpu value = record cpu { efer = bit_or (bit_and value 0x901) (bit_and cpu.efer 0x400) }

unfoldable pub msr_written : Cpu → ℕ → ℕ → KnownMsr → Tree Cpu
msr_written cpu number value Efer = do
  _ ← or_protection cpu (is_efer_allowed cpu value)
  give (with_efer cpu value)
msr_written cpu number value FsBase = do
  _ ← or_protection cpu (is_base cpu value)
  give (record cpu { fs = record cpu.fs { base = value } })
msr_written cpu number value GsBase = do
  _ ← or_protection cpu (is_base cpu value)
  give (record cpu { gs = record cpu.gs { base = value } })
msr_written cpu number value KernelGsBase = do
  _ ← or_protection cpu (is_base cpu value)
  give (record cpu { kgs = value })
msr_written cpu number value OfDevice = do
  _ ← device_msr cpu (msr_write number value)
  give cpu

abbrev pub wrmsr_row : Insn → Cpu → Tree Finish
wrmsr_row insn cpu = do
  let number = msr_number cpu
  _ ← at_level_0 cpu
  _ ← point (AtMsr number true)
  after ← msr_written cpu number (pair_of cpu) (known_msr number)
  ends insn after

-- ---- RDTSC

-- CR4.TSD keeps it to level 0
abbrev pub may_read_time : Cpu → Bool
may_read_time cpu = not (bit cpu.cr4 2 && nat_lt 0 cpu.cpl)

abbrev pub rdtsc_row : Insn → Cpu → Tree Finish
rdtsc_row insn cpu = do
  _ ← or_protection cpu (may_read_time cpu)
  _ ← point AtRdtsc
  value ← device_msr cpu (msr_read time_stamp)
  ends insn (with_pair insn cpu value)
