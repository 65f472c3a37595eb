use Rattle.std.specs.Prelude.{◌+◌, ◌-◌, ◌*◌, ◌/◌, ◌%◌, ◌^◌, ◌==◌, ◌&&◌, ◌||◌, if◌then◌else◌}
use Rattle.xe_ctx.specs.Definition.{ℕ, Bool, not, Cpu, Insn, Tree, ◌>>=◌, give, fault, load_sys, store_sys, point, operand_of, read_operand, ends}
use Rattle.xe_base.specs.Exceptions.{plain_exception, invalid_opcode, general_protection, segment_not_present}
use Rattle.xe_base.specs.State.{mode_of, is_long, is_base, lma}
use Rattle.xe_base.specs.declared.segment.Seg.{Seg}
use Rattle.xe_icpt.specs.declared.point.Point.TheVariants.{TableRead, TableWrite}
use Rattle.xe_icpt.specs.declared.point.TableName.{TableName}
use Rattle.xe_icpt.specs.declared.point.TableName.TheVariants.{Ldtr, Tr}
use Rattle.xe_seg.specs.Descriptors.{base_of, limit_of, kind_of, s_of, present_of, attr_of}
use Rattle.xe_seg.specs.Loads.{is_null, selector_fault}
use Rattle.xe_seg.specs.declared.descriptor.Descriptor.{Descriptor}
use Rattle.xe_ctx.specs.Privilege.{is_real_mode, or_protection, at_level_0}
use Rattle.xe_ctx.specs.declared.stop.Finish.{Finish}
use Rattle.xe_desc.specs.DescriptorTable.{is_local, descriptor_address, is_in_table, access_byte, read_descriptor}
use Rattle.xe_desc.specs.Load.{selector, store_selector}

-- The LDT and the task register (SDM volume 2, "SLDT", "STR", "LLDT" and "LTR"; volume 3, "System Descriptor Types" and "TSS Descriptor").

-- goes on outside real mode; there it is #UD
unfoldable pub outside_real_mode : Cpu → Tree (Unit {0})
outside_real_mode cpu = if is_real_mode (mode_of cpu) then fault (plain_exception invalid_opcode) else give tt

-- goes on where it holds; else it is the exception of a vector with the selector
unfoldable pub or_selector : Cpu → Bool → ℕ → ℕ → Tree (Unit {0})
or_selector cpu holds vector sel = if holds then give tt else fault (selector_fault cpu vector sel)

-- ---- SLDT and STR

-- a table register's selector is stored
abbrev pub stored_row : TableName → ℕ → Insn → Cpu → Tree Finish
stored_row t sel insn cpu = do
  _ ← outside_real_mode cpu
  _ ← point (TableRead t)
  after ← store_selector insn cpu sel
  ends insn after

abbrev pub sldt_row : Insn → Cpu → Tree Finish
sldt_row insn cpu = stored_row Ldtr cpu.ldtr.sel insn cpu

abbrev pub str_row : Insn → Cpu → Tree Finish
str_row insn cpu = stored_row Tr cpu.tr.sel insn cpu

-- ---- system descriptors

-- its 16 bytes in 64-bit mode, all within the GDT; past it it is #GP(selector)
unfoldable pub read_wide : Cpu → ℕ → Tree ℕ
read_wide cpu sel = if is_in_table cpu sel 16 then load_sys (descriptor_address cpu sel) 16 else fault (selector_fault cpu general_protection sel)

-- its 8 bytes elsewhere, as many with bytes of 0 behind them
unfoldable pub read_narrow : Cpu → ℕ → Tree ℕ
read_narrow cpu sel = do
  d ← read_descriptor cpu sel
  give d.raw

-- the 16 bytes that describe a system segment of the GDT, which alone has them
unfoldable pub read_system : Cpu → ℕ → Tree ℕ
read_system cpu sel = do
  _ ← or_selector cpu (not (is_local sel)) general_protection sel
  if is_long cpu then read_wide cpu sel else read_narrow cpu sel

-- bytes 0 to 7 are a descriptor
abbrev pub low_part : ℕ → Descriptor
low_part raw = record { raw = raw % 2 ^ 64 }

-- bytes 8 to 11 are bits 63:32 of the base
abbrev pub system_base : ℕ → ℕ
system_base raw = base_of (low_part raw) + raw / 2 ^ 64 % 2 ^ 32 * 2 ^ 32

-- bits 12:8 of the number in bytes 12 to 15
abbrev pub upper_kind : ℕ → ℕ
upper_kind raw = raw / 2 ^ 104 % 2 ^ 5

-- a system segment of this type
abbrev pub is_system : ℕ → ℕ → Bool
is_system raw kind = not (s_of (low_part raw)) && (kind_of (low_part raw) == kind)

-- the register that it gives, with these attributes
abbrev pub system_segment : ℕ → ℕ → ℕ → Seg
system_segment sel raw attr = record { sel = sel; base = system_base raw; limit = limit_of (low_part raw); attr = attr }

-- ---- LLDT

abbrev pub with_ldtr : Cpu → Seg → Cpu
with_ldtr cpu s = record cpu { ldtr = s }

-- type 2: an LDT
unfoldable pub load_ldt : Cpu → ℕ → Tree Cpu
load_ldt cpu sel = do
  raw ← read_system cpu sel
  _ ← or_selector cpu (is_base cpu (system_base raw)) general_protection sel
  _ ← or_selector cpu (is_system raw 2) general_protection sel
  _ ← or_selector cpu (present_of (low_part raw)) segment_not_present sel
  give (with_ldtr cpu (system_segment sel raw (attr_of (low_part raw))))

-- a null selector leaves no LDT: base and limit stay, and nothing more is looked at
unfoldable pub load_ldtr : Cpu → ℕ → Tree Cpu
load_ldtr cpu sel = if is_null sel then give (with_ldtr cpu (record cpu.ldtr { sel = sel; attr = 0 })) else load_ldt cpu sel

abbrev pub lldt_row : Insn → Cpu → Tree Finish
lldt_row insn cpu = do
  _ ← outside_real_mode cpu
  _ ← at_level_0 cpu
  _ ← point (TableWrite Ldtr)
  value ← read_operand insn cpu (operand_of insn cpu) 2
  after ← load_ldtr cpu (selector value)
  ends insn after

-- ---- LTR

abbrev pub with_tr : Cpu → Seg → Cpu
with_tr cpu s = record cpu { tr = s }

-- type bit 1: the TSS is busy
abbrev pub busy : ℕ → ℕ
busy attr = attr - attr / 2 % 2 * 2 + 2

-- an available TSS: type 9, or, outside long mode, type 1
abbrev pub is_available : Cpu → ℕ → Bool
is_available cpu raw = is_system raw 9 || (not (lma cpu) && is_system raw 1)

-- it becomes busy in the table, where byte 5 is stored, and in the register
unfoldable pub load_tss : Cpu → ℕ → Tree Cpu
load_tss cpu sel = do
  raw ← read_system cpu sel
  _ ← or_selector cpu (upper_kind raw == 0) general_protection sel
  _ ← or_selector cpu (is_base cpu (system_base raw)) general_protection sel
  _ ← or_selector cpu (is_available cpu raw) general_protection sel
  _ ← or_selector cpu (present_of (low_part raw)) segment_not_present sel
  _ ← store_sys ((descriptor_address cpu sel + 5) % 2 ^ 64) 1 (busy (access_byte (low_part raw)))
  give (with_tr cpu (system_segment sel raw (busy (attr_of (low_part raw)))))

abbrev pub ltr_row : Insn → Cpu → Tree Finish
ltr_row insn cpu = do
  _ ← outside_real_mode cpu
  _ ← at_level_0 cpu
  _ ← point (TableWrite Tr)
  value ← read_operand insn cpu (operand_of insn cpu) 2
  _ ← or_protection cpu (not (is_null (selector value)))
  after ← load_tss cpu (selector value)
  ends insn after
