use Rattle.std.specs.Prelude.{◌+◌, ◌*◌, ◌%◌, ◌^◌, ◌==◌, if◌then◌else◌}
use Rattle.xe_ctx.specs.Definition.{ℕ, Cpu, Insn, Tree, ◌>>=◌, fault, give, load, store, point, operand_of, ends}
use Rattle.xe_base.specs.Exceptions.{plain_exception, invalid_opcode}
use Rattle.xe_base.specs.State.{needs, is_long, is_base}
use Rattle.xe_base.specs.declared.segment.SegName.{SegName}
use Rattle.xe_base.specs.declared.segment.Table.{Table}
use Rattle.xe_icpt.specs.declared.point.Point.TheVariants.{TableRead, TableWrite}
use Rattle.xe_icpt.specs.declared.point.TableName.{TableName}
use Rattle.xe_icpt.specs.declared.point.TableName.TheVariants.{Gdtr, Idtr}
use Rattle.xe_ctx.specs.Privilege.{or_protection, at_level_0}
use Rattle.xe_ctx.specs.declared.operand.Operand.{Operand}
use Rattle.xe_ctx.specs.declared.operand.Operand.TheVariants.{Register, Memory}
use Rattle.xe_ctx.specs.declared.stop.Finish.{Finish}
use Rattle.xe_sys.specs.declared.table.DescriptorTable.{DescriptorTable}
use Rattle.xe_sys.specs.declared.table.DescriptorTable.TheVariants.{Global, Interrupt}

-- Descriptor table registers (SDM volume 2, "SGDT", "SIDT" and "LGDT/LIDT").

abbrev pub name_of : DescriptorTable → TableName
name_of Global = Gdtr
name_of Interrupt = Idtr

abbrev pub table_of : Cpu → DescriptorTable → Table
table_of cpu Global = cpu.gdtr
table_of cpu Interrupt = cpu.idtr

abbrev pub with_table : Cpu → DescriptorTable → Table → Cpu
with_table cpu Global table = record cpu { gdtr = table }
with_table cpu Interrupt table = record cpu { idtr = table }

-- the bytes of a base in memory, whatever the operand size
abbrev pub base_size : Cpu → ℕ
base_size cpu = if is_long cpu then 8 else 4

-- the base lies behind the two bytes of the limit, in the address size
abbrev pub base_offset : Insn → ℕ → ℕ
base_offset insn offset = (offset + 2) % 2 ^ (8 * insn.adsize)

-- SGDT and SIDT, at every level. A register has no such form: it is undefined
abbrev pub store_at : DescriptorTable → Insn → Cpu → Operand → Tree Finish
store_at which insn cpu (Register r) = fault (plain_exception invalid_opcode)
store_at which insn cpu (Memory seg offset) = do
  _ ← point (TableRead (name_of which))
  _ ← store seg offset 2 ((table_of cpu which).limit % 2 ^ 16)
  _ ← store seg (base_offset insn offset) (base_size cpu) ((table_of cpu which).base % 2 ^ (8 * base_size cpu))
  ends insn cpu

abbrev pub store_row : DescriptorTable → Insn → Cpu → Tree Finish
store_row which insn cpu = store_at which insn cpu (operand_of insn cpu)

-- the base that was loaded: outside 64-bit code 24 bits of it at operand size 16
abbrev pub kept_base : Insn → Cpu → ℕ → ℕ
kept_base insn cpu base = if is_long cpu then base % 2 ^ 64 else (if insn.opsize == 2 then base % 2 ^ 24 else base % 2 ^ 32)

-- limit and base in memory
unfoldable pub table_in_memory : Insn → Cpu → SegName → ℕ → Tree Table
table_in_memory insn cpu seg offset = do
  limit ← load seg offset 2
  base ← load seg (base_offset insn offset) (base_size cpu)
  give (record { base = kept_base insn cpu base; limit = limit % 2 ^ 16 })

-- LGDT and LIDT: in 64-bit code the base is canonical
abbrev pub load_at : DescriptorTable → Insn → Cpu → Operand → Tree Finish
load_at which insn cpu (Register r) = fault (plain_exception invalid_opcode)
load_at which insn cpu (Memory seg offset) = do
  _ ← at_level_0 cpu
  _ ← point (TableWrite (name_of which))
  table ← table_in_memory insn cpu seg offset
  _ ← or_protection cpu (needs (is_long cpu) (is_base cpu table.base))
  ends insn (with_table cpu which table)

abbrev pub load_row : DescriptorTable → Insn → Cpu → Tree Finish
load_row which insn cpu = load_at which insn cpu (operand_of insn cpu)
