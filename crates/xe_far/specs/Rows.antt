use Rattle.xe_base.specs.Exceptions.{plain_exception, invalid_opcode}
use Rattle.xe_opmap.specs.declared.row.Row.{Row}
use Rattle.xe_opmap.specs.declared.row.Row.TheVariants as row
use Rattle.xe_ctx.specs.Definition.{Bool, Option, Some, None, Cpu, Insn, Tree, fault}
use Rattle.xe_ctx.specs.Operand.{is_some}
use Rattle.xe_ctx.specs.declared.stop.Finish.{Finish}
use Rattle.xe_far.specs.Return.{retf_row, iret_row}
use Rattle.xe_far.specs.Transfer.{callf_row, jmpf_row}

-- The rows of this crate.

-- what an instruction of each row does, from the registers; none for the rows that aren't of this crate
abbrev pub row_at : Row → Option (Insn → Cpu → Tree Finish)
row_at row.Callf = Some callf_row
row_at row.Jmpf = Some jmpf_row
row_at row.Retf = Some retf_row
row_at row.Iret = Some iret_row
row_at other = None

abbrev pub is_row : Row → Bool
is_row r = is_some (row_at r)

-- an instruction of another row would be undefined
abbrev pub or_undefined : Option (Insn → Cpu → Tree Finish) → Insn → Cpu → Tree Finish
or_undefined (Some row) insn cpu = row insn cpu
or_undefined None insn cpu = fault (plain_exception invalid_opcode)

abbrev pub row_of : Insn → Cpu → Tree Finish
row_of insn cpu = or_undefined (row_at insn.row) insn cpu
