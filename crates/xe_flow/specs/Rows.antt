use Rattle.xe_base.specs.Exceptions.{plain_exception, invalid_opcode}
use Rattle.xe_opmap.specs.declared.row.Row.{Row}
use Rattle.xe_opmap.specs.declared.row.Row.TheVariants as row
use Rattle.xe_ctx.specs.Definition.{Bool, true, false, Option, Some, None, Cpu, Insn, Tree, fault}
use Rattle.xe_ctx.specs.Operand.{is_some}
use Rattle.xe_ctx.specs.declared.stop.Finish.{Finish}
use Rattle.xe_flow.specs.Branch.{call_row, jmp_row, ret_row, jcc_row}
use Rattle.xe_flow.specs.Flags.{pushf_row, popf_row, cli_row, sti_row}
use Rattle.xe_flow.specs.Frame.{enter_row, leave_row}
use Rattle.xe_flow.specs.Interrupt.{int3_row, int_row, into_row}
use Rattle.xe_flow.specs.Repeat.{loop_row, jcxz_row}
use Rattle.xe_flow.specs.Stack.{push_row, pop_row, pushseg_row, pusha_row, popa_row}

-- The rows of this crate.

-- what an instruction of each row does, from the registers; none for the rows that aren't of this crate
abbrev pub row_at : Row → Option (Insn → Cpu → Tree Finish)
row_at row.Push = Some push_row
row_at row.Pop = Some pop_row
row_at row.Pushseg = Some pushseg_row
row_at row.Pusha = Some pusha_row
row_at row.Popa = Some popa_row
row_at row.Pushf = Some pushf_row
row_at row.Popf = Some popf_row
row_at row.Enter = Some enter_row
row_at row.Leave = Some leave_row
row_at row.Call = Some call_row
row_at row.Jmp = Some jmp_row
row_at row.Ret = Some ret_row
row_at row.Jcc = Some jcc_row
row_at row.Loopne = Some (loop_row (Some false))
row_at row.Loope = Some (loop_row (Some true))
row_at row.Loop = Some (loop_row None)
row_at row.Jcxz = Some jcxz_row
row_at row.Cli = Some cli_row
row_at row.Sti = Some sti_row
row_at row.Int3 = Some int3_row
row_at row.Int = Some int_row
row_at row.Into = Some into_row
row_at other = None

abbrev pub is_row : Row → Bool
is_row r = is_some (row_at r)

-- an instruction of another row would be undefined
abbrev pub or_undefined : Option (Insn → Cpu → Tree Finish) → Insn → Cpu → Tree Finish
or_undefined (Some row) insn cpu = row insn cpu
or_undefined None insn cpu = fault (plain_exception invalid_opcode)

abbrev pub row_of : Insn → Cpu → Tree Finish
row_of insn cpu = or_undefined (row_at insn.row) insn cpu
