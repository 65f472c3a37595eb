use Rattle.xe_base.specs.Exceptions.{plain_exception, invalid_opcode}
use Rattle.xe_opmap.specs.declared.row.Row.{Row}
use Rattle.xe_opmap.specs.declared.row.Row.TheVariants as row
use Rattle.xe_ctx.specs.Definition.{Bool, true, false, Option, Some, None, Cpu, Insn, Tree, fault}
use Rattle.xe_ctx.specs.Operand.{is_some}
use Rattle.xe_ctx.specs.declared.stop.Finish.{Finish}
use Rattle.xe_move.specs.Condition.{cmov_row, set_row}
use Rattle.xe_move.specs.Extend.{cbw_row, cwd_row, movzx_row, movsx_row}
use Rattle.xe_move.specs.Flag.{cmc_row, clc_row, stc_row, direction_row, sahf_row, lahf_row}
use Rattle.xe_move.specs.Moves.{mov_row, lea_row, xchg_row, nop_row, xlat_row, bswap_row}

-- The rows of this crate.

-- what an instruction of each row does, from the registers; none for the rows that aren't of this crate
abbrev pub row_at : Row → Option (Insn → Cpu → Tree Finish)
row_at row.Mov = Some mov_row
row_at row.Lea = Some lea_row
row_at row.Xchg = Some xchg_row
row_at row.Nop = Some nop_row
row_at row.Cmc = Some cmc_row
row_at row.Clc = Some clc_row
row_at row.Stc = Some stc_row
row_at row.Cld = Some (direction_row false)
row_at row.Std = Some (direction_row true)
row_at row.Sahf = Some sahf_row
row_at row.Lahf = Some lahf_row
row_at row.Cmov = Some cmov_row
row_at row.Set = Some set_row
row_at row.Cbw = Some cbw_row
row_at row.Cwd = Some cwd_row
row_at row.Movzx = Some movzx_row
row_at row.Movsx = Some movsx_row
row_at row.Movsxd = Some movsx_row
row_at row.Xlat = Some xlat_row
row_at row.Bswap = Some bswap_row
row_at other = None

abbrev pub is_row : Row → Bool
is_row r = is_some (row_at r)

-- an instruction of another row would be undefined
abbrev pub or_undefined : Option (Insn → Cpu → Tree Finish) → Insn → Cpu → Tree Finish
or_undefined (Some row) insn cpu = row insn cpu
or_undefined None insn cpu = fault (plain_exception invalid_opcode)

abbrev pub row_of : Insn → Cpu → Tree Finish
row_of insn cpu = or_undefined (row_at insn.row) insn cpu
