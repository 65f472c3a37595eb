use Rattle.xe_base.specs.Exceptions.{plain_exception, invalid_opcode}
use Rattle.xe_base.specs.declared.segment.SegName.TheVariants as SegName
use Rattle.xe_opmap.specs.declared.row.Row.{Row}
use Rattle.xe_opmap.specs.declared.row.Row.TheVariants as row
use Rattle.xe_ctx.specs.Definition.{Bool, true, false, Option, Some, None, Cpu, Insn, Tree, fault}
use Rattle.xe_ctx.specs.Operand.{is_some}
use Rattle.xe_ctx.specs.declared.stop.Finish.{Finish}
use Rattle.xe_desc.specs.Load.{movseg_row, popseg_row, far_pointer_row}
use Rattle.xe_desc.specs.Query.{lar_row, lsl_row, verify_row, arpl_row}
use Rattle.xe_desc.specs.Task.{sldt_row, str_row, lldt_row, ltr_row}

-- The rows of this crate.

-- what an instruction of each row does, from the registers; none for the rows that aren't of this crate
abbrev pub row_at : Row → Option (Insn → Cpu → Tree Finish)
row_at row.Movseg = Some movseg_row
row_at row.Popseg = Some popseg_row
row_at row.Les = Some (far_pointer_row SegName.Es)
row_at row.Lds = Some (far_pointer_row SegName.Ds)
row_at row.Lss = Some (far_pointer_row SegName.Ss)
row_at row.Lfs = Some (far_pointer_row SegName.Fs)
row_at row.Lgs = Some (far_pointer_row SegName.Gs)
row_at row.Sldt = Some sldt_row
row_at row.Str = Some str_row
row_at row.Lldt = Some lldt_row
row_at row.Ltr = Some ltr_row
row_at row.Lar = Some lar_row
row_at row.Lsl = Some lsl_row
row_at row.Verr = Some (verify_row false)
row_at row.Verw = Some (verify_row true)
row_at row.Arpl = Some arpl_row
row_at other = None

abbrev pub is_row : Row → Bool
is_row r = is_some (row_at r)

-- the rows that load no segment register, neither LDTR nor TR
abbrev pub is_calm_row : Row → Bool
is_calm_row row.Sldt = true
is_calm_row row.Str = true
is_calm_row row.Lar = true
is_calm_row row.Lsl = true
is_calm_row row.Verr = true
is_calm_row row.Verw = true
is_calm_row row.Arpl = true
is_calm_row other = false

-- an instruction of another row would be undefined
abbrev pub or_undefined : Option (Insn → Cpu → Tree Finish) → Insn → Cpu → Tree Finish
or_undefined (Some row) insn cpu = row insn cpu
or_undefined None insn cpu = fault (plain_exception invalid_opcode)

abbrev pub row_of : Insn → Cpu → Tree Finish
row_of insn cpu = or_undefined (row_at insn.row) insn cpu
