use Rattle.xe_base.specs.Exceptions.{plain_exception, invalid_opcode}
use Rattle.xe_opmap.specs.declared.row.Row.{Row}
use Rattle.xe_opmap.specs.declared.row.Row.TheVariants as row
use Rattle.xe_flags.specs.declared.arithmetic.AluOp.TheVariants as AluOp
use Rattle.xe_flags.specs.declared.one_operand.UnOp.TheVariants as UnOp
use Rattle.xe_flags.specs.declared.shifts.ShiftOp.TheVariants as ShiftOp
use Rattle.xe_flags.specs.declared.decimals.BcdOp.TheVariants as BcdOp
use Rattle.xe_flags.specs.declared.bits.BitOp.TheVariants as BitOp
use Rattle.xe_flags.specs.declared.scans.ScanOp.TheVariants as ScanOp
use Rattle.xe_ctx.specs.Definition.{Bool, true, false, Option, Some, None, Cpu, Insn, Tree, fault}
use Rattle.xe_ctx.specs.Operand.{is_some}
use Rattle.xe_ctx.specs.declared.stop.Finish.{Finish}
use Rattle.xe_arith.specs.Alu.{alu_row, cmp_row, test_row}
use Rattle.xe_arith.specs.Bit.{bt_row, bit_row, scan_row}
use Rattle.xe_arith.specs.Decimal.{decimal_row}
use Rattle.xe_arith.specs.Exchange.{xadd_row, cmpxchg_row, cmpxchg8b_row}
use Rattle.xe_arith.specs.Multiply.{mul_row, imul_row, div_row}
use Rattle.xe_arith.specs.Shift.{shift_row, double_row}
use Rattle.xe_arith.specs.Unary.{unary_row}

-- The rows of this crate.

-- what an instruction of each row does, from the registers; none for the rows that aren't of this crate
abbrev pub row_at : Row → Option (Insn → Cpu → Tree Finish)
row_at row.Add = Some (alu_row AluOp.Add)
row_at row.Or = Some (alu_row AluOp.Or)
row_at row.Adc = Some (alu_row AluOp.Adc)
row_at row.Sbb = Some (alu_row AluOp.Sbb)
row_at row.And = Some (alu_row AluOp.And)
row_at row.Sub = Some (alu_row AluOp.Sub)
row_at row.Xor = Some (alu_row AluOp.Xor)
row_at row.Cmp = Some cmp_row
row_at row.Test = Some test_row
row_at row.Inc = Some (unary_row UnOp.Inc)
row_at row.Dec = Some (unary_row UnOp.Dec)
row_at row.Not = Some (unary_row UnOp.Not)
row_at row.Neg = Some (unary_row UnOp.Neg)
row_at row.Rol = Some (shift_row ShiftOp.Rol)
row_at row.Ror = Some (shift_row ShiftOp.Ror)
row_at row.Rcl = Some (shift_row ShiftOp.Rcl)
row_at row.Rcr = Some (shift_row ShiftOp.Rcr)
row_at row.Shl = Some (shift_row ShiftOp.Shl)
row_at row.Shr = Some (shift_row ShiftOp.Shr)
row_at row.Sar = Some (shift_row ShiftOp.Sar)
row_at row.Shld = Some (double_row true)
row_at row.Shrd = Some (double_row false)
row_at row.Mul = Some (mul_row false)
row_at row.Imul = Some imul_row
row_at row.Div = Some (div_row false)
row_at row.Idiv = Some (div_row true)
row_at row.Daa = Some (decimal_row BcdOp.Daa)
row_at row.Das = Some (decimal_row BcdOp.Das)
row_at row.Aaa = Some (decimal_row BcdOp.Aaa)
row_at row.Aas = Some (decimal_row BcdOp.Aas)
row_at row.Aam = Some (decimal_row BcdOp.Aam)
row_at row.Aad = Some (decimal_row BcdOp.Aad)
row_at row.Bt = Some bt_row
row_at row.Bts = Some (bit_row BitOp.Set)
row_at row.Btr = Some (bit_row BitOp.Reset)
row_at row.Btc = Some (bit_row BitOp.Flip)
row_at row.Bsf = Some (scan_row ScanOp.Forward)
row_at row.Bsr = Some (scan_row ScanOp.Backward)
row_at row.Popcnt = Some (scan_row ScanOp.Count)
row_at row.Xadd = Some xadd_row
row_at row.Cmpxchg = Some cmpxchg_row
row_at row.Cmpxchg8b = Some cmpxchg8b_row
row_at other = None

abbrev pub is_row : Row → Bool
is_row r = is_some (row_at r)

-- an instruction of another row would be undefined
abbrev pub or_undefined : Option (Insn → Cpu → Tree Finish) → Insn → Cpu → Tree Finish
or_undefined (Some row) insn cpu = row insn cpu
or_undefined None insn cpu = fault (plain_exception invalid_opcode)

abbrev pub row_of : Insn → Cpu → Tree Finish
row_of insn cpu = or_undefined (row_at insn.row) insn cpu
