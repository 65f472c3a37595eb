use Rattle.std.proofs.Common.{ℕ, ◌≡◌, Bool, true, false, ◌==◌, ◌&&◌, Option, Some, None, Result, Ok, Err, IfOk}
use Rattle.xe_base.specs.Exceptions.{plain_exception, exception, divide_error, general_protection}
use Rattle.xe_base.specs.State.{Valid, mode_of}
use Rattle.xe_base.specs.declared.cpu.Cpu.{Cpu}
use Rattle.xe_opmap.specs.declared.insn.Insn.{Insn}
use Rattle.xe_opmap.specs.declared.row.Row.{Row}
use Rattle.xe_opmap.specs.declared.row.Row.TheVariants as row
use Rattle.xe_flags.specs.declared.arithmetic.AluOp.{AluOp}
use Rattle.xe_flags.specs.declared.one_operand.UnOp.{UnOp}
use Rattle.xe_flags.specs.declared.shifts.ShiftOp.{ShiftOp}
use Rattle.xe_flags.specs.declared.decimals.BcdOp.{BcdOp}
use Rattle.xe_flags.specs.declared.bits.BitOp.{BitOp}
use Rattle.xe_flags.specs.declared.scans.ScanOp.{ScanOp}
use Rattle.xe_flags.proofs.FlagSet.{fixed_written, fixed_unary, fixed_shift, fixed_double}
use Rattle.xe_ctx.specs.Finishes.{EachGives, IsSound}
use Rattle.xe_ctx.specs.Operand.{IsOf, ax, has_rex, reads, writes, operand_of, ends}
use Rattle.xe_ctx.specs.Tree.{fault}
use Rattle.xe_ctx.specs.declared.operand.Operand.{Operand}
use Rattle.xe_ctx.specs.declared.operand.Operand.TheVariants.{Register, Memory}
use Rattle.xe_ctx.specs.Is.{Sight, Is}
use Rattle.xe_ctx.specs.Runs.{finished}
use Rattle.xe_ctx.specs.declared.stop.End.{End}
use Rattle.xe_ctx.specs.declared.stop.Stop.{Stop}
use Rattle.xe_ctx.proofs.FinishLaws.{each_then, each_implies, gives_of}
use Rattle.xe_base.specs.declared.segment.SegName.{SegName}
use Rattle.xe_arith.specs.Alu.{alu_row, cmp_row, test_row}
use Rattle.xe_arith.specs.Bit.{bt_row, bit_row, found_written, scan_row}
use Rattle.xe_arith.specs.Decimal.{divides, decimal_row}
use Rattle.xe_arith.specs.Exchange.{xadd_row, put_back, compared, cmpxchg_row, pair_loaded, pair_row, is_misaligned, pair_at, cmpxchg8b_row}
use Rattle.xe_arith.specs.Multiply.{pair_written, mul_row, imul_to_register, imul_row, quotient_row, div_row}
use Rattle.xe_move.specs.Sized.{low, with_flags}
use Rattle.xe_flags.specs.Decimals.{bcd_ax, bcd_flags}
use Rattle.xe_arith.specs.Shift.{shift_row, double_row}
use Rattle.xe_arith.specs.Unary.{unary_row}
use Rattle.xe_ctx.specs.Plain.{EndsPlainly}
use Rattle.xe_arith.specs.Rows.{row_at, or_undefined, row_of, is_row}
use Rattle.xe_ctx.proofs.Tame.{Tame, tame_same, tame_flags, tame_register, tame_operand, tame_if, plain_end, plain_sound, asked_then, written_end, each_if}

-- Each row ends plainly.
module _ (insn : Insn) (cpu : Cpu) where
  calm_alu : (op : AluOp) → EachGives (EndsPlainly insn cpu) (alu_row op insn cpu)
  calm_alu op = asked_then (EndsPlainly insn cpu) _ _ (λ a. asked_then (EndsPlainly insn cpu) _ _ (λ b. written_end insn cpu _ _ _ _ (tame_flags _ (tame_same cpu) (fixed_written cpu.rflags _))))

  calm_cmp : EachGives (EndsPlainly insn cpu) (cmp_row insn cpu)
  calm_cmp = asked_then (EndsPlainly insn cpu) _ _ (λ a. asked_then (EndsPlainly insn cpu) _ _ (λ b. plain_end insn cpu _ (tame_flags _ (tame_same cpu) (fixed_written cpu.rflags _))))

  calm_test : EachGives (EndsPlainly insn cpu) (test_row insn cpu)
  calm_test = asked_then (EndsPlainly insn cpu) _ _ (λ a. asked_then (EndsPlainly insn cpu) _ _ (λ b. plain_end insn cpu _ (tame_flags _ (tame_same cpu) (fixed_written cpu.rflags _))))

  calm_unary : (op : UnOp) → EachGives (EndsPlainly insn cpu) (unary_row op insn cpu)
  calm_unary op = asked_then (EndsPlainly insn cpu) _ _ (λ a. written_end insn cpu _ _ _ _ (tame_flags _ (tame_same cpu) (fixed_unary _ op _ cpu.rflags)))

  calm_shift : (op : ShiftOp) → EachGives (EndsPlainly insn cpu) (shift_row op insn cpu)
  calm_shift op = asked_then (EndsPlainly insn cpu) _ _ (λ a. written_end insn cpu _ _ _ _ (tame_flags _ (tame_same cpu) (fixed_shift _ op _ _ cpu.rflags)))

  calm_double : (left : Bool) → EachGives (EndsPlainly insn cpu) (double_row left insn cpu)
  calm_double left = asked_then (EndsPlainly insn cpu) _ _ (λ a. written_end insn cpu _ _ _ _ (tame_flags _ (tame_same cpu) (fixed_double _ left _ _ _ cpu.rflags)))

  tame_pair : (after : Cpu) (n high word : ℕ) → Tame cpu after → Tame cpu (pair_written insn after n high word)
  tame_pair after n high word t = tame_if cpu _ _ (n == 1) (tame_register _ _ _ _ t) (tame_register _ _ _ _ (tame_register _ _ _ _ t))

  calm_mul : (is_signed : Bool) → EachGives (EndsPlainly insn cpu) (mul_row is_signed insn cpu)
  calm_mul is_signed = asked_then (EndsPlainly insn cpu) _ _ (λ b. plain_end insn cpu _ (tame_pair _ _ _ _ (tame_flags _ (tame_same cpu) (fixed_written cpu.rflags _))))

  calm_imul_to : EachGives (EndsPlainly insn cpu) (imul_to_register insn cpu)
  calm_imul_to = asked_then (EndsPlainly insn cpu) _ _ (λ a. plain_end insn cpu _ (tame_register _ _ _ _ (tame_flags _ (tame_same cpu) (fixed_written cpu.rflags _))))

  calm_imul : EachGives (EndsPlainly insn cpu) (imul_row insn cpu)
  calm_imul = each_if (EndsPlainly insn cpu) _ _ _ (calm_mul true) calm_imul_to

  calm_quotient : (n : ℕ) (o : Option (ℕ × ℕ)) → EachGives (EndsPlainly insn cpu) (quotient_row insn cpu n o)
  calm_quotient n None = tt
  calm_quotient n (Some pair) = plain_end insn cpu _ (tame_pair _ _ _ _ (tame_same cpu))

  calm_div : (is_signed : Bool) → EachGives (EndsPlainly insn cpu) (div_row is_signed insn cpu)
  calm_div is_signed = asked_then (EndsPlainly insn cpu) _ _ (λ by. calm_quotient _ _)

  calm_decimal : (op : BcdOp) → EachGives (EndsPlainly insn cpu) (decimal_row op insn cpu)
  calm_decimal op =
      let word = low 2 (reads insn cpu 2 ax) in
      let imm = low 1 insn.imm in
      let after : Cpu = writes insn (with_flags cpu (bcd_flags op word imm cpu.rflags)) 2 ax (bcd_ax op word imm cpu.rflags) in
      each_if (EndsPlainly insn cpu) (divides op && imm == 0) (fault (plain_exception divide_error)) (ends insn after) tt
      (plain_end insn cpu after (tame_register 2 (has_rex insn) ax (bcd_ax op word imm cpu.rflags) (tame_flags (bcd_flags op word imm cpu.rflags) (tame_same cpu) (fixed_written cpu.rflags _))))

  calm_bt : EachGives (EndsPlainly insn cpu) (bt_row insn cpu)
  calm_bt = asked_then (EndsPlainly insn cpu) _ _ (λ a. plain_end insn cpu _ (tame_flags _ (tame_same cpu) (fixed_written cpu.rflags _)))

  calm_bit : (op : BitOp) → EachGives (EndsPlainly insn cpu) (bit_row op insn cpu)
  calm_bit op = asked_then (EndsPlainly insn cpu) _ _ (λ a. written_end insn cpu _ _ _ _ (tame_flags _ (tame_same cpu) (fixed_written cpu.rflags _)))

  tame_found : (after : Cpu) (found : Option ℕ) → Tame cpu after → Tame cpu (found_written insn after found)
  tame_found after None t = t
  tame_found after (Some value) t = tame_register _ _ _ _ t

  calm_scan : (op : ScanOp) → EachGives (EndsPlainly insn cpu) (scan_row op insn cpu)
  calm_scan op = asked_then (EndsPlainly insn cpu) _ _ (λ a. plain_end insn cpu _ (tame_found _ _ (tame_flags _ (tame_same cpu) (fixed_written cpu.rflags _))))

  calm_xadd : EachGives (EndsPlainly insn cpu) (xadd_row insn cpu)
  calm_xadd = asked_then (EndsPlainly insn cpu) _ _ (λ a. written_end insn cpu _ _ _ _ (tame_register _ _ _ a (tame_flags _ (tame_same cpu) (fixed_written cpu.rflags _))))

  tame_back : (after : Cpu) (operand : Operand) (n value : ℕ) → Tame cpu after → EachGives (Tame cpu) (put_back insn after operand n value)
  unfolding put_back
  tame_back after (Register r) n value t = t
  tame_back after (Memory seg offset) n value t = tame_operand insn cpu after (Memory seg offset) n value t

  tame_compared : (after : Cpu) (operand : Operand) (n value : ℕ) → Tame cpu after → EachGives (Tame cpu) (compared insn after operand n value)
  unfolding compared
  tame_compared after operand n value t = each_if (Tame cpu) _ _ _ (tame_operand insn cpu after operand n _ t) (tame_back _ operand n value (tame_register _ _ _ _ t))

  calm_cmpxchg : EachGives (EndsPlainly insn cpu) (cmpxchg_row insn cpu)
  calm_cmpxchg = asked_then (EndsPlainly insn cpu) _ _ (λ b. each_then (EndsPlainly insn cpu) (Tame cpu) (compared insn _ (operand_of insn cpu) _ b) _ (tame_compared _ _ _ b (tame_flags _ (tame_same cpu) (fixed_written cpu.rflags _))) (λ after t. plain_end insn cpu after t))

  tame_loaded : (old : ℕ) → Tame cpu (pair_loaded insn cpu old)
  tame_loaded old = tame_if cpu _ _ _ (tame_flags _ (tame_same cpu) (fixed_written cpu.rflags _)) (tame_register _ _ _ _ (tame_register _ _ _ _ (tame_flags _ (tame_same cpu) (fixed_written cpu.rflags _))))

  calm_pair : (seg : SegName) (offset : ℕ) → EachGives (EndsPlainly insn cpu) (pair_row insn cpu seg offset)
  calm_pair seg offset = asked_then (EndsPlainly insn cpu) _ _ (λ old. asked_then (EndsPlainly insn cpu) _ _ (λ u. plain_end insn cpu _ (tame_loaded old)))

  calm_pair_at : (operand : Operand) → EachGives (EndsPlainly insn cpu) (pair_at insn cpu operand)
  calm_pair_at (Register r) = tt
  calm_pair_at (Memory seg offset) = each_if (EndsPlainly insn cpu) (is_misaligned insn cpu seg offset) (fault (exception (mode_of cpu) general_protection 0)) (pair_row insn cpu seg offset) tt (calm_pair seg offset)

  calm_cmpxchg8b : EachGives (EndsPlainly insn cpu) (cmpxchg8b_row insn cpu)
  calm_cmpxchg8b = calm_pair_at (operand_of insn cpu)

  -- a row of this crate
  plain_at : (r : Row) → EachGives (EndsPlainly insn cpu) (or_undefined (row_at r) insn cpu)
  plain_at row.Add = calm_alu AluOp.Add
  plain_at row.Or = calm_alu AluOp.Or
  plain_at row.Adc = calm_alu AluOp.Adc
  plain_at row.Sbb = calm_alu AluOp.Sbb
  plain_at row.And = calm_alu AluOp.And
  plain_at row.Sub = calm_alu AluOp.Sub
  plain_at row.Xor = calm_alu AluOp.Xor
  plain_at row.Cmp = calm_cmp
  plain_at row.Test = calm_test
  plain_at row.Inc = calm_unary UnOp.Inc
  plain_at row.Dec = calm_unary UnOp.Dec
  plain_at row.Not = calm_unary UnOp.Not
  plain_at row.Neg = calm_unary UnOp.Neg
  plain_at row.Rol = calm_shift ShiftOp.Rol
  plain_at row.Ror = calm_shift ShiftOp.Ror
  plain_at row.Rcl = calm_shift ShiftOp.Rcl
  plain_at row.Rcr = calm_shift ShiftOp.Rcr
  plain_at row.Shl = calm_shift ShiftOp.Shl
  plain_at row.Shr = calm_shift ShiftOp.Shr
  plain_at row.Sar = calm_shift ShiftOp.Sar
  plain_at row.Shld = calm_double true
  plain_at row.Shrd = calm_double false
  plain_at row.Mul = calm_mul false
  plain_at row.Imul = calm_imul
  plain_at row.Div = calm_div false
  plain_at row.Idiv = calm_div true
  plain_at row.Daa = calm_decimal BcdOp.Daa
  plain_at row.Das = calm_decimal BcdOp.Das
  plain_at row.Aaa = calm_decimal BcdOp.Aaa
  plain_at row.Aas = calm_decimal BcdOp.Aas
  plain_at row.Aam = calm_decimal BcdOp.Aam
  plain_at row.Aad = calm_decimal BcdOp.Aad
  plain_at row.Bt = calm_bt
  plain_at row.Bts = calm_bit BitOp.Set
  plain_at row.Btr = calm_bit BitOp.Reset
  plain_at row.Btc = calm_bit BitOp.Flip
  plain_at row.Bsf = calm_scan ScanOp.Forward
  plain_at row.Bsr = calm_scan ScanOp.Backward
  plain_at row.Popcnt = calm_scan ScanOp.Count
  plain_at row.Xadd = calm_xadd
  plain_at row.Cmpxchg = calm_cmpxchg
  plain_at row.Cmpxchg8b = calm_cmpxchg8b
  plain_at other = tt

-- the laws of the whole crate
pub rows_plain : (insn : Insn) (cpu : Cpu) → is_row insn.row ≡ true → EachGives (EndsPlainly insn cpu) (row_of insn cpu)
rows_plain insn cpu built = plain_at insn cpu insn.row

pub rows_sound : (insn : Insn) (cpu : Cpu) → is_row insn.row ≡ true → IsOf cpu insn → Valid cpu → EachGives IsSound (row_of insn cpu)
rows_sound insn cpu built of valid = each_implies (EndsPlainly insn cpu) IsSound (plain_sound insn cpu valid) (row_of insn cpu) (rows_plain insn cpu built)

-- an instruction that finishes leaves a valid state
pub finish_sound : (insn : Insn) (cpu after : Cpu) (res : Result End Stop) (old new : Sight) → is_row insn.row ≡ true → IsOf cpu insn → Is (row_of insn cpu) old (finished res after) new → Valid cpu → IfOk (finished res after) IsSound
finish_sound insn cpu after (Ok e) old new built of_ ran valid = gives_of IsSound (row_of insn cpu) _ old new (rows_sound insn cpu built of_ valid) ran
finish_sound insn cpu after (Err s) old new built of_ ran valid = tt
