use Rattle.std.proofs.Common.{ℕ, ◌≤◌, ◌*◌, Bool, true, false, Option, Some, None, arith, lit≤, if◌then◌else◌, ◌==◌, ◌&&◌}
use Rattle.xe_base.specs.Exceptions.{plain_exception, exception, divide_error, general_protection}
use Rattle.xe_base.specs.State.{mode_of}
use Rattle.xe_base.specs.declared.cpu.Cpu.{Cpu}
use Rattle.xe_base.specs.declared.segment.SegName.{SegName}
use Rattle.xe_flags.specs.Decimals.{bcd_ax, bcd_flags}
use Rattle.xe_flags.specs.declared.arithmetic.AluOp.{AluOp}
use Rattle.xe_flags.specs.declared.bits.BitOp.{BitOp}
use Rattle.xe_flags.specs.declared.decimals.BcdOp.{BcdOp}
use Rattle.xe_flags.specs.declared.one_operand.UnOp.{UnOp}
use Rattle.xe_flags.specs.declared.scans.ScanOp.{ScanOp}
use Rattle.xe_flags.specs.declared.shifts.ShiftOp.{ShiftOp}
use Rattle.xe_opmap.specs.declared.insn.Insn.{Insn}
use Rattle.xe_opmap.specs.declared.row.Row.{Row}
use Rattle.xe_opmap.specs.declared.row.Row.TheVariants as row
use Rattle.xe_ctx.specs.Bounds.{TakesAtMost}
use Rattle.xe_ctx.specs.Chunks.{most}
use Rattle.xe_ctx.specs.Operand.{IsOf, ax, reads, writes, ends, size_by_opcode, operand_of, read_operand, read_for_write, write_operand}
use Rattle.xe_ctx.specs.Tree.{Tree, ◌>>=◌, fault, load_for_write, store}
use Rattle.xe_ctx.specs.declared.operand.Operand.{Operand}
use Rattle.xe_ctx.specs.declared.operand.Operand.TheVariants.{Register, Memory}
use Rattle.xe_ctx.specs.declared.stop.Finish.{Finish}
use Rattle.xe_ctx.proofs.BoundLaws.{takes_then, takes_if}
use Rattle.xe_ctx.proofs.RowBounds.{Small, small-1, small-of, small-if, read, fetch, write}
use Rattle.xe_arith.specs.Alu.{alu_row, cmp_row, test_row}
use Rattle.xe_arith.specs.Bit.{bt_row, bit_row, scan_row}
use Rattle.xe_arith.specs.Decimal.{divides, decimal_row}
use Rattle.xe_arith.specs.Exchange.{xadd_row, put_back, compared, cmpxchg_row, half_size, is_misaligned, pair_row, pair_at, cmpxchg8b_row}
use Rattle.xe_arith.specs.Multiply.{mul_row, imul_to_register, imul_row, quotient_row, div_row}
use Rattle.xe_arith.specs.Rows.{row_at, or_undefined, row_of}
use Rattle.xe_arith.specs.Shift.{shift_row, double_row}
use Rattle.xe_move.specs.Sized.{low, with_flags}
use Rattle.xe_move.proofs.BoundRows.{source}
use Rattle.xe_arith.specs.Unary.{unary_size, unary_row}

-- ---- the parts of a row

module _ (insn : Insn) (cpu : Cpu) where
  back : (after : Cpu) (operand : Operand) (n value : ℕ) → Small n → TakesAtMost 1 4 18 (put_back insn after operand n value)
  unfolding put_back
  back after (Register r) n value s = tt
  back after (Memory seg offset) n value s = write insn cpu after (Memory seg offset) n value s

  chosen : (after : Cpu) (operand : Operand) (n value : ℕ) → Small n → TakesAtMost 1 4 18 (compared insn after operand n value)
  unfolding compared
  chosen after operand n value s = takes_if 1 4 18 _ _ _ (write insn cpu after operand n _ s) (back _ operand n value s)

  -- an operand is read, and then nothing is asked
  read_alone : (operand : Operand) (n : ℕ) (f : ℕ → Tree Finish) → Small n → ((a : ℕ) → TakesAtMost 63 8 28 (f a)) → TakesAtMost 64 12 38 (read_operand insn cpu operand n >>= f)
  read_alone operand n f s rest = takes_then f 63 8 28 rest 1 4 10 _ (read insn cpu operand n s)

  -- an operand is read and written
  read_and_written : (operand : Operand) (n : ℕ) (f : ℕ → Tree Finish) → Small n → ((a : ℕ) → TakesAtMost 63 8 28 (f a)) → TakesAtMost 64 12 38 (read_for_write insn cpu operand n >>= f)
  read_and_written operand n f s rest = takes_then f 63 8 28 rest 1 4 10 _ (fetch insn cpu operand n s)

  last : (after : Cpu) (operand : Operand) (n value : ℕ) (f : Cpu → Tree Finish) → Small n → ((c : Cpu) → TakesAtMost 62 4 10 (f c)) → TakesAtMost 63 8 28 (write_operand insn after operand n value >>= f)
  last after operand n value f s rest = takes_then f 62 4 10 rest 1 4 18 _ (write insn cpu after operand n value s)

-- ---- both halves of a pair

record Wide (n : ℕ) : Type 0 where
  chunks : most n ≤ 5
  bytes : n ≤ 16

wide-half : (b : Bool) → Wide (2 * (if b then 8 else 4))
wide-half true = record { chunks = lit≤ tt; bytes = lit≤ tt }
wide-half false = record { chunks = lit≤ tt; bytes = lit≤ tt }

wide-loaded : (seg : SegName) (offset n : ℕ) → Wide n → TakesAtMost 1 5 10 (load_for_write seg offset n)
unfolding load_for_write
wide-loaded seg offset n w = (record { one = lit≤ tt; accesses_ = w.chunks; bytes_ = lit≤ tt }, λ a. tt)

wide-stored : (seg : SegName) (offset n value : ℕ) → Wide n → TakesAtMost 1 5 26 (store seg offset n value)
unfolding store
wide-stored seg offset n value w = (let b = w.bytes in record { one = lit≤ tt; accesses_ = w.chunks; bytes_ = omega arith }, λ a. tt)

-- ---- the rows

module _ (insn : Insn) (cpu : Cpu) (of_ : IsOf cpu insn) where
  small-operand : Small insn.opsize
  small-operand = small-of insn.opsize of_.parts.opsize

  small-by : Small (size_by_opcode insn)
  small-by = small-if _ 1 insn.opsize small-1 small-operand

  small-unary : Small (unary_size insn)
  small-unary = small-if _ insn.opsize (size_by_opcode insn) small-operand small-by

  most_alu : (op : AluOp) → TakesAtMost 64 12 38 (alu_row op insn cpu)
  most_alu op = read_and_written insn cpu _ _ _ small-by (λ a. takes_then _ 62 4 18 (λ b. takes_then _ 61 0 0 (λ after. tt) 1 4 18 _ (write insn cpu _ _ _ _ small-by)) 1 4 10 _ (source insn cpu _ _ small-by))

  most_cmp : TakesAtMost 64 12 38 (cmp_row insn cpu)
  most_cmp = read_alone insn cpu _ _ _ small-by (λ a. takes_then _ 62 4 18 (λ b. tt) 1 4 10 _ (source insn cpu _ _ small-by))

  most_test : TakesAtMost 64 12 38 (test_row insn cpu)
  most_test = read_alone insn cpu _ _ _ small-by (λ a. takes_then _ 62 4 18 (λ b. tt) 1 4 10 _ (source insn cpu _ _ small-by))

  most_unary : (op : UnOp) → TakesAtMost 64 12 38 (unary_row op insn cpu)
  most_unary op = read_and_written insn cpu _ _ _ small-unary (λ a. last insn cpu _ _ _ _ _ small-unary (λ after. tt))

  most_shift : (op : ShiftOp) → TakesAtMost 64 12 38 (shift_row op insn cpu)
  most_shift op = read_and_written insn cpu _ _ _ small-by (λ a. last insn cpu _ _ _ _ _ small-by (λ after. tt))

  most_double : (left : Bool) → TakesAtMost 64 12 38 (double_row left insn cpu)
  most_double left = read_and_written insn cpu _ _ _ small-operand (λ a. last insn cpu _ _ _ _ _ small-operand (λ after. tt))

  most_mul : (is_signed : Bool) → TakesAtMost 64 12 38 (mul_row is_signed insn cpu)
  most_mul is_signed = read_alone insn cpu _ _ _ small-by (λ b. tt)

  most_imul : TakesAtMost 64 12 38 (imul_row insn cpu)
  most_imul = takes_if 64 12 38 _ (mul_row true insn cpu) (imul_to_register insn cpu) (most_mul true) (read_alone insn cpu _ _ _ small-operand (λ a. tt))

  no-more : (n : ℕ) (o : Option (ℕ × ℕ)) → TakesAtMost 63 8 28 (quotient_row insn cpu n o)
  no-more n None = tt
  no-more n (Some pair) = tt

  most_div : (is_signed : Bool) → TakesAtMost 64 12 38 (div_row is_signed insn cpu)
  most_div is_signed = read_alone insn cpu _ _ _ small-by (λ by. no-more _ _)

  most_decimal : (op : BcdOp) → TakesAtMost 64 12 38 (decimal_row op insn cpu)
  most_decimal op =
      let word = low 2 (reads insn cpu 2 ax) in
      let imm = low 1 insn.imm in
      let after : Cpu = writes insn (with_flags cpu (bcd_flags op word imm cpu.rflags)) 2 ax (bcd_ax op word imm cpu.rflags) in
      takes_if 64 12 38 (divides op && imm == 0) (fault (plain_exception divide_error)) (ends insn after) tt tt

  most_bt : TakesAtMost 64 12 38 (bt_row insn cpu)
  most_bt = read_alone insn cpu _ _ _ small-operand (λ a. tt)

  most_bit : (op : BitOp) → TakesAtMost 64 12 38 (bit_row op insn cpu)
  most_bit op = read_and_written insn cpu _ _ _ small-operand (λ a. last insn cpu _ _ _ _ _ small-operand (λ after. tt))

  most_scan : (op : ScanOp) → TakesAtMost 64 12 38 (scan_row op insn cpu)
  most_scan op = read_alone insn cpu _ _ _ small-operand (λ a. tt)

  most_xadd : TakesAtMost 64 12 38 (xadd_row insn cpu)
  most_xadd = read_and_written insn cpu _ _ _ small-by (λ a. last insn cpu _ _ _ _ _ small-by (λ after. tt))

  most_cmpxchg : TakesAtMost 64 12 38 (cmpxchg_row insn cpu)
  most_cmpxchg = read_and_written insn cpu _ _ _ small-by (λ b. takes_then _ 62 4 10 (λ after. tt) 1 4 18 _ (chosen insn cpu _ _ _ b small-by))

  most_pair : (seg : SegName) (offset : ℕ) → TakesAtMost 64 12 38 (pair_row insn cpu seg offset)
  most_pair seg offset =
      let w = wide-half (insn.opsize == 8) in
      takes_then _ 63 7 28 (λ old. takes_then _ 62 2 2 (λ u. tt) 1 5 26 _ (wide-stored seg offset (2 * half_size insn) _ w)) 1 5 10 _ (wide-loaded seg offset (2 * half_size insn) w)

  most_pair_at : (operand : Operand) → TakesAtMost 64 12 38 (pair_at insn cpu operand)
  most_pair_at (Register r) = tt
  most_pair_at (Memory seg offset) = takes_if 64 12 38 (is_misaligned insn cpu seg offset) (fault (exception (mode_of cpu) general_protection 0)) (pair_row insn cpu seg offset) tt (most_pair seg offset)

  most_cmpxchg8b : TakesAtMost 64 12 38 (cmpxchg8b_row insn cpu)
  most_cmpxchg8b = most_pair_at (operand_of insn cpu)

  taken_at : (r : Row) → TakesAtMost 64 12 38 (or_undefined (row_at r) insn cpu)
  taken_at row.Add = most_alu AluOp.Add
  taken_at row.Or = most_alu AluOp.Or
  taken_at row.Adc = most_alu AluOp.Adc
  taken_at row.Sbb = most_alu AluOp.Sbb
  taken_at row.And = most_alu AluOp.And
  taken_at row.Sub = most_alu AluOp.Sub
  taken_at row.Xor = most_alu AluOp.Xor
  taken_at row.Cmp = most_cmp
  taken_at row.Test = most_test
  taken_at row.Inc = most_unary UnOp.Inc
  taken_at row.Dec = most_unary UnOp.Dec
  taken_at row.Not = most_unary UnOp.Not
  taken_at row.Neg = most_unary UnOp.Neg
  taken_at row.Rol = most_shift ShiftOp.Rol
  taken_at row.Ror = most_shift ShiftOp.Ror
  taken_at row.Rcl = most_shift ShiftOp.Rcl
  taken_at row.Rcr = most_shift ShiftOp.Rcr
  taken_at row.Shl = most_shift ShiftOp.Shl
  taken_at row.Shr = most_shift ShiftOp.Shr
  taken_at row.Sar = most_shift ShiftOp.Sar
  taken_at row.Shld = most_double true
  taken_at row.Shrd = most_double false
  taken_at row.Mul = most_mul false
  taken_at row.Imul = most_imul
  taken_at row.Div = most_div false
  taken_at row.Idiv = most_div true
  taken_at row.Daa = most_decimal BcdOp.Daa
  taken_at row.Das = most_decimal BcdOp.Das
  taken_at row.Aaa = most_decimal BcdOp.Aaa
  taken_at row.Aas = most_decimal BcdOp.Aas
  taken_at row.Aam = most_decimal BcdOp.Aam
  taken_at row.Aad = most_decimal BcdOp.Aad
  taken_at row.Bt = most_bt
  taken_at row.Bts = most_bit BitOp.Set
  taken_at row.Btr = most_bit BitOp.Reset
  taken_at row.Btc = most_bit BitOp.Flip
  taken_at row.Bsf = most_scan ScanOp.Forward
  taken_at row.Bsr = most_scan ScanOp.Backward
  taken_at row.Popcnt = most_scan ScanOp.Count
  taken_at row.Xadd = most_xadd
  taken_at row.Cmpxchg = most_cmpxchg
  taken_at row.Cmpxchg8b = most_cmpxchg8b
  taken_at other = tt

-- the law of the whole crate
pub rows_take_little : (insn : Insn) (cpu : Cpu) → IsOf cpu insn → TakesAtMost 64 12 38 (row_of insn cpu)
rows_take_little insn cpu of_ = taken_at insn cpu of_ insn.row
