use Rattle.std.proofs.Common.{ℕ}
use Rattle.xe_base.specs.declared.cpu.Cpu.{Cpu}
use Rattle.xe_opmap.specs.declared.insn.Insn.{Insn}
use Rattle.xe_opmap.specs.declared.row.Row.{Row}
use Rattle.xe_opmap.specs.declared.row.Row.TheVariants as row
use Rattle.xe_ctx.specs.Bounds.{TakesAtMost}
use Rattle.xe_ctx.specs.Operand.{IsOf, size_by_opcode, read_operand, read_for_write, write_operand}
use Rattle.xe_ctx.specs.Tree.{Tree, ◌>>=◌}
use Rattle.xe_ctx.specs.declared.operand.Operand.{Operand}
use Rattle.xe_ctx.specs.declared.stop.Finish.{Finish}
use Rattle.xe_ctx.proofs.BoundLaws.{takes_then}
use Rattle.xe_ctx.proofs.RowBounds.{Small, small-1, small-2, small-4, small-of, small-if, read, fetch, write}
use Rattle.xe_move.specs.Condition.{cmov_row, set_row}
use Rattle.xe_move.specs.Extend.{narrow_size, movzx_row, movsx_row}
use Rattle.xe_move.specs.Moves.{move_size, mov_row, exchange_size, xchg_row, xlat_row}
use Rattle.xe_move.specs.Rows.{row_at, or_undefined, row_of}
use Rattle.xe_move.specs.Source.{read_source}
use Rattle.xe_move.specs.declared.source.Source.{Source}
use Rattle.xe_move.specs.declared.source.Source.TheVariants.{Number, Place}

-- ---- the parts of a row

module _ (insn : Insn) (cpu : Cpu) where
  pub source : (from : Source) (n : ℕ) → Small n → TakesAtMost 1 4 10 (read_source insn cpu from n)
  unfolding read_source
  source (Number value) n s = tt
  source (Place operand) n s = read insn cpu operand n s

  -- an operand is read, and then nothing is asked
  read_alone : (operand : Operand) (n : ℕ) (f : ℕ → Tree Finish) → Small n → ((a : ℕ) → TakesAtMost 63 6 26 (f a)) → TakesAtMost 64 10 36 (read_operand insn cpu operand n >>= f)
  read_alone operand n f s rest = takes_then f 63 6 26 rest 1 4 10 _ (read insn cpu operand n s)

  -- an operand is read and written
  read_and_written : (operand : Operand) (n : ℕ) (f : ℕ → Tree Finish) → Small n → ((a : ℕ) → TakesAtMost 63 6 26 (f a)) → TakesAtMost 64 10 36 (read_for_write insn cpu operand n >>= f)
  read_and_written operand n f s rest = takes_then f 63 6 26 rest 1 4 10 _ (fetch insn cpu operand n s)

  last : (after : Cpu) (operand : Operand) (n value : ℕ) (f : Cpu → Tree Finish) → Small n → ((c : Cpu) → TakesAtMost 62 2 8 (f c)) → TakesAtMost 63 6 26 (write_operand insn after operand n value >>= f)
  last after operand n value f s rest = takes_then f 62 2 8 rest 1 4 18 _ (write insn cpu after operand n value s)

-- ---- the rows

module _ (insn : Insn) (cpu : Cpu) (of_ : IsOf cpu insn) where
  small-operand : Small insn.opsize
  small-operand = small-of insn.opsize of_.parts.opsize

  small-by : Small (size_by_opcode insn)
  small-by = small-if _ 1 insn.opsize small-1 small-operand

  small-move : Small (move_size insn)
  small-move = small-if _ (size_by_opcode insn) _ small-by (small-if _ 1 insn.opsize small-1 small-operand)

  small-exchange : Small (exchange_size insn)
  small-exchange = small-if _ (size_by_opcode insn) insn.opsize small-by small-operand

  small-narrow : Small (narrow_size insn)
  small-narrow = small-if _ _ _ (small-if _ 2 4 small-2 small-4) (small-if _ 1 2 small-1 small-2)

  most_mov : TakesAtMost 64 10 36 (mov_row insn cpu)
  most_mov = takes_then _ 63 6 26 (λ value. last insn cpu cpu _ _ value _ small-move (λ after. tt)) 1 4 10 _ (source insn cpu _ _ small-move)

  most_xchg : TakesAtMost 64 10 36 (xchg_row insn cpu)
  most_xchg = read_and_written insn cpu _ _ _ small-exchange (λ value. last insn cpu _ _ _ _ _ small-exchange (λ after. tt))

  most_xlat : TakesAtMost 64 10 36 (xlat_row insn cpu)
  most_xlat = read_alone insn cpu _ _ _ small-1 (λ value. tt)

  most_cmov : TakesAtMost 64 10 36 (cmov_row insn cpu)
  most_cmov = read_alone insn cpu _ _ _ small-operand (λ value. tt)

  most_set : TakesAtMost 64 10 36 (set_row insn cpu)
  most_set = takes_then _ 63 6 18 (λ after. tt) 1 4 18 _ (write insn cpu _ _ _ _ small-1)

  most_movzx : TakesAtMost 64 10 36 (movzx_row insn cpu)
  most_movzx = read_alone insn cpu _ _ _ small-narrow (λ value. tt)

  most_movsx : TakesAtMost 64 10 36 (movsx_row insn cpu)
  most_movsx = read_alone insn cpu _ _ _ small-narrow (λ value. tt)

  taken_at : (r : Row) → TakesAtMost 64 10 36 (or_undefined (row_at r) insn cpu)
  taken_at row.Mov = most_mov
  taken_at row.Lea = tt
  taken_at row.Xchg = most_xchg
  taken_at row.Nop = tt
  taken_at row.Cmc = tt
  taken_at row.Clc = tt
  taken_at row.Stc = tt
  taken_at row.Cld = tt
  taken_at row.Std = tt
  taken_at row.Sahf = tt
  taken_at row.Lahf = tt
  taken_at row.Cmov = most_cmov
  taken_at row.Set = most_set
  taken_at row.Cbw = tt
  taken_at row.Cwd = tt
  taken_at row.Movzx = most_movzx
  taken_at row.Movsx = most_movsx
  taken_at row.Movsxd = most_movsx
  taken_at row.Xlat = most_xlat
  taken_at row.Bswap = tt
  taken_at other = tt

-- the law of the whole crate
pub rows_take_little : (insn : Insn) (cpu : Cpu) → IsOf cpu insn → TakesAtMost 64 10 36 (row_of insn cpu)
rows_take_little insn cpu of_ = taken_at insn cpu of_ insn.row
