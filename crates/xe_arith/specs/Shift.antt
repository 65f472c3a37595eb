use Rattle.std.specs.Prelude.{◌*◌, ◌%◌, ◌^◌, ◌==◌, ◌||◌, if◌then◌else◌}
use Rattle.xe_ctx.specs.Definition.{ℕ, Bool, nat_lt, Cpu, Insn, Tree, ◌>>=◌, cx, size_by_opcode, operand_of, reg_of, reads, read_for_write, write_operand, ends}
use Rattle.xe_flags.specs.DoubleShifts.{double_word, double_flags}
use Rattle.xe_flags.specs.Shifts.{shift_word, shift_flags}
use Rattle.xe_flags.specs.declared.shifts.ShiftOp.{ShiftOp}
use Rattle.xe_ctx.specs.declared.stop.Finish.{Finish}
use Rattle.xe_move.specs.Sized.{low, with_flags}

-- Shifts and rotates (SDM volume 2, "RCL/RCR/ROL/ROR", "SAL/SAR/SHL/SHR", "SHLD" and "SHRD"). A count that changes nothing
-- writes its operand all the same.

-- by an immediate byte: opcodes C0 and C1. By one: opcodes D0 and D1. The others, opcodes D2 and D3, are by CL
abbrev pub is_by_immediate : ℕ → Bool
is_by_immediate opcode = nat_lt opcode 0xD0

abbrev pub is_by_one : ℕ → Bool
is_by_one opcode = opcode == 0xD0 || opcode == 0xD1

abbrev pub shift_count : Insn → Cpu → ℕ
shift_count insn cpu = if is_by_immediate insn.opcode then insn.imm % 2 ^ 8 else (if is_by_one insn.opcode then 1 else reads insn cpu 1 cx)

abbrev pub shift_row : ShiftOp → Insn → Cpu → Tree Finish
shift_row op insn cpu = do
  let n = size_by_opcode insn
  let count = shift_count insn cpu
  a ← read_for_write insn cpu (operand_of insn cpu) n
  after ← write_operand insn (with_flags cpu (shift_flags (8 * n) op (low n a) count cpu.rflags)) (operand_of insn cpu) n (shift_word (8 * n) op (low n a) count cpu.rflags)
  ends insn after

-- a double shift by an immediate byte: opcodes 0F A4 and 0F AC. The others, opcodes 0F A5 and 0F AD, are by CL
abbrev pub double_is_by_immediate : ℕ → Bool
double_is_by_immediate opcode = opcode % 2 == 0

abbrev pub double_count : Insn → Cpu → ℕ
double_count insn cpu = if double_is_by_immediate insn.opcode then insn.imm % 2 ^ 8 else reads insn cpu 1 cx

abbrev pub double_row : Bool → Insn → Cpu → Tree Finish
double_row left insn cpu = do
  let n = insn.opsize
  let count = double_count insn cpu
  let b = low n (reads insn cpu n (reg_of insn))
  a ← read_for_write insn cpu (operand_of insn cpu) n
  after ← write_operand insn (with_flags cpu (double_flags (8 * n) left (low n a) b count cpu.rflags)) (operand_of insn cpu) n (double_word (8 * n) left (low n a) b count)
  ends insn after
