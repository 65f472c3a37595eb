use Rattle.xe_flags.specs.Arithmetic.{alu_word, alu_flags}
use Rattle.xe_flags.specs.declared.arithmetic.AluOp.{AluOp}
use Rattle.xe_flags.specs.declared.arithmetic.AluOp.TheVariants.{And, Cmp}
use Rattle.std.specs.Prelude.{◌*◌, ◌/◌, ◌%◌, ◌==◌, ◌&&◌, ◌||◌, if◌then◌else◌}
use Rattle.xe_ctx.specs.Definition.{ℕ, Bool, nat_lt, not, Cpu, Insn, Tree, ◌>>=◌, size_by_opcode, operand_of, reg_of, read_operand, read_for_write, write_operand, ends}
use Rattle.xe_ctx.specs.declared.operand.Operand.{Operand}
use Rattle.xe_ctx.specs.declared.operand.Operand.TheVariants.{Register}
use Rattle.xe_ctx.specs.declared.stop.Finish.{Finish}
use Rattle.xe_move.specs.Sized.{low, with_flags}
use Rattle.xe_move.specs.Source.{read_source}
use Rattle.xe_move.specs.declared.source.Source.{Source}
use Rattle.xe_move.specs.declared.source.Source.TheVariants.{Number, Place}

-- Operations on two operands (SDM volume 2, "ADD", "OR", "ADC", "SBB", "AND", "SUB", "XOR", "CMP" and "TEST"). The eight
-- share their forms: of each eight opcodes below 40, the first two are E with G, the next two G with E, then the
-- accumulator with an immediate; 80 to 83 are E with an immediate.

-- G is computed from E
abbrev pub is_from_e : ℕ → Bool
is_from_e opcode = nat_lt opcode 0x40 && opcode / 2 % 4 == 1

-- the second operand is an immediate
abbrev pub is_immediate : ℕ → Bool
is_immediate opcode = not (nat_lt opcode 0x40) || not (nat_lt (opcode / 2 % 4) 2)

-- the operand that is changed or compared
abbrev pub alu_target : Insn → Cpu → Operand
alu_target insn cpu = if is_from_e insn.opcode then Register (reg_of insn) else operand_of insn cpu

-- the other one
abbrev pub alu_source : Insn → Cpu → Source
alu_source insn cpu =
    if is_immediate insn.opcode then Number insn.imm
    else (if is_from_e insn.opcode then Place (operand_of insn cpu) else Place (Register (reg_of insn)))

-- ADD OR ADC SBB AND SUB XOR
abbrev pub alu_row : AluOp → Insn → Cpu → Tree Finish
alu_row op insn cpu = do
  let n = size_by_opcode insn
  a ← read_for_write insn cpu (alu_target insn cpu) n
  b ← read_source insn cpu (alu_source insn cpu) n
  after ← write_operand insn (with_flags cpu (alu_flags (8 * n) op (low n a) (low n b) cpu.rflags)) (alu_target insn cpu) n (alu_word (8 * n) op (low n a) (low n b) cpu.rflags)
  ends insn after

-- CMP: nothing is written but the flags
abbrev pub cmp_row : Insn → Cpu → Tree Finish
cmp_row insn cpu = do
  let n = size_by_opcode insn
  a ← read_operand insn cpu (alu_target insn cpu) n
  b ← read_source insn cpu (alu_source insn cpu) n
  ends insn (with_flags cpu (alu_flags (8 * n) Cmp (low n a) (low n b) cpu.rflags))

-- TEST: 84 85: E with G. A8 A9: the accumulator with an immediate. F6 F7: E with an immediate
abbrev pub test_is_immediate : ℕ → Bool
test_is_immediate opcode = not (nat_lt opcode 0xA8)

abbrev pub test_source : Insn → Source
test_source insn = if test_is_immediate insn.opcode then Number insn.imm else Place (Register (reg_of insn))

abbrev pub test_row : Insn → Cpu → Tree Finish
test_row insn cpu = do
  let n = size_by_opcode insn
  a ← read_operand insn cpu (operand_of insn cpu) n
  b ← read_source insn cpu (test_source insn) n
  ends insn (with_flags cpu (alu_flags (8 * n) And (low n a) (low n b) cpu.rflags))
