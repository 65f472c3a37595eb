use Rattle.std.specs.Prelude.{◌*◌, if◌then◌else◌}
use Rattle.xe_ctx.specs.Definition.{ℕ, Bool, nat_lt, Cpu, Insn, Tree, ◌>>=◌, size_by_opcode, operand_of, opcode_register, read_for_write, write_operand, ends}
use Rattle.xe_flags.specs.OneOperand.{unary_word, unary_flags}
use Rattle.xe_flags.specs.declared.one_operand.UnOp.{UnOp}
use Rattle.xe_ctx.specs.declared.operand.Operand.{Operand}
use Rattle.xe_ctx.specs.declared.operand.Operand.TheVariants.{Register}
use Rattle.xe_ctx.specs.declared.stop.Finish.{Finish}
use Rattle.xe_move.specs.Sized.{low, with_flags}

-- Operations on one operand (SDM volume 2, "INC", "DEC", "NOT" and "NEG").

-- the opcode names the register: 40 to 4F
abbrev pub is_by_opcode : ℕ → Bool
is_by_opcode opcode = nat_lt opcode 0x50

-- a register that the opcode names has the operand size; of E the last bit of the opcode says the size
abbrev pub unary_size : Insn → ℕ
unary_size insn = if is_by_opcode insn.opcode then insn.opsize else size_by_opcode insn

abbrev pub unary_target : Insn → Cpu → Operand
unary_target insn cpu = if is_by_opcode insn.opcode then Register (opcode_register insn) else operand_of insn cpu

abbrev pub unary_row : UnOp → Insn → Cpu → Tree Finish
unary_row op insn cpu = do
  let n = unary_size insn
  a ← read_for_write insn cpu (unary_target insn cpu) n
  after ← write_operand insn (with_flags cpu (unary_flags (8 * n) op (low n a) cpu.rflags)) (unary_target insn cpu) n (unary_word (8 * n) op (low n a))
  ends insn after
