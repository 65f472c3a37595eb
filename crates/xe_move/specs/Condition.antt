use Rattle.std.specs.Prelude.{◌%◌, if◌then◌else◌}
use Rattle.xe_ctx.specs.Definition.{Bool, Cpu, Insn, Tree, ◌>>=◌, operand_of, reg_of, reads, writes, read_operand, write_operand, ends}
use Rattle.std.specs.Int.{from_bool}
use Rattle.xe_flags.specs.Conditions.{condition}
use Rattle.xe_ctx.specs.declared.stop.Finish.{Finish}

-- Instructions under a condition (SDM volume 2, "CMOVcc" and "SETcc").

-- the condition of the opcode's last four bits
abbrev pub holds : Insn → Cpu → Bool
holds insn cpu = condition (insn.opcode % 16) cpu.rflags

-- CMOVcc: E is read in any case. Where the condition doesn't hold, G gets its own number, which in 64-bit mode clears bits
-- 63:32 of a register of 32 bits, and changes nothing else
abbrev pub cmov_row : Insn → Cpu → Tree Finish
cmov_row insn cpu = do
  value ← read_operand insn cpu (operand_of insn cpu) insn.opsize
  ends insn (writes insn cpu insn.opsize (reg_of insn) (if holds insn cpu then value else reads insn cpu insn.opsize (reg_of insn)))

-- SETcc: a byte, 1 where the condition holds and 0 where it doesn't
abbrev pub set_row : Insn → Cpu → Tree Finish
set_row insn cpu = do
  after ← write_operand insn cpu (operand_of insn cpu) 1 (from_bool (holds insn cpu))
  ends insn after
