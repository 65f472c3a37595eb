use Rattle.std.proofs.Common.{ℕ, ◌≡◌, ap, subst, sym}
use Rattle.xe_base.specs.State.{code_size_of}
use Rattle.xe_base.specs.declared.cpu.Cpu.{Cpu}
use Rattle.xe_opmap.specs.Valid.{IsInsn}
use Rattle.xe_opmap.specs.declared.insn.Insn.{Insn}
use Rattle.xe_ctx.specs.Operand.{IsOf}
use Rattle.xe_ctx.specs.Stack.{with_stack_pointer}
use Rattle.xe_ctx.proofs.Tame.{Tame, tame_same, tame_register}

-- the registers with another stack pointer
pub tame_stack : {old new : Cpu} (offset : ℕ) → Tame old new → Tame old (with_stack_pointer new offset)
unfolding with_stack_pointer
tame_stack offset t = tame_register _ _ _ _ t

same-code : (old new : Cpu) → Tame old new → code_size_of new ≡ code_size_of old
same-code old new t = ap code_size_of t.rest

-- the code that runs stays the same
pub of_moved : (cpu : Cpu) (offset : ℕ) (insn : Insn) → IsOf cpu insn → IsOf (with_stack_pointer cpu offset) insn
of_moved cpu offset insn h = subst (λ size. IsInsn size insn) (sym (same-code cpu (with_stack_pointer cpu offset) (tame_stack offset (tame_same cpu)))) h
