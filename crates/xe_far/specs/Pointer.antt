use Rattle.std.specs.Prelude.{◌+◌, ◌*◌, ◌%◌, ◌^◌}
use Rattle.xe_ctx.specs.Definition.{ℕ, Option, Some, None, Cpu, Insn, Tree, ◌>>=◌, give, fault, load, operand_of}
use Rattle.xe_base.specs.Exceptions.{plain_exception, invalid_opcode}
use Rattle.xe_base.specs.declared.segment.SegName.{SegName}
use Rattle.xe_modrm.specs.declared.part.ModRm.{ModRm}
use Rattle.xe_ctx.specs.Stack.{stack_load}
use Rattle.xe_ctx.specs.declared.operand.Operand.{Operand}
use Rattle.xe_ctx.specs.declared.operand.Operand.TheVariants.{Register, Memory}
use Rattle.xe_far.specs.declared.pointer.FarPointer.{FarPointer}

-- Far pointers (SDM volume 1, "Pointer Data Types").

-- an offset of n bytes and a selector of 2, from numbers that may have more
abbrev pub pointer_of : ℕ → ℕ → ℕ → FarPointer
pointer_of n offset sel = record { sel = sel % 2 ^ 16; offset = offset % 2 ^ (8 * n) }

-- in memory: the offset, and behind it the selector, whose place wraps in the address size
unfoldable pub load_pointer : Insn → SegName → ℕ → Tree FarPointer
load_pointer insn seg offset = do
  target ← load seg offset insn.opsize
  sel ← load seg ((offset + insn.opsize) % 2 ^ (8 * insn.adsize)) 2
  give (pointer_of insn.opsize target sel)

-- a register holds none
abbrev pub pointer_at : Insn → Operand → Tree FarPointer
pointer_at insn (Register r) = fault (plain_exception invalid_opcode)
pointer_at insn (Memory seg offset) = load_pointer insn seg offset

-- without a ModRM byte the two immediates
abbrev pub pointer_or : Insn → Cpu → Option ModRm → Tree FarPointer
pointer_or insn cpu None = give (pointer_of insn.opsize insn.imm insn.imm2)
pointer_or insn cpu (Some m) = pointer_at insn (operand_of insn cpu)

-- where a far call or jump goes
unfoldable pub far_pointer : Insn → Cpu → Tree FarPointer
far_pointer insn cpu = pointer_or insn cpu insn.modrm

-- on the stack, so many bytes above its top: the offset, and above it the selector in the low bytes of a number of the same size
unfoldable pub pop_pointer : Insn → Cpu → ℕ → Tree FarPointer
pop_pointer insn cpu above = do
  offset ← stack_load cpu above insn.opsize
  sel ← stack_load cpu (above + insn.opsize) insn.opsize
  give (pointer_of insn.opsize offset sel)
