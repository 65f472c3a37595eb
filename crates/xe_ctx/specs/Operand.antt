use Rattle.std.specs.Prelude.{ℕ, Bool, true, false, ◌+◌, ◌*◌, ◌/◌, ◌%◌, ◌^◌, ◌<◌, ◌==◌, if◌then◌else◌, Option, Some, None}
use Rattle.xe_base.specs.Registers.{next_rip, register_value, with_register}
use Rattle.xe_base.specs.State.{code_size_of}
use Rattle.xe_base.specs.declared.cpu.Cpu.{Cpu}
use Rattle.xe_modrm.specs.Address.{effective_offset, effective_segment}
use Rattle.xe_modrm.specs.declared.part.ModRm.{ModRm}
use Rattle.xe_opmap.specs.Valid.{IsInsn}
use Rattle.xe_opmap.specs.declared.insn.Insn.{Insn}
use Rattle.xe_ctx.specs.Tree.{Tree, ◌>>=◌, give, load, load_for_write, store}
use Rattle.xe_ctx.specs.declared.operand.Operand.{Operand}
use Rattle.xe_ctx.specs.declared.operand.Operand.TheVariants.{Register, Memory}
use Rattle.xe_ctx.specs.declared.stop.Finish.{Finish}

-- The operands of an instruction, and how they are read and written (SDM volume 2, "Interpreting the Instruction Reference Pages").

-- the numbers of general registers, whatever part of them an instruction names; and that of AH, which has it where no REX stands
abbrev pub ax : ℕ
ax = 0

abbrev pub cx : ℕ
cx = 1

abbrev pub dx : ℕ
dx = 2

abbrev pub bx : ℕ
bx = 3

abbrev pub ah : ℕ
ah = 4

-- an instruction of the code that runs
abbrev pub IsOf : Cpu → Insn → Type 0
IsOf cpu insn = IsInsn (code_size_of cpu) insn

-- a REX byte stands before the opcode
abbrev pub is_some : {A : Type 0} → Option A → Bool
is_some None = false
is_some (Some x) = true

abbrev pub has_rex : Insn → Bool
has_rex insn = is_some insn.pre.rex

-- bit k of REX as 8 more to a register number
abbrev pub eight : Option ℕ → ℕ → ℕ
eight None k = 0
eight (Some rex) k = 8 * (rex / 2 ^ k % 2)

-- the last bit of the opcode chooses between bytes and the operand size
abbrev pub size_by_opcode : Insn → ℕ
size_by_opcode insn = if insn.opcode % 2 == 0 then 1 else insn.opsize

-- where the operand of a ModRM byte lies
abbrev pub operand_at : Insn → Cpu → ModRm → Operand
operand_at insn cpu m =
    if m.md == 3 then Register m.rm
    else Memory (effective_segment insn.pre m) (effective_offset m insn.adsize cpu (next_rip cpu insn.len))

abbrev pub operand_or : Insn → Cpu → Option ModRm → Operand
operand_or insn cpu None = Register ax
operand_or insn cpu (Some m) = operand_at insn cpu m

-- E: the operand of the ModRM byte; without one the accumulator
unfoldable pub operand_of : Insn → Cpu → Operand
operand_of insn cpu = operand_or insn cpu insn.modrm

-- G: the register of the ModRM byte; without one the accumulator
abbrev pub reg_or : Option ModRm → ℕ
reg_or None = ax
reg_or (Some m) = m.reg

abbrev pub reg_of : Insn → ℕ
reg_of insn = reg_or insn.modrm

-- the register of the opcode's last three bits, with REX.B
abbrev pub opcode_register : Insn → ℕ
opcode_register insn = insn.opcode % 8 + eight insn.pre.rex 0

-- a register that there is
abbrev pub IsOperand : Operand → Type 0
IsOperand (Register r) = r < 16
IsOperand (Memory seg offset) = Unit {0}

-- ---- registers at a width, with the instruction's REX

abbrev pub reads : Insn → Cpu → ℕ → ℕ → ℕ
reads insn cpu n r = register_value cpu n (has_rex insn) r

abbrev pub writes : Insn → Cpu → ℕ → ℕ → ℕ → Cpu
writes insn cpu n r value = with_register cpu n (has_rex insn) r value

-- ---- operands

-- the number in an operand of n bytes
unfoldable pub read_operand : Insn → Cpu → Operand → ℕ → Tree ℕ
read_operand insn cpu (Register r) n = give (reads insn cpu n r)
read_operand insn cpu (Memory seg offset) n = load seg offset n

-- the same of an operand that is written afterwards: memory has to be writable
unfoldable pub read_for_write : Insn → Cpu → Operand → ℕ → Tree ℕ
read_for_write insn cpu (Register r) n = give (reads insn cpu n r)
read_for_write insn cpu (Memory seg offset) n = load_for_write seg offset n

-- the registers after the low bytes of a number went into an operand
unfoldable pub write_operand : Insn → Cpu → Operand → ℕ → ℕ → Tree Cpu
write_operand insn cpu (Register r) n value = give (writes insn cpu n r value)
write_operand insn cpu (Memory seg offset) n value = do
  _ ← store seg offset n (value % 2 ^ (8 * n))
  give cpu

-- ---- ends

-- the instruction finishes with these registers, RIP behind it
abbrev pub ends_with : Insn → Cpu → Finish
ends_with insn cpu = record { cpu = record cpu { rip = next_rip cpu insn.len }; more = false; retire = 0 }

abbrev pub ends : Insn → Cpu → Tree Finish
ends insn cpu = give (ends_with insn cpu)
