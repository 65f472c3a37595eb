use Rattle.std.specs.Prelude.{◌+◌, ◌*◌, ◌^◌, ◌==◌, ◌||◌, if◌then◌else◌}
use Rattle.xe_ctx.specs.Definition.{ℕ, Bool, true, false, Option, Some, None, Cpu, Insn, Tree, ◌>>=◌, fault, ax, dx, ah, size_by_opcode, operand_of, reg_of, reads, writes, read_operand, ends}
use Rattle.xe_base.specs.Exceptions.{plain_exception, divide_error}
use Rattle.xe_base.specs.Registers.{register_value}
use Rattle.xe_flags.specs.Products.{low_half, high_half, mul_flags}
use Rattle.xe_flags.specs.Quotients.{divided}
use Rattle.xe_ctx.specs.declared.stop.Finish.{Finish}
use Rattle.xe_move.specs.Sized.{low, with_flags}

-- Products and quotients (SDM volume 2, "MUL", "IMUL", "DIV" and "IDIV").

-- two words of n bytes to their places: AH and AL for bytes, else rDX and rAX
abbrev pub pair_written : Insn → Cpu → ℕ → ℕ → ℕ → Cpu
pair_written insn cpu n high word =
    if n == 1 then writes insn cpu 2 ax (low 1 high * 2 ^ 8 + low 1 word)
    else writes insn (writes insn cpu n ax word) n dx high

-- the higher of the two: AH, whatever prefixes stand, or rDX
abbrev pub high_word : Insn → Cpu → ℕ → ℕ
high_word insn cpu n = if n == 1 then register_value cpu 1 false ah else reads insn cpu n dx

-- MUL and IMUL of the accumulator by E: F6 F7
abbrev pub mul_row : Bool → Insn → Cpu → Tree Finish
mul_row is_signed insn cpu = do
  let n = size_by_opcode insn
  let a = low n (reads insn cpu n ax)
  b ← read_operand insn cpu (operand_of insn cpu) n
  ends insn (pair_written insn (with_flags cpu (mul_flags (8 * n) is_signed a (low n b) cpu.rflags)) n (high_half (8 * n) is_signed a (low n b)) (low_half (8 * n) is_signed a (low n b)))

-- the other factor of IMUL to a register: G for 0F AF, an immediate for 69 and 6B
abbrev pub is_by_g : ℕ → Bool
is_by_g opcode = opcode == 0x0FAF

abbrev pub other_factor : Insn → Cpu → ℕ
other_factor insn cpu = if is_by_g insn.opcode then reads insn cpu insn.opsize (reg_of insn) else insn.imm

-- IMUL to G: the low half
abbrev pub imul_to_register : Insn → Cpu → Tree Finish
imul_to_register insn cpu = do
  let n = insn.opsize
  let b = low n (other_factor insn cpu)
  a ← read_operand insn cpu (operand_of insn cpu) n
  ends insn (writes insn (with_flags cpu (mul_flags (8 * n) true (low n a) b cpu.rflags)) n (reg_of insn) (low_half (8 * n) true (low n a) b))

-- F6 and F7 are the forms with the accumulator
abbrev pub is_of_accumulator : ℕ → Bool
is_of_accumulator opcode = opcode == 0xF6 || opcode == 0xF7

abbrev pub imul_row : Insn → Cpu → Tree Finish
imul_row insn cpu = if is_of_accumulator insn.opcode then mul_row true insn cpu else imul_to_register insn cpu

-- quotient and remainder to their places; or the exception, where there is no quotient
abbrev pub quotient_row : Insn → Cpu → ℕ → Option (ℕ × ℕ) → Tree Finish
quotient_row insn cpu n None = fault (plain_exception divide_error)
quotient_row insn cpu n (Some pair) = ends insn (pair_written insn cpu n pair.1 pair.0)

-- DIV and IDIV: no flag changes
abbrev pub div_row : Bool → Insn → Cpu → Tree Finish
div_row is_signed insn cpu = do
  let n = size_by_opcode insn
  by ← read_operand insn cpu (operand_of insn cpu) n
  quotient_row insn cpu n (divided (8 * n) is_signed (low n (high_word insn cpu n)) (low n (reads insn cpu n ax)) (low n by))
