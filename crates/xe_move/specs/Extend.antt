use Rattle.std.specs.Prelude.{◌-◌, ◌*◌, ◌/◌, ◌%◌, ◌^◌, ◌==◌, if◌then◌else◌}
use Rattle.xe_ctx.specs.Definition.{ℕ, Bool, Cpu, Insn, Tree, ◌>>=◌, ax, dx, operand_of, reg_of, reads, writes, read_operand, ends}
use Rattle.xe_base.specs.Words.{signed, wrapped, top}
use Rattle.xe_ctx.specs.declared.stop.Finish.{Finish}
use Rattle.xe_move.specs.Sized.{low}

-- Numbers made wider (SDM volume 2, "CBW/CWDE/CDQE", "CWD/CDQ/CQO", "MOVZX", "MOVSX/MOVSXD").

-- the signed number in the low n bytes, in 64 bits
abbrev pub sign_extended : ℕ → ℕ → ℕ
sign_extended n value = wrapped 64 (signed (8 * n) (low n value))

-- CBW, CWDE, CDQE: the accumulator from its lower half
abbrev pub cbw_row : Insn → Cpu → Tree Finish
cbw_row insn cpu = ends insn (writes insn cpu insn.opsize ax (sign_extended (insn.opsize / 2) (reads insn cpu (insn.opsize / 2) ax)))

-- CWD, CDQ, CQO: rDX is filled with the sign of the accumulator
abbrev pub sign_fill : ℕ → ℕ → ℕ
sign_fill n value = if top (8 * n) (low n value) then 2 ^ 64 - 1 else 0

abbrev pub cwd_row : Insn → Cpu → Tree Finish
cwd_row insn cpu = ends insn (writes insn cpu insn.opsize dx (sign_fill insn.opsize (reads insn cpu insn.opsize ax)))

-- MOVSXD: 63
abbrev pub is_movsxd : ℕ → Bool
is_movsxd opcode = opcode == 0x63

-- MOVZX and MOVSX from a byte, and not from a word: 0F B6 and 0F BE
abbrev pub is_from_byte : ℕ → Bool
is_from_byte opcode = opcode % 2 == 0

-- the size of E: MOVSXD has four bytes, and two at operand size 16; MOVZX and MOVSX have one or two
abbrev pub narrow_size : Insn → ℕ
narrow_size insn = if is_movsxd insn.opcode then (if insn.opsize == 2 then 2 else 4) else (if is_from_byte insn.opcode then 1 else 2)

abbrev pub movzx_row : Insn → Cpu → Tree Finish
movzx_row insn cpu = do
  value ← read_operand insn cpu (operand_of insn cpu) (narrow_size insn)
  ends insn (writes insn cpu insn.opsize (reg_of insn) value)

-- MOVSX and MOVSXD
abbrev pub movsx_row : Insn → Cpu → Tree Finish
movsx_row insn cpu = do
  value ← read_operand insn cpu (operand_of insn cpu) (narrow_size insn)
  ends insn (writes insn cpu insn.opsize (reg_of insn) (sign_extended (narrow_size insn) value))
