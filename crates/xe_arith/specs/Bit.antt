use Rattle.std.specs.Prelude.{pos, ◌+ℤ◌, ◌*ℤ◌, ℤ, ◌*◌, ◌%◌, ◌==◌, if◌then◌else◌}
use Rattle.xe_ctx.specs.Definition.{ℕ, Bool, Option, Some, None, Cpu, Insn, Tree, ◌>>=◌, operand_of, reg_of, reads, writes, read_operand, read_for_write, write_operand, ends}
use Rattle.xe_base.specs.Words.{signed, wrapped}
use Rattle.xe_flags.specs.Arithmetic.{floor}
use Rattle.xe_flags.specs.Bits.{bit_word, bit_flags}
use Rattle.xe_flags.specs.Scans.{scan_found, scan_flags}
use Rattle.xe_flags.specs.declared.bits.BitOp.{BitOp}
use Rattle.xe_flags.specs.declared.scans.ScanOp.{ScanOp}
use Rattle.xe_ctx.specs.declared.operand.Operand.{Operand}
use Rattle.xe_ctx.specs.declared.operand.Operand.TheVariants.{Register, Memory}
use Rattle.xe_ctx.specs.declared.stop.Finish.{Finish}
use Rattle.xe_move.specs.Sized.{low, with_flags}

-- Single bits (SDM volume 2, "BT", "BTS", "BTR", "BTC", "BSF", "BSR" and "POPCNT").

-- an immediate names the bit: 0F BA
abbrev pub is_by_immediate : ℕ → Bool
is_by_immediate opcode = opcode == 0x0FBA

-- where the bit is named: in G, or in an immediate byte
abbrev pub bit_offset : Insn → Cpu → ℕ
bit_offset insn cpu = if is_by_immediate insn.opcode then low 1 insn.imm else reads insn cpu insn.opsize (reg_of insn)

-- how many bytes on the operand lies that has the bit of a signed offset: whole operands of n bytes, up or down
abbrev pub bytes_to_bit : ℕ → ℕ → ℤ
bytes_to_bit n offset = floor (signed (8 * n) (low n offset)) (8 * n) *ℤ pos n

-- an operand in memory so many bytes on, in the address size; a register stays
abbrev pub moved : ℕ → ℤ → Operand → Operand
moved adsize bytes (Register r) = Register r
moved adsize bytes (Memory seg offset) = Memory seg (wrapped (8 * adsize) (pos offset +ℤ bytes))

-- the operand that has the bit: an offset in a register reaches past E
abbrev pub bit_operand : Insn → Cpu → Operand
bit_operand insn cpu = if is_by_immediate insn.opcode then operand_of insn cpu else moved insn.adsize (bytes_to_bit insn.opsize (bit_offset insn cpu)) (operand_of insn cpu)

-- the place of the bit in it
abbrev pub bit_place : Insn → Cpu → ℕ
bit_place insn cpu = bit_offset insn cpu % (8 * insn.opsize)

-- BT
abbrev pub bt_row : Insn → Cpu → Tree Finish
bt_row insn cpu = do
  let n = insn.opsize
  a ← read_operand insn cpu (bit_operand insn cpu) n
  ends insn (with_flags cpu (bit_flags (8 * n) (low n a) (bit_place insn cpu) cpu.rflags))

-- BTS, BTR, BTC
abbrev pub bit_row : BitOp → Insn → Cpu → Tree Finish
bit_row op insn cpu = do
  let n = insn.opsize
  a ← read_for_write insn cpu (bit_operand insn cpu) n
  after ← write_operand insn (with_flags cpu (bit_flags (8 * n) (low n a) (bit_place insn cpu) cpu.rflags)) (bit_operand insn cpu) n (bit_word (8 * n) op (low n a) (bit_place insn cpu))
  ends insn after

-- what is found goes to G; where nothing is found, G stays
abbrev pub found_written : Insn → Cpu → Option ℕ → Cpu
found_written insn cpu None = cpu
found_written insn cpu (Some found) = writes insn cpu insn.opsize (reg_of insn) found

-- BSF, BSR and POPCNT
abbrev pub scan_row : ScanOp → Insn → Cpu → Tree Finish
scan_row op insn cpu = do
  let n = insn.opsize
  a ← read_operand insn cpu (operand_of insn cpu) n
  ends insn (found_written insn (with_flags cpu (scan_flags op (low n a) cpu.rflags)) (scan_found op (low n a)))
