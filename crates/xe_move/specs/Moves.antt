use Rattle.std.specs.Prelude.{◌+◌, ◌/◌, ◌%◌, ◌==◌, ◌||◌, if◌then◌else◌}
use Rattle.xe_ctx.specs.Definition.{ℕ, Bool, not, nat_lt, Cpu, Insn, Tree, ◌>>=◌, ax, bx, size_by_opcode, operand_of, reg_of, opcode_register, reads, writes, read_operand, read_for_write, write_operand, ends}
use Rattle.std.specs.Int.{swap_bytes, w32, w64}
use Rattle.xe_base.specs.declared.segment.SegName.TheVariants.{Ds}
use Rattle.xe_modrm.specs.Address.{or_segment}
use Rattle.xe_ctx.specs.declared.operand.Operand.{Operand}
use Rattle.xe_ctx.specs.declared.operand.Operand.TheVariants.{Register, Memory}
use Rattle.xe_ctx.specs.declared.stop.Finish.{Finish}
use Rattle.xe_move.specs.Sized.{low}
use Rattle.xe_move.specs.Source.{read_source}
use Rattle.xe_move.specs.declared.source.Source.{Source}
use Rattle.xe_move.specs.declared.source.Source.TheVariants.{Number, Place}

-- ---- MOV (SDM volume 2, "MOV—Move")

-- 88 89: E from G. 8A 8B: G from E
abbrev pub is_to_e : ℕ → Bool
is_to_e opcode = opcode == 0x88 || opcode == 0x89

abbrev pub is_to_g : ℕ → Bool
is_to_g opcode = opcode == 0x8A || opcode == 0x8B

-- A0 A1: the accumulator from an address. A2 A3: to an address from the accumulator
abbrev pub is_from_address : ℕ → Bool
is_from_address opcode = opcode == 0xA0 || opcode == 0xA1

abbrev pub is_to_address : ℕ → Bool
is_to_address opcode = opcode == 0xA2 || opcode == 0xA3

-- B0 to BF: the register that the opcode names from an immediate; bytes up to B7. The others, C6 C7: E from an immediate
abbrev pub is_to_named_register : ℕ → Bool
is_to_named_register opcode = opcode / 16 == 0xB

abbrev pub names_byte_register : ℕ → Bool
names_byte_register opcode = nat_lt (opcode % 16) 8

-- where the opcode names a register, its fourth bit chooses between bytes and the operand size, else its last
abbrev pub move_size : Insn → ℕ
move_size insn = if not (is_to_named_register insn.opcode) then size_by_opcode insn else (if names_byte_register insn.opcode then 1 else insn.opsize)

-- the operand at the address that the instruction carries: in DS, or in the segment of a prefix
abbrev pub at_address : Insn → Operand
at_address insn = Memory (or_segment insn.pre.seg Ds) insn.imm

abbrev pub move_target : Insn → Cpu → Operand
move_target insn cpu =
    if is_to_g insn.opcode then Register (reg_of insn)
    else (if is_from_address insn.opcode then Register ax
    else (if is_to_address insn.opcode then at_address insn
    else (if is_to_named_register insn.opcode then Register (opcode_register insn)
    else operand_of insn cpu)))

abbrev pub move_source : Insn → Cpu → Source
move_source insn cpu =
    if is_to_e insn.opcode then Place (Register (reg_of insn))
    else (if is_to_g insn.opcode then Place (operand_of insn cpu)
    else (if is_from_address insn.opcode then Place (at_address insn)
    else (if is_to_address insn.opcode then Place (Register ax)
    else Number insn.imm)))

abbrev pub mov_row : Insn → Cpu → Tree Finish
mov_row insn cpu = do
  value ← read_source insn cpu (move_source insn cpu) (move_size insn)
  after ← write_operand insn cpu (move_target insn cpu) (move_size insn) value
  ends insn after

-- ---- LEA (SDM volume 2, "LEA—Load Effective Address")

-- where an operand in memory lies in its segment; a register, which no LEA has, lies nowhere
abbrev pub offset_of : Operand → ℕ
offset_of (Register r) = 0
offset_of (Memory seg offset) = offset

abbrev pub lea_row : Insn → Cpu → Tree Finish
lea_row insn cpu = ends insn (writes insn cpu insn.opsize (reg_of insn) (offset_of (operand_of insn cpu)))

-- ---- XCHG (SDM volume 2, "XCHG—Exchange Register/Memory With Register")

-- 86 87: E with G. The others, 90 to 97: the accumulator with the register of the opcode
abbrev pub is_with_g : ℕ → Bool
is_with_g opcode = nat_lt opcode 0x90

abbrev pub exchange_size : Insn → ℕ
exchange_size insn = if is_with_g insn.opcode then size_by_opcode insn else insn.opsize

abbrev pub exchange_partner : Insn → ℕ
exchange_partner insn = if is_with_g insn.opcode then reg_of insn else opcode_register insn

abbrev pub xchg_row : Insn → Cpu → Tree Finish
xchg_row insn cpu = do
  let n = exchange_size insn
  let partner = exchange_partner insn
  value ← read_for_write insn cpu (operand_of insn cpu) n
  after ← write_operand insn (writes insn cpu n partner value) (operand_of insn cpu) n (reads insn cpu n partner)
  ends insn after

-- ---- NOP (SDM volume 2, "NOP—No Operation"); the hints of 0F 0D and 0F 18 to 0F 1F, which access nothing

abbrev pub nop_row : Insn → Cpu → Tree Finish
nop_row insn cpu = ends insn cpu

-- ---- XLAT (SDM volume 2, "XLAT/XLATB—Table Look-up Translation")

-- the byte number AL of the table at rBX: in DS, or in the segment of a prefix
abbrev pub table_byte : Insn → Cpu → Operand
table_byte insn cpu = Memory (or_segment insn.pre.seg Ds) (low insn.adsize (reads insn cpu insn.adsize bx + reads insn cpu 1 ax))

abbrev pub xlat_row : Insn → Cpu → Tree Finish
xlat_row insn cpu = do
  value ← read_operand insn cpu (table_byte insn cpu) 1
  ends insn (writes insn cpu 1 ax value)

-- ---- BSWAP (SDM volume 2, "BSWAP—Byte Swap")

-- the n bytes in the other order; of two bytes, which the manual leaves undefined, the result is 0
abbrev pub reversed : ℕ → ℕ → ℕ
reversed n value = if n == 2 then 0 else (if n == 4 then swap_bytes w32 (low 4 value) else swap_bytes w64 value)

abbrev pub bswap_row : Insn → Cpu → Tree Finish
bswap_row insn cpu = ends insn (writes insn cpu insn.opsize (opcode_register insn) (reversed insn.opsize (reads insn cpu insn.opsize (opcode_register insn))))
