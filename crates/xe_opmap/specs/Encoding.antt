use Rattle.std.specs.Prelude.{◌+◌, ◌/◌, ◌%◌, ◌^◌, ℕ, Bool, true, false, ◌==◌, ◌&&◌, ◌||◌, not, nat_le, Option, Some, None, pos, IsTrue, if◌then◌else◌}
use Rattle.xe_base.specs.declared.cpu.CodeSize.{CodeSize}
use Rattle.xe_base.specs.declared.cpu.CodeSize.TheVariants.{B16, B32, B64}
use Rattle.xe_modrm.specs.Reader.{Reader, ◌>>=◌, given, one_byte}
use Rattle.xe_modrm.specs.Prefix.{is_64_bit, prefix_part}
use Rattle.xe_modrm.specs.Operand.{operand_of, operand_after, reg_of}
use Rattle.xe_modrm.specs.declared.part.Prefixes.{Prefixes}
use Rattle.xe_modrm.specs.declared.part.ModRm.{ModRm}
use Rattle.xe_modrm.specs.declared.part.Part.{Part}
use Rattle.xe_modrm.specs.declared.part.Part.TheVariants as part
use Rattle.xe_opmap.specs.Table.{bad_in_64_bit, needs_reg, cell_at, operand}
use Rattle.xe_opmap.specs.Immediate.{first_part, second_part}
use Rattle.xe_opmap.specs.declared.row.Row.{Row}
use Rattle.xe_opmap.specs.declared.form.OpcodeCell.{OpcodeCell}
use Rattle.xe_opmap.specs.declared.form.OpcodeCell.TheVariants as cell
use Rattle.xe_opmap.specs.declared.form.InsnForm.{InsnForm}
use Rattle.xe_opmap.specs.declared.form.MapConditions.{MapConditions}
use Rattle.xe_opmap.specs.declared.form.OperandKind.{OperandKind}
use Rattle.xe_opmap.specs.declared.form.OperandKind.TheVariants.{Nothing, Any, Memory, MemoryOnly, FromSegment, ToSegment, Control}
use Rattle.xe_opmap.specs.declared.form.SizeIn64Bit.{SizeIn64Bit}
use Rattle.xe_opmap.specs.declared.form.SizeIn64Bit.TheVariants as width
use Rattle.xe_opmap.specs.declared.insn.Insn.{Insn}
use Rattle.xe_opmap.specs.declared.insn.Verdict.{Verdict}
use Rattle.xe_opmap.specs.declared.insn.Verdict.TheVariants.{Valid, Invalid, Outside}
use Rattle.xe_opmap.specs.declared.insn.Decoded.{Decoded}
use Rattle.xe_opmap.specs.declared.insn.Decoded.TheVariants as decoded

-- The encoding of an instruction: prefixes, REX, opcode, ModRM byte, SIB byte, displacement and
-- immediates, one after another (SDM volume 2, section 2.1 and figure 2-1).

-- an operand size or address size in bytes
abbrev pub IsSize : ℕ → Type 0
IsSize n = IsTrue (n == 2 || n == 4 || n == 8)

-- bit k of REX
abbrev pub rex_bit : Option ℕ → ℕ → Bool
rex_bit None k = false
rex_bit (Some rex) k = rex / 2 ^ k % 2 == 1

-- what the lines of the opcode maps look at beside opcode and reg
abbrev pub conditions_of : CodeSize → Prefixes → MapConditions
conditions_of size pre = record { in_64_bit = is_64_bit size; after_f3 = pre.rep == 0xF3; rex_b = rex_bit pre.rex 0 }

-- the size that a row has in 64-bit code with neither 66 nor REX.W, and where it may not be chosen
abbrev pub size_in_64_bit : SizeIn64Bit → Bool → Bool → ℕ
size_in_64_bit width.Usual other w = if w then 8 else (if other then 2 else 4)
size_in_64_bit width.Stack other w = if w then 8 else (if other then 2 else 8)
size_in_64_bit width.Near other w = 8

-- operand size in bytes: SDM volume 1, section 3.6, and for 64-bit code volume 2, section 2.2.1.2
-- and 2.2.1.7; a near branch has 64 bits there, whatever 66 and REX.W say
abbrev pub opsize_of : CodeSize → Prefixes → SizeIn64Bit → ℕ
opsize_of B16 pre w = if pre.opsize then 4 else 2
opsize_of B32 pre w = if pre.opsize then 2 else 4
opsize_of B64 pre w = size_in_64_bit w pre.opsize (rex_bit pre.rex 3)

-- address size in bytes
abbrev pub adsize_of : CodeSize → Bool → ℕ
adsize_of B16 other = if other then 4 else 2
adsize_of B32 other = if other then 2 else 4
adsize_of B64 other = if other then 4 else 8

-- a ModRM byte follows the opcode
abbrev pub has_modrm : OperandKind → Bool
has_modrm Nothing = false
has_modrm Any = true
has_modrm Memory = true
has_modrm MemoryOnly = true
has_modrm FromSegment = true
has_modrm ToSegment = true
has_modrm Control = true

abbrev pub is_memory : Option ModRm → Bool
is_memory None = false
is_memory (Some m) = not (m.md == 3)

-- the operand isn't in memory where no row goes on then
abbrev pub ends_outside : OperandKind → ModRm → Bool
ends_outside Nothing m = false
ends_outside Any m = false
ends_outside Memory m = false
ends_outside MemoryOnly m = m.md == 3
ends_outside FromSegment m = false
ends_outside ToSegment m = false
ends_outside Control m = false

-- a control register that there is: CR0, CR2, CR3, CR4 and CR8
abbrev pub is_control : ℕ → Bool
is_control n = n == 0 || n == 2 || n == 3 || n == 4 || n == 8

-- the operand is of a kind that the row doesn't have: a register in place of memory; a segment
-- register past GS, or CS as destination, by bits 5:3 alone; a control register that isn't there
abbrev pub wrong_operand : OperandKind → Option ModRm → Bool
wrong_operand k None = false
wrong_operand Nothing (Some m) = false
wrong_operand Any (Some m) = false
wrong_operand Memory (Some m) = m.md == 3
wrong_operand MemoryOnly (Some m) = false
wrong_operand FromSegment (Some m) = nat_le 6 (m.reg % 8)
wrong_operand ToSegment (Some m) = nat_le 6 (m.reg % 8) || m.reg % 8 == 1
wrong_operand Control (Some m) = not (is_control m.reg)

-- LOCK stands with a memory destination of some rows alone (SDM volume 2, LOCK), and an operand is
-- of the row's kind
abbrev pub is_wrong : Prefixes → InsnForm → Option ModRm → Bool
is_wrong pre s modrm = (pre.lock && not (s.lock && is_memory modrm)) || wrong_operand s.operand modrm

-- the instruction that the parts make; its length is counted when all of it was read
abbrev pub instruction : CodeSize → Prefixes → ℕ → InsnForm → Option ModRm → ℕ → ℕ → Insn
instruction size pre op s modrm imm imm2 = record {
  row = s.row;
  len = 0;
  opcode = op;
  opsize = opsize_of size pre s.size;
  adsize = adsize_of size pre.adsize;
  pre = pre;
  modrm = modrm;
  imm = imm;
  imm2 = imm2;
}

unfoldable pub judged : CodeSize → Prefixes → ℕ → InsnForm → Option ModRm → ℕ → ℕ → Verdict
judged size pre op s modrm imm imm2 = if is_wrong pre s modrm then Invalid else Valid (instruction size pre op s modrm imm imm2)

-- the immediates, after which a whole instruction is judged
unfoldable pub immediates_part : CodeSize → Prefixes → ℕ → InsnForm → Option ModRm → Reader Verdict
immediates_part size pre op s modrm = do
  imm ← first_part (opsize_of size pre s.size) (adsize_of size pre.adsize) s.imm
  imm2 ← second_part s.imm
  given (judged size pre op s modrm imm imm2)

-- what follows the ModRM byte m in the operand; of MOV CR nothing does, as mod is read as 3
-- whatever it is (SDM volume 2, MOV to and from control registers)
unfoldable pub operand_rest : CodeSize → Prefixes → OperandKind → ℕ → Reader ModRm
operand_rest size pre Nothing m = operand_after size pre m
operand_rest size pre Any m = operand_after size pre m
operand_rest size pre Memory m = operand_after size pre m
operand_rest size pre MemoryOnly m = operand_after size pre m
operand_rest size pre FromSegment m = operand_after size pre m
operand_rest size pre ToSegment m = operand_after size pre m
operand_rest size pre Control m = given (operand_of size pre (192 + m % 64) 0 (pos 0))

-- the ModRM byte, and what follows it in the operand
unfoldable pub modrm_part : CodeSize → Prefixes → OperandKind → Reader ModRm
modrm_part size pre kind = one_byte >>= operand_rest size pre kind

-- what follows the operand
unfoldable pub after_operand : CodeSize → Prefixes → ℕ → InsnForm → ModRm → Reader Verdict
after_operand size pre op s modrm = if ends_outside s.operand modrm then given Outside else immediates_part size pre op s (Some modrm)

-- what follows the ModRM byte m
unfoldable pub after_modrm : CodeSize → Prefixes → ℕ → InsnForm → ℕ → Reader Verdict
after_modrm size pre op s m = operand_rest size pre s.operand m >>= after_operand size pre op s

-- what follows the opcode of a row with a ModRM byte, and of any row
unfoldable pub operand_row : CodeSize → Prefixes → ℕ → InsnForm → Reader Verdict
operand_row size pre op s = modrm_part size pre s.operand >>= after_operand size pre op s

unfoldable pub row_part : CodeSize → Prefixes → ℕ → InsnForm → Reader Verdict
row_part size pre op s = if has_modrm s.operand then operand_row size pre op s else immediates_part size pre op s None

-- SWAPGS, which is the whole ModRM byte F8 after 0F 01
abbrev pub is_swapgs : ℕ → ℕ → Bool
is_swapgs op m = op == 0x0F01 && m == 0xF8

abbrev pub swapgs_cell : Bool → OpcodeCell
swapgs_cell true = cell.Form (operand Row.Swapgs)
swapgs_cell false = cell.Invalid

-- what an opcode with the ModRM byte m is, where the reg field belongs to the opcode
unfoldable pub group_cell : MapConditions → ℕ → ℕ → OpcodeCell
group_cell s op m = if is_swapgs op m then swapgs_cell s.in_64_bit else cell_at s op (reg_of m)

unfoldable pub group_rest : CodeSize → Prefixes → ℕ → OpcodeCell → ℕ → Reader Verdict
group_rest size pre op cell.Outside m = given Outside
group_rest size pre op cell.Invalid m = given Invalid
group_rest size pre op (cell.Form s) m = after_modrm size pre op s m

-- the ModRM byte of a group, and what follows it
unfoldable pub group_part : CodeSize → Prefixes → ℕ → Reader Verdict
group_part size pre op = one_byte >>= λ m. group_rest size pre op (group_cell (conditions_of size pre) op m) m

unfoldable pub cell_part : CodeSize → Prefixes → ℕ → OpcodeCell → Reader Verdict
cell_part size pre op cell.Outside = given Outside
cell_part size pre op cell.Invalid = given Invalid
cell_part size pre op (cell.Form s) = row_part size pre op s

-- what follows an opcode of one or two bytes
unfoldable pub after_opcode : CodeSize → Prefixes → ℕ → Reader Verdict
after_opcode size pre op =
    if is_64_bit size && bad_in_64_bit op then given Invalid
    else (if needs_reg op then group_part size pre op
    else cell_part size pre op (cell_at (conditions_of size pre) op 0))

-- what follows the first byte of the opcode: 0F has a second one
unfoldable pub after_first_byte : CodeSize → Prefixes → ℕ → Reader Verdict
after_first_byte size pre b = if b == 0x0F then (one_byte >>= λ c. after_opcode size pre (0x0F00 + c)) else after_opcode size pre b

-- the whole grammar
unfoldable pub decode_part : CodeSize → Reader Verdict
decode_part size = do
  pre ← prefix_part size
  b ← one_byte
  after_first_byte size pre b

abbrev pub with_len : Insn → ℕ → Insn
with_len insn n = record insn { len = n }

abbrev pub finished : Part Verdict → Decoded
finished (part.Got (Valid insn) n) = decoded.Insn (with_len insn n)
finished (part.Got Invalid n) = decoded.Invalid n
finished (part.Got Outside n) = decoded.Outside
finished part.More = decoded.More
