use Rattle.std.proofs.Common.{ℕ}
use Rattle.xe_base.specs.Bytes.{num}
use Rattle.xe_base.specs.declared.cpu.CodeSize.{CodeSize}
use Rattle.xe_modrm.specs.declared.part.Prefixes.{Prefixes}
use Rattle.xe_modrm.specs.declared.part.ModRm.{ModRm}
use Rattle.xe_modrm.specs.Reader.{◌>>=◌, given, some_bytes, one_byte}
use Rattle.xe_modrm.specs.Prefix.{prefix_part}
use Rattle.xe_modrm.proofs.ReaderLaws.{IsReader, both_reader, ahead_reader, given_reader, one_reader, some_reader, cond_reader, one_takes}
use Rattle.xe_modrm.proofs.PartLaws.{prefix_ahead, after_reader}
use Rattle.xe_opmap.specs.declared.form.OpcodeCell.{OpcodeCell}
use Rattle.xe_opmap.specs.declared.form.OpcodeCell.TheVariants as cell
use Rattle.xe_opmap.specs.declared.form.InsnForm.{InsnForm}
use Rattle.xe_opmap.specs.declared.form.ImmediateKind.{ImmediateKind}
use Rattle.xe_opmap.specs.declared.form.ImmediateKind.TheVariants as imm
use Rattle.xe_opmap.specs.declared.form.OperandKind.{OperandKind}
use Rattle.xe_opmap.specs.declared.form.OperandKind.TheVariants.{Nothing, Any, Memory, MemoryOnly, FromSegment, ToSegment, Control}
use Rattle.xe_opmap.specs.declared.insn.Verdict.TheVariants.{Invalid, Outside}
use Rattle.std.specs.Prelude.{Option}
use Rattle.xe_opmap.specs.Immediate.{extended, number_part, extended_part, first_part}
use Rattle.xe_opmap.specs.Encoding.{immediates_part, operand_rest, modrm_part, after_operand, after_modrm, operand_row, row_part, group_rest, group_part, cell_part, after_opcode, after_first_byte, decode_part}

-- Each part of the grammar decides by the bytes that it takes, and some bytes let it decide.

pub number_reader : (n : ℕ) → IsReader (number_part n)
number_reader n = both_reader (some_bytes n) (λ bs. given (num bs)) (some_reader n) (λ bs. given_reader (num bs))

extended_reader : (n opsize : ℕ) → IsReader (extended_part n opsize)
extended_reader n opsize = both_reader (some_bytes n) (λ bs. given (extended n opsize (num bs))) (some_reader n) (λ bs. given_reader (extended n opsize (num bs)))

pub first_reader : (opsize adsize : ℕ) (i : ImmediateKind) → IsReader (first_part opsize adsize i)
first_reader opsize adsize imm.Nothing = number_reader 0
first_reader opsize adsize imm.Byte = number_reader 1
first_reader opsize adsize imm.SignedByte = extended_reader 1 opsize
first_reader opsize adsize imm.Word = number_reader 2
first_reader opsize adsize imm.SignedOperand = extended_reader _ opsize
first_reader opsize adsize imm.OperandSized = number_reader opsize
first_reader opsize adsize imm.Address = number_reader adsize
first_reader opsize adsize imm.FarPointer = number_reader opsize
first_reader opsize adsize imm.EnterFrame = number_reader 2

pub immediates_reader : (size : CodeSize) (pre : Prefixes) (op : ℕ) (s : InsnForm) (modrm : Option ModRm) → IsReader (immediates_part size pre op s modrm)
unfolding immediates_part
immediates_reader size pre op s modrm = both_reader _ _ (first_reader _ _ s.imm) (λ imm. both_reader _ _ (number_reader _) (λ imm2. given_reader _))

pub rest_reader : (size : CodeSize) (pre : Prefixes) (kind : OperandKind) (m : ℕ) → IsReader (operand_rest size pre kind m)
unfolding operand_rest
rest_reader size pre Nothing m = after_reader size pre m
rest_reader size pre Any m = after_reader size pre m
rest_reader size pre Memory m = after_reader size pre m
rest_reader size pre MemoryOnly m = after_reader size pre m
rest_reader size pre FromSegment m = after_reader size pre m
rest_reader size pre ToSegment m = after_reader size pre m
rest_reader size pre Control m = given_reader _

after_operand_reader : (size : CodeSize) (pre : Prefixes) (op : ℕ) (s : InsnForm) (modrm : ModRm) → IsReader (after_operand size pre op s modrm)
unfolding after_operand
after_operand_reader size pre op s modrm = cond_reader _ _ _ (given_reader Outside) (immediates_reader size pre op s _)

after_modrm_reader : (size : CodeSize) (pre : Prefixes) (op : ℕ) (s : InsnForm) (m : ℕ) → IsReader (after_modrm size pre op s m)
unfolding after_modrm
after_modrm_reader size pre op s m = both_reader _ _ (rest_reader size pre s.operand m) (after_operand_reader size pre op s)

pub modrm_reader : (size : CodeSize) (pre : Prefixes) (kind : OperandKind) → IsReader (modrm_part size pre kind)
unfolding modrm_part
modrm_reader size pre kind = both_reader _ _ one_reader (rest_reader size pre kind)

operand_row_reader : (size : CodeSize) (pre : Prefixes) (op : ℕ) (s : InsnForm) → IsReader (operand_row size pre op s)
unfolding operand_row
operand_row_reader size pre op s = both_reader _ _ (modrm_reader size pre s.operand) (after_operand_reader size pre op s)

row_reader : (size : CodeSize) (pre : Prefixes) (op : ℕ) (s : InsnForm) → IsReader (row_part size pre op s)
unfolding row_part
row_reader size pre op s = cond_reader _ _ _ (operand_row_reader size pre op s) (immediates_reader size pre op s _)

group_rest_reader : (size : CodeSize) (pre : Prefixes) (op : ℕ) (c : OpcodeCell) (m : ℕ) → IsReader (group_rest size pre op c m)
unfolding group_rest
group_rest_reader size pre op cell.Outside m = given_reader Outside
group_rest_reader size pre op cell.Invalid m = given_reader Invalid
group_rest_reader size pre op (cell.Form s) m = after_modrm_reader size pre op s m

group_reader : (size : CodeSize) (pre : Prefixes) (op : ℕ) → IsReader (group_part size pre op)
unfolding group_part
group_reader size pre op = both_reader _ _ one_reader (λ m. group_rest_reader size pre op _ m)

cell_reader : (size : CodeSize) (pre : Prefixes) (op : ℕ) (c : OpcodeCell) → IsReader (cell_part size pre op c)
unfolding cell_part
cell_reader size pre op cell.Outside = given_reader Outside
cell_reader size pre op cell.Invalid = given_reader Invalid
cell_reader size pre op (cell.Form s) = row_reader size pre op s

opcode_reader : (size : CodeSize) (pre : Prefixes) (op : ℕ) → IsReader (after_opcode size pre op)
unfolding after_opcode
opcode_reader size pre op = cond_reader _ _ _ (given_reader Invalid) (cond_reader _ _ _ (group_reader size pre op) (cell_reader size pre op _))

first_byte_reader : (size : CodeSize) (pre : Prefixes) (b : ℕ) → IsReader (after_first_byte size pre b)
unfolding after_first_byte
first_byte_reader size pre b = cond_reader _ _ _ (both_reader _ _ one_reader (λ c. opcode_reader size pre _)) (opcode_reader size pre b)

pub decode_reader : (size : CodeSize) → IsReader (decode_part size)
unfolding decode_part
decode_reader size = ahead_reader (prefix_part size) (λ pre. one_byte >>= after_first_byte size pre) (prefix_ahead size) (λ pre. both_reader one_byte (after_first_byte size pre) one_reader (first_byte_reader size pre)) (λ pre. one_takes (after_first_byte size pre))
