use Rattle.std.specs.Prelude.{ℕ, ◌+◌, ◌*◌, Bool, true, false, ◌&&◌, ◌==◌, ◌||◌, not, IsTrue, nat_lt, nat_le, List, [], ◌∷◌, ◌++◌, Option, Some, None, if◌then◌else◌}
use Rattle.std.specs.List.{find, list_any, filter}
use Rattle.xe_opmap.specs.declared.row.Row.{Row}
use Rattle.xe_opmap.specs.declared.form.OperandKind.{OperandKind}
use Rattle.xe_opmap.specs.declared.form.ImmediateKind.{ImmediateKind}
use Rattle.xe_opmap.specs.declared.form.SizeIn64Bit.{SizeIn64Bit}
use Rattle.xe_opmap.specs.declared.form.InsnForm.{InsnForm}
use Rattle.xe_opmap.specs.declared.form.OpcodeCell.{OpcodeCell}
use Rattle.xe_opmap.specs.declared.form.OpcodeCell.TheVariants.{Outside, Invalid, Form}
use Rattle.xe_opmap.specs.declared.form.MapConditions.{MapConditions}

-- The opcode maps, row by row: SDM volume 2, the instruction pages with their opcode columns, and
-- appendix A, tables A-2 (one byte), A-3 (after 0F) and A-6 (groups by the reg field). An opcode
-- after 0F is written 0F00 and more. An opcode with no line here is outside the table.

-- which reg fields of the ModRM byte a line has: any, one of its first to its last, or no group
pub data Digits : Type 0 where
  AnyReg : Digits
  Reg : ℕ → ℕ → Digits

-- when a line holds: always, outside or in 64-bit code, after F3, or with REX.B
pub data When : Type 0 where
  Always : When
  Not64 : When
  In64 : When
  AfterF3 : When
  WithRexB : When

-- a line of the maps: the opcodes from first to last, with these reg fields, say this
pub record Line : Type 0 where
  pub first : ℕ
  pub last : ℕ
  pub digits : Digits
  pub when : When
  pub cell : OpcodeCell

-- what stands after an opcode: its row, ModRM operand and immediate; LOCK isn't allowed
abbrev pub form : Row → OperandKind → ImmediateKind → InsnForm
form r o i = record { row = r; operand = o; imm = i; lock = false; size = SizeIn64Bit.Usual }

-- the ModRM operand is a destination with which LOCK is allowed, where it lies in memory
abbrev pub lockable : InsnForm → InsnForm
lockable s = record s { lock = true }

-- operand size 64 in 64-bit code, or 16 with 66: SDM volume 2, appendix A.2.5, superscript d64
abbrev pub stack : InsnForm → InsnForm
stack s = record s { size = SizeIn64Bit.Stack }

-- a near branch: operand size 64 in 64-bit code: superscript f64
abbrev pub near : InsnForm → InsnForm
near s = record s { size = SizeIn64Bit.Near }

-- a row with a ModRM operand of any kind, with one in memory, and with none; no immediate
abbrev pub operand : Row → InsnForm
operand r = form r OperandKind.Any ImmediateKind.Nothing

abbrev pub memory : Row → InsnForm
memory r = form r OperandKind.Memory ImmediateKind.Nothing

abbrev pub alone : Row → InsnForm
alone r = form r OperandKind.Nothing ImmediateKind.Nothing

abbrev pub op : ℕ → InsnForm → Line
op a s = record { first = a; last = a; digits = AnyReg; when = Always; cell = Form s }

abbrev pub ops : ℕ → ℕ → InsnForm → Line
ops a b s = record { first = a; last = b; digits = AnyReg; when = Always; cell = Form s }

abbrev pub only : When → Line → Line
only w l = record l { when = w }

-- the opcode with one reg field, and with several
abbrev pub digit : ℕ → ℕ → InsnForm → Line
digit a d s = record { first = a; last = a; digits = Reg d d; when = Always; cell = Form s }

abbrev pub bad_digits : ℕ → ℕ → ℕ → Line
bad_digits a d to = record { first = a; last = a; digits = Reg d to; when = Always; cell = Invalid }

abbrev pub bad_op : ℕ → Line
bad_op a = record { first = a; last = a; digits = AnyReg; when = Always; cell = Invalid }

-- a row of two operands, k-th of eight: E from G, G from E, the accumulator and E from an immediate
abbrev pub arithmetic : ℕ → Row → (InsnForm → InsnForm) → List Line
arithmetic k r dest =
    op (8 * k) (dest (operand r)) ∷
    op (8 * k + 1) (dest (operand r)) ∷
    op (8 * k + 2) (operand r) ∷
    op (8 * k + 3) (operand r) ∷
    op (8 * k + 4) (form r OperandKind.Nothing ImmediateKind.Byte) ∷
    op (8 * k + 5) (form r OperandKind.Nothing ImmediateKind.SignedOperand) ∷
    digit 0x80 k (dest (form r OperandKind.Any ImmediateKind.Byte)) ∷
    digit 0x81 k (dest (form r OperandKind.Any ImmediateKind.SignedOperand)) ∷
    digit 0x82 k (dest (form r OperandKind.Any ImmediateKind.Byte)) ∷
    digit 0x83 k (dest (form r OperandKind.Any ImmediateKind.SignedByte)) ∷
    []

-- a shift or rotate, with reg field k: by an immediate, by one, by CL
abbrev pub shift : ℕ → Row → List Line
shift k r =
    digit 0xC0 k (form r OperandKind.Any ImmediateKind.Byte) ∷
    digit 0xC1 k (form r OperandKind.Any ImmediateKind.Byte) ∷
    digit 0xD0 k (operand r) ∷
    digit 0xD1 k (operand r) ∷
    digit 0xD2 k (operand r) ∷
    digit 0xD3 k (operand r) ∷
    []

abbrev pub destination : InsnForm → InsnForm
destination s = lockable s

abbrev pub no_destination : InsnForm → InsnForm
no_destination s = s

-- one-byte opcodes
unfoldable pub one_byte_lines : List Line
one_byte_lines =
    arithmetic 0 Row.Add destination ++
    arithmetic 1 Row.Or destination ++
    arithmetic 2 Row.Adc destination ++
    arithmetic 3 Row.Sbb destination ++
    arithmetic 4 Row.And destination ++
    arithmetic 5 Row.Sub destination ++
    arithmetic 6 Row.Xor destination ++
    arithmetic 7 Row.Cmp no_destination ++
    op 0x06 (stack (alone Row.Pushseg)) ∷
    op 0x0E (stack (alone Row.Pushseg)) ∷
    op 0x16 (stack (alone Row.Pushseg)) ∷
    op 0x1E (stack (alone Row.Pushseg)) ∷
    op 0x07 (stack (alone Row.Popseg)) ∷
    op 0x17 (stack (alone Row.Popseg)) ∷
    op 0x1F (stack (alone Row.Popseg)) ∷
    op 0x27 (alone Row.Daa) ∷
    op 0x2F (alone Row.Das) ∷
    op 0x37 (alone Row.Aaa) ∷
    op 0x3F (alone Row.Aas) ∷
    op 0xD4 (form Row.Aam OperandKind.Nothing ImmediateKind.Byte) ∷
    op 0xD5 (form Row.Aad OperandKind.Nothing ImmediateKind.Byte) ∷
    ops 0x40 0x47 (alone Row.Inc) ∷
    digit 0xFE 0 (lockable (operand Row.Inc)) ∷
    digit 0xFF 0 (lockable (operand Row.Inc)) ∷
    ops 0x48 0x4F (alone Row.Dec) ∷
    digit 0xFE 1 (lockable (operand Row.Dec)) ∷
    digit 0xFF 1 (lockable (operand Row.Dec)) ∷
    ops 0x50 0x57 (stack (alone Row.Push)) ∷
    op 0x68 (stack (form Row.Push OperandKind.Nothing ImmediateKind.SignedOperand)) ∷
    op 0x6A (stack (form Row.Push OperandKind.Nothing ImmediateKind.SignedByte)) ∷
    digit 0xFF 6 (stack (operand Row.Push)) ∷
    ops 0x58 0x5F (stack (alone Row.Pop)) ∷
    digit 0x8F 0 (stack (operand Row.Pop)) ∷
    op 0x60 (alone Row.Pusha) ∷
    op 0x61 (alone Row.Popa) ∷
    only Not64 (op 0x63 (operand Row.Arpl)) ∷
    only In64 (op 0x63 (operand Row.Movsxd)) ∷
    op 0x69 (form Row.Imul OperandKind.Any ImmediateKind.SignedOperand) ∷
    op 0x6B (form Row.Imul OperandKind.Any ImmediateKind.SignedByte) ∷
    digit 0xF6 5 (operand Row.Imul) ∷
    digit 0xF7 5 (operand Row.Imul) ∷
    ops 0x6C 0x6D (alone Row.Ins) ∷
    ops 0x6E 0x6F (alone Row.Outs) ∷
    ops 0x70 0x7F (near (form Row.Jcc OperandKind.Nothing ImmediateKind.SignedByte)) ∷
    ops 0x84 0x85 (operand Row.Test) ∷
    op 0xA8 (form Row.Test OperandKind.Nothing ImmediateKind.Byte) ∷
    op 0xA9 (form Row.Test OperandKind.Nothing ImmediateKind.SignedOperand) ∷
    digit 0xF6 0 (form Row.Test OperandKind.Any ImmediateKind.Byte) ∷
    digit 0xF6 1 (form Row.Test OperandKind.Any ImmediateKind.Byte) ∷
    digit 0xF7 0 (form Row.Test OperandKind.Any ImmediateKind.SignedOperand) ∷
    digit 0xF7 1 (form Row.Test OperandKind.Any ImmediateKind.SignedOperand) ∷
    ops 0x86 0x87 (lockable (operand Row.Xchg)) ∷
    ops 0x91 0x97 (alone Row.Xchg) ∷
    only WithRexB (op 0x90 (alone Row.Xchg)) ∷
    ops 0x88 0x8B (operand Row.Mov) ∷
    ops 0xA0 0xA3 (form Row.Mov OperandKind.Nothing ImmediateKind.Address) ∷
    ops 0xB0 0xB7 (form Row.Mov OperandKind.Nothing ImmediateKind.Byte) ∷
    ops 0xB8 0xBF (form Row.Mov OperandKind.Nothing ImmediateKind.OperandSized) ∷
    digit 0xC6 0 (form Row.Mov OperandKind.Any ImmediateKind.Byte) ∷
    digit 0xC7 0 (form Row.Mov OperandKind.Any ImmediateKind.SignedOperand) ∷
    op 0x8C (form Row.Movseg OperandKind.FromSegment ImmediateKind.Nothing) ∷
    op 0x8E (form Row.Movseg OperandKind.ToSegment ImmediateKind.Nothing) ∷
    op 0x8D (memory Row.Lea) ∷
    only AfterF3 (op 0x90 (alone Row.Pause)) ∷
    op 0x90 (alone Row.Nop) ∷
    op 0x98 (alone Row.Cbw) ∷
    op 0x99 (alone Row.Cwd) ∷
    op 0x9A (form Row.Callf OperandKind.Nothing ImmediateKind.FarPointer) ∷
    op 0xEA (form Row.Jmpf OperandKind.Nothing ImmediateKind.FarPointer) ∷
    digit 0xFF 3 (memory Row.Callf) ∷
    digit 0xFF 5 (memory Row.Jmpf) ∷
    op 0x9C (stack (alone Row.Pushf)) ∷
    op 0x9D (stack (alone Row.Popf)) ∷
    op 0x9E (alone Row.Sahf) ∷
    op 0x9F (alone Row.Lahf) ∷
    ops 0xA4 0xA5 (alone Row.Movs) ∷
    ops 0xA6 0xA7 (alone Row.Cmps) ∷
    ops 0xAA 0xAB (alone Row.Stos) ∷
    ops 0xAC 0xAD (alone Row.Lods) ∷
    ops 0xAE 0xAF (alone Row.Scas) ∷
    shift 0 Row.Rol ++
    shift 1 Row.Ror ++
    shift 2 Row.Rcl ++
    shift 3 Row.Rcr ++
    shift 4 Row.Shl ++
    shift 5 Row.Shr ++
    shift 6 Row.Shl ++
    shift 7 Row.Sar ++
    op 0xC3 (near (alone Row.Ret)) ∷
    op 0xC2 (near (form Row.Ret OperandKind.Nothing ImmediateKind.Word)) ∷
    only Not64 (op 0xC4 (form Row.Les OperandKind.MemoryOnly ImmediateKind.Nothing)) ∷
    only Not64 (op 0xC5 (form Row.Lds OperandKind.MemoryOnly ImmediateKind.Nothing)) ∷
    op 0xC8 (stack (form Row.Enter OperandKind.Nothing ImmediateKind.EnterFrame)) ∷
    op 0xC9 (stack (alone Row.Leave)) ∷
    op 0xCB (alone Row.Retf) ∷
    op 0xCA (form Row.Retf OperandKind.Nothing ImmediateKind.Word) ∷
    op 0xCF (alone Row.Iret) ∷
    op 0xCC (alone Row.Int3) ∷
    op 0xCD (form Row.Int OperandKind.Nothing ImmediateKind.Byte) ∷
    op 0xCE (alone Row.Into) ∷
    op 0xD7 (alone Row.Xlat) ∷
    op 0xE0 (near (form Row.Loopne OperandKind.Nothing ImmediateKind.SignedByte)) ∷
    op 0xE1 (near (form Row.Loope OperandKind.Nothing ImmediateKind.SignedByte)) ∷
    op 0xE2 (near (form Row.Loop OperandKind.Nothing ImmediateKind.SignedByte)) ∷
    op 0xE3 (near (form Row.Jcxz OperandKind.Nothing ImmediateKind.SignedByte)) ∷
    ops 0xE4 0xE5 (form Row.In OperandKind.Nothing ImmediateKind.Byte) ∷
    ops 0xEC 0xED (alone Row.In) ∷
    ops 0xE6 0xE7 (form Row.Out OperandKind.Nothing ImmediateKind.Byte) ∷
    ops 0xEE 0xEF (alone Row.Out) ∷
    op 0xE8 (near (form Row.Call OperandKind.Nothing ImmediateKind.SignedOperand)) ∷
    digit 0xFF 2 (near (operand Row.Call)) ∷
    op 0xE9 (near (form Row.Jmp OperandKind.Nothing ImmediateKind.SignedOperand)) ∷
    op 0xEB (near (form Row.Jmp OperandKind.Nothing ImmediateKind.SignedByte)) ∷
    digit 0xFF 4 (near (operand Row.Jmp)) ∷
    op 0xF4 (alone Row.Hlt) ∷
    op 0xF5 (alone Row.Cmc) ∷
    op 0xF8 (alone Row.Clc) ∷
    op 0xF9 (alone Row.Stc) ∷
    op 0xFA (alone Row.Cli) ∷
    op 0xFB (alone Row.Sti) ∷
    op 0xFC (alone Row.Cld) ∷
    op 0xFD (alone Row.Std) ∷
    digit 0xF6 2 (lockable (operand Row.Not)) ∷
    digit 0xF7 2 (lockable (operand Row.Not)) ∷
    digit 0xF6 3 (lockable (operand Row.Neg)) ∷
    digit 0xF7 3 (lockable (operand Row.Neg)) ∷
    digit 0xF6 4 (operand Row.Mul) ∷
    digit 0xF7 4 (operand Row.Mul) ∷
    digit 0xF6 6 (operand Row.Div) ∷
    digit 0xF7 6 (operand Row.Div) ∷
    digit 0xF6 7 (operand Row.Idiv) ∷
    digit 0xF7 7 (operand Row.Idiv) ∷
    bad_digits 0xFE 2 7 ∷
    bad_digits 0xFF 7 7 ∷
    []

-- opcodes after 0F
unfoldable pub two_byte_lines : List Line
two_byte_lines =
    op 0x0FA0 (stack (alone Row.Pushseg)) ∷
    op 0x0FA8 (stack (alone Row.Pushseg)) ∷
    op 0x0FA1 (stack (alone Row.Popseg)) ∷
    op 0x0FA9 (stack (alone Row.Popseg)) ∷
    op 0x0FAF (operand Row.Imul) ∷
    ops 0x0F80 0x0F8F (near (form Row.Jcc OperandKind.Nothing ImmediateKind.SignedOperand)) ∷
    op 0x0F0D (operand Row.Nop) ∷
    ops 0x0F18 0x0F1F (operand Row.Nop) ∷
    op 0x0FB2 (memory Row.Lss) ∷
    op 0x0FB4 (memory Row.Lfs) ∷
    op 0x0FB5 (memory Row.Lgs) ∷
    digit 0x0F00 0 (operand Row.Sldt) ∷
    digit 0x0F00 1 (operand Row.Str) ∷
    digit 0x0F00 2 (operand Row.Lldt) ∷
    digit 0x0F00 3 (operand Row.Ltr) ∷
    digit 0x0F00 4 (operand Row.Verr) ∷
    digit 0x0F00 5 (operand Row.Verw) ∷
    bad_digits 0x0F00 6 7 ∷
    digit 0x0F01 0 (form Row.Sgdt OperandKind.MemoryOnly ImmediateKind.Nothing) ∷
    digit 0x0F01 1 (form Row.Sidt OperandKind.MemoryOnly ImmediateKind.Nothing) ∷
    digit 0x0F01 2 (form Row.Lgdt OperandKind.MemoryOnly ImmediateKind.Nothing) ∷
    digit 0x0F01 3 (form Row.Lidt OperandKind.MemoryOnly ImmediateKind.Nothing) ∷
    digit 0x0F01 4 (operand Row.Smsw) ∷
    digit 0x0F01 6 (operand Row.Lmsw) ∷
    digit 0x0F01 7 (form Row.Invlpg OperandKind.MemoryOnly ImmediateKind.Nothing) ∷
    op 0x0F02 (operand Row.Lar) ∷
    op 0x0F03 (operand Row.Lsl) ∷
    op 0x0F06 (alone Row.Clts) ∷
    op 0x0F08 (alone Row.Invd) ∷
    op 0x0F09 (alone Row.Wbinvd) ∷
    op 0x0F20 (form Row.Movcr OperandKind.Control ImmediateKind.Nothing) ∷
    op 0x0F22 (form Row.Movcr OperandKind.Control ImmediateKind.Nothing) ∷
    op 0x0F30 (alone Row.Wrmsr) ∷
    op 0x0F31 (alone Row.Rdtsc) ∷
    op 0x0F32 (alone Row.Rdmsr) ∷
    op 0x0FA2 (alone Row.Cpuid) ∷
    ops 0x0F40 0x0F4F (operand Row.Cmov) ∷
    ops 0x0F90 0x0F9F (operand Row.Set) ∷
    op 0x0FA3 (operand Row.Bt) ∷
    op 0x0FAB (lockable (operand Row.Bts)) ∷
    op 0x0FB3 (lockable (operand Row.Btr)) ∷
    op 0x0FBB (lockable (operand Row.Btc)) ∷
    digit 0x0FBA 4 (form Row.Bt OperandKind.Any ImmediateKind.Byte) ∷
    digit 0x0FBA 5 (lockable (form Row.Bts OperandKind.Any ImmediateKind.Byte)) ∷
    digit 0x0FBA 6 (lockable (form Row.Btr OperandKind.Any ImmediateKind.Byte)) ∷
    digit 0x0FBA 7 (lockable (form Row.Btc OperandKind.Any ImmediateKind.Byte)) ∷
    op 0x0FA4 (form Row.Shld OperandKind.Any ImmediateKind.Byte) ∷
    op 0x0FA5 (operand Row.Shld) ∷
    op 0x0FAC (form Row.Shrd OperandKind.Any ImmediateKind.Byte) ∷
    op 0x0FAD (operand Row.Shrd) ∷
    ops 0x0FB0 0x0FB1 (lockable (operand Row.Cmpxchg)) ∷
    ops 0x0FB6 0x0FB7 (operand Row.Movzx) ∷
    ops 0x0FBE 0x0FBF (operand Row.Movsx) ∷
    only AfterF3 (op 0x0FB8 (operand Row.Popcnt)) ∷
    op 0x0FBC (operand Row.Bsf) ∷
    op 0x0FBD (operand Row.Bsr) ∷
    ops 0x0FC0 0x0FC1 (lockable (operand Row.Xadd)) ∷
    digit 0x0FC7 1 (lockable (memory Row.Cmpxchg8b)) ∷
    ops 0x0FC8 0x0FCF (alone Row.Bswap) ∷
    bad_op 0x0F0B ∷
    bad_digits 0x0FBA 0 3 ∷
    []

-- Invalid in 64-bit code, at the opcode: SDM volume 2, appendix A.2.5, superscript i64
abbrev pub bad_in_64_bit : ℕ → Bool
bad_in_64_bit op = list_any (λ b. op == b) (0x06 ∷ 0x07 ∷ 0x0E ∷ 0x16 ∷ 0x17 ∷ 0x1E ∷ 0x1F ∷ 0x27 ∷ 0x2F ∷ 0x37 ∷ 0x3F ∷ 0x60 ∷ 0x61 ∷ 0x82 ∷ 0x9A ∷ 0xCE ∷ 0xD4 ∷ 0xD5 ∷ 0xEA ∷ [])

abbrev pub has_opcode : ℕ → Line → Bool
has_opcode op l = nat_le l.first op && nat_le op l.last

abbrev pub is_group : Digits → Bool
is_group AnyReg = false
is_group (Reg d to) = true

abbrev pub has_digit : ℕ → Digits → Bool
has_digit reg AnyReg = true
has_digit reg (Reg d to) = nat_le d reg && nat_le reg to

abbrev pub holds : MapConditions → When → Bool
holds s Always = true
holds s Not64 = not s.in_64_bit
holds s In64 = s.in_64_bit
holds s AfterF3 = s.after_f3
holds s WithRexB = s.rex_b

abbrev pub cell_of : Option Line → OpcodeCell
cell_of None = Outside
cell_of (Some l) = l.cell

-- the lines of an opcode
unfoldable pub lines_of : ℕ → List Line
lines_of op = filter (has_opcode op) (if nat_le 0x0F00 op then two_byte_lines else one_byte_lines)

-- the reg field of a ModRM byte belongs to an opcode with these lines
abbrev pub has_group : List Line → Bool
has_group lines = list_any (λ l. is_group l.digits) lines

unfoldable pub needs_reg : ℕ → Bool
needs_reg op = has_group (lines_of op)

-- what an opcode with these lines says with this reg field: the first line that holds
abbrev pub cell_in : MapConditions → ℕ → List Line → OpcodeCell
cell_in s reg lines = cell_of (find (λ l. has_digit reg l.digits && holds s l.when) lines)

unfoldable pub cell_at : MapConditions → ℕ → ℕ → OpcodeCell
cell_at s op reg = cell_in s reg (lines_of op)

-- an opcode of one byte, or one after 0F
abbrev pub IsOpcode : ℕ → Type 0
IsOpcode op = IsTrue (nat_lt op 256 || (nat_le 0x0F00 op && nat_lt op 0x1000))
