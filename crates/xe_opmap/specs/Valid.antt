use Rattle.std.specs.Prelude.{ℕ, ◌≡◌, ◌≤◌, ◌<◌, ◌*◌, ◌%◌, ◌^◌, Bool, true, false, ◌==◌, ◌&&◌, not, nat_le, nat_lt, IsTrue, if◌then◌else◌, Option, Some, None}
use Rattle.std.specs.Option.{ForSome}
use Rattle.xe_base.specs.declared.cpu.CodeSize.{CodeSize}
use Rattle.xe_modrm.specs.Prefix.{is_64_bit}
use Rattle.xe_modrm.specs.Valid.{IsPrefixes, IsModRm}
use Rattle.xe_modrm.specs.declared.part.Part.{Part}
use Rattle.xe_modrm.specs.declared.part.Part.TheVariants.{Got, More}
use Rattle.xe_opmap.specs.Table.{IsOpcode}
use Rattle.xe_modrm.specs.declared.part.ModRm.{ModRm}
use Rattle.xe_opmap.specs.Encoding.{IsSize, is_control}
use Rattle.xe_opmap.specs.declared.row.Row.{Row}
use Rattle.xe_opmap.specs.declared.row.Row.TheVariants as row
use Rattle.xe_opmap.specs.declared.form.InsnForm.{InsnForm}
use Rattle.xe_opmap.specs.declared.form.OperandKind.{OperandKind}
use Rattle.xe_opmap.specs.declared.form.OperandKind.TheVariants.{Nothing, Any, Memory, MemoryOnly, FromSegment, ToSegment, Control}
use Rattle.xe_opmap.specs.declared.form.ImmediateKind.{ImmediateKind}
use Rattle.xe_opmap.specs.declared.form.ImmediateKind.TheVariants as imm
use Rattle.xe_opmap.specs.declared.form.OpcodeCell.{OpcodeCell}
use Rattle.xe_opmap.specs.declared.form.OpcodeCell.TheVariants as cell
use Rattle.xe_opmap.specs.declared.insn.Insn.{Insn}
use Rattle.xe_opmap.specs.declared.insn.Verdict.{Verdict}
use Rattle.xe_opmap.specs.declared.insn.Verdict.TheVariants.{Valid, Invalid, Outside}
use Rattle.xe_opmap.specs.declared.insn.Decoded.{Decoded}
use Rattle.xe_opmap.specs.declared.insn.Decoded.TheVariants as decoded

-- the ranges in which the numbers of an instruction lie

-- the opcodes of MOV between the accumulator and an address
abbrev pub is_offset : ℕ → Bool
is_offset op = nat_le 0xA0 op && nat_le op 0xA3

abbrev pub is_address : ImmediateKind → Bool
is_address imm.Nothing = false
is_address imm.Byte = false
is_address imm.SignedByte = false
is_address imm.Word = false
is_address imm.SignedOperand = false
is_address imm.OperandSized = false
is_address imm.Address = true
is_address imm.FarPointer = false
is_address imm.EnterFrame = false

-- the bytes in which the value of an immediate fits
abbrev pub imm_width : ℕ → ℕ → ImmediateKind → ℕ
imm_width opsize adsize imm.Nothing = opsize
imm_width opsize adsize imm.Byte = opsize
imm_width opsize adsize imm.SignedByte = opsize
imm_width opsize adsize imm.Word = opsize
imm_width opsize adsize imm.SignedOperand = opsize
imm_width opsize adsize imm.OperandSized = opsize
imm_width opsize adsize imm.Address = adsize
imm_width opsize adsize imm.FarPointer = opsize
imm_width opsize adsize imm.EnterFrame = opsize

-- what is known of the ModRM operand by the row alone
pub data Need : Type 0 where
  Unknown : Need
  There : Need
  InMemory : Need
  FromSeg : Need
  ToSeg : Need
  OfControl : Need

-- the operand of a row: some rows always have one, some have it in memory, and far calls and jumps
-- have it nowhere else; MOV names a segment register that there is, which isn't CS as destination,
-- or a control register that there is
abbrev pub need_of : Row → ℕ → Need
need_of row.Arpl op = There
need_of row.Movsxd op = There
need_of row.Imul op = There
need_of row.Movseg op = if op == 0x8E then ToSeg else FromSeg
need_of row.Lea op = InMemory
need_of row.Callf op = if op == 0xFF then InMemory else Unknown
need_of row.Jmpf op = if op == 0xFF then InMemory else Unknown
need_of row.Rol op = There
need_of row.Ror op = There
need_of row.Rcl op = There
need_of row.Rcr op = There
need_of row.Shl op = There
need_of row.Shr op = There
need_of row.Sar op = There
need_of row.Les op = InMemory
need_of row.Lds op = InMemory
need_of row.Lss op = InMemory
need_of row.Lfs op = InMemory
need_of row.Lgs op = InMemory
need_of row.Not op = There
need_of row.Neg op = There
need_of row.Mul op = There
need_of row.Div op = There
need_of row.Idiv op = There
need_of row.Sldt op = There
need_of row.Str op = There
need_of row.Lldt op = There
need_of row.Ltr op = There
need_of row.Verr op = There
need_of row.Verw op = There
need_of row.Sgdt op = InMemory
need_of row.Sidt op = InMemory
need_of row.Lgdt op = InMemory
need_of row.Lidt op = InMemory
need_of row.Smsw op = There
need_of row.Lmsw op = There
need_of row.Invlpg op = InMemory
need_of row.Lar op = There
need_of row.Lsl op = There
need_of row.Movcr op = OfControl
need_of row.Cmov op = There
need_of row.Set op = There
need_of row.Bt op = There
need_of row.Bts op = There
need_of row.Btr op = There
need_of row.Btc op = There
need_of row.Shld op = There
need_of row.Shrd op = There
need_of row.Cmpxchg op = There
need_of row.Movzx op = There
need_of row.Movsx op = There
need_of row.Popcnt op = There
need_of row.Bsf op = There
need_of row.Bsr op = There
need_of row.Xadd op = There
need_of row.Cmpxchg8b op = InMemory
need_of other op = Unknown

abbrev pub is_met : Need → Option ModRm → Bool
is_met Unknown o = true
is_met There None = false
is_met There (Some m) = true
is_met InMemory None = false
is_met InMemory (Some m) = not (m.md == 3)
is_met FromSeg None = false
is_met FromSeg (Some m) = nat_lt (m.reg % 8) 6
is_met ToSeg None = false
is_met ToSeg (Some m) = nat_lt (m.reg % 8) 6 && not (m.reg % 8 == 1)
is_met OfControl None = false
is_met OfControl (Some m) = m.md == 3 && is_control m.reg

-- an operand of this kind, when it was judged, is what the row needs
abbrev pub serves : Need → OperandKind → Bool
serves Unknown Nothing = true
serves Unknown Any = true
serves Unknown Memory = true
serves Unknown MemoryOnly = true
serves Unknown FromSegment = true
serves Unknown ToSegment = true
serves Unknown Control = true
serves There Nothing = false
serves There Any = true
serves There Memory = true
serves There MemoryOnly = true
serves There FromSegment = true
serves There ToSegment = true
serves There Control = true
serves InMemory Nothing = false
serves InMemory Any = false
serves InMemory Memory = true
serves InMemory MemoryOnly = true
serves InMemory FromSegment = false
serves InMemory ToSegment = false
serves InMemory Control = false
serves FromSeg Nothing = false
serves FromSeg Any = false
serves FromSeg Memory = false
serves FromSeg MemoryOnly = false
serves FromSeg FromSegment = true
serves FromSeg ToSegment = true
serves FromSeg Control = false
serves ToSeg Nothing = false
serves ToSeg Any = false
serves ToSeg Memory = false
serves ToSeg MemoryOnly = false
serves ToSeg FromSegment = false
serves ToSeg ToSegment = true
serves ToSeg Control = false
serves OfControl Nothing = false
serves OfControl Any = false
serves OfControl Memory = false
serves OfControl MemoryOnly = false
serves OfControl FromSegment = false
serves OfControl ToSegment = false
serves OfControl Control = true

-- an operand that was read for this kind
abbrev pub is_kind : OperandKind → Option ModRm → Bool
is_kind Nothing o = true
is_kind Any None = false
is_kind Any (Some m) = true
is_kind Memory None = false
is_kind Memory (Some m) = true
is_kind MemoryOnly None = false
is_kind MemoryOnly (Some m) = not (m.md == 3)
is_kind FromSegment None = false
is_kind FromSegment (Some m) = true
is_kind ToSegment None = false
is_kind ToSegment (Some m) = true
is_kind Control None = false
is_kind Control (Some m) = m.md == 3

-- mod reads as 3 in an operand of MOV CR
abbrev pub control_fits : OperandKind → ModRm → Bool
control_fits Nothing m = true
control_fits Any m = true
control_fits Memory m = true
control_fits MemoryOnly m = true
control_fits FromSegment m = true
control_fits ToSegment m = true
control_fits Control m = m.md == 3

abbrev pub IsGotOperand : OperandKind → Part ModRm → Type 0
IsGotOperand k (Got m n) = IsModRm m × (control_fits k m ≡ true)
IsGotOperand k More = Unit {0}

-- a form that belongs to the opcode: it has an address exactly where the opcode is one of the four,
-- and its operand serves the row
pub record IsFormOf (op : ℕ) (s : InsnForm) : Type 0 where
  pub address : is_address s.imm ≡ is_offset op
  pub serves_row : serves (need_of s.row op) s.operand ≡ true

abbrev pub IsCellOf : ℕ → OpcodeCell → Type 0
IsCellOf op cell.Outside = Unit {0}
IsCellOf op cell.Invalid = Unit {0}
IsCellOf op (cell.Form s) = IsFormOf op s

-- the parts of an instruction, but for its length: sizes are 2, 4 or 8, and 8 in 64-bit code
-- alone; register numbers are below 16, and the operand is what the row needs; an immediate fits
-- the operand size, and an address the address size
pub record IsParts (size : CodeSize) (insn : Insn) : Type 0 where
  pub opcode : IsOpcode insn.opcode
  pub opsize : IsSize insn.opsize
  pub opsize_below : is_64_bit size ≡ false → insn.opsize ≤ 4
  pub adsize : IsSize insn.adsize
  pub adsize_below : is_64_bit size ≡ false → insn.adsize ≤ 4
  pub pre : IsPrefixes size insn.pre
  pub modrm : ForSome insn.modrm IsModRm
  pub need : IsTrue (is_met (need_of insn.row insn.opcode) insn.modrm)
  pub imm : is_offset insn.opcode ≡ false → insn.imm < 2 ^ (8 * insn.opsize)
  pub address : is_offset insn.opcode ≡ true → insn.imm < 2 ^ (8 * insn.adsize)

-- an instruction with its length
pub record IsInsn (size : CodeSize) (insn : Insn) : Type 0 where
  pub parts : IsParts size insn
  pub some : 1 ≤ insn.len
  pub at_most : insn.len ≤ 15

abbrev pub IsVerdict : CodeSize → Verdict → Type 0
IsVerdict size (Valid insn) = IsParts size insn
IsVerdict size Invalid = Unit {0}
IsVerdict size Outside = Unit {0}

abbrev pub IsGotVerdict : CodeSize → Part Verdict → Type 0
IsGotVerdict size (Got v n) = IsVerdict size v
IsGotVerdict size More = Unit {0}

-- the part has a byte at least
abbrev pub TakesSome : {A : Type 0} → Part A → Type 0
TakesSome (Got v n) = 1 ≤ n
TakesSome More = Unit {0}

-- what is decoded as an instruction is one; what decides that bytes are invalid has 1 to 15 bytes
abbrev pub IsDecoded : CodeSize → Decoded → Type 0
IsDecoded size (decoded.Insn insn) = IsInsn size insn
IsDecoded size (decoded.Invalid n) = (1 ≤ n) × (n ≤ 15)
IsDecoded size decoded.Outside = Unit {0}
IsDecoded size decoded.More = Unit {0}
