use Rattle.std.specs.Prelude.{ℕ, ◌==◌, ◌||◌, ◌*◌, ◌^◌, ◌<◌, IsTrue, if◌then◌else◌}
use Rattle.xe_base.specs.Bytes.{num}
use Rattle.xe_base.specs.Words.{signed, wrapped}
use Rattle.xe_modrm.specs.Reader.{Reader, ◌>>=◌, given, some_bytes}
use Rattle.xe_modrm.specs.declared.part.Part.{Part}
use Rattle.xe_modrm.specs.declared.part.Part.TheVariants.{Got, More}
use Rattle.xe_opmap.specs.declared.form.ImmediateKind.{ImmediateKind}
use Rattle.xe_opmap.specs.declared.form.ImmediateKind.TheVariants as imm

-- Immediates: SDM volume 2, section 2.1.4 and the codes of section 3.1.1.1 (ib, iw, id); moffs and
-- far pointers: appendix A.2.1, codes O and A. Sizes are in bytes.

-- an iz immediate: 2 bytes at operand size 16, otherwise 4
abbrev pub full_len : ℕ → ℕ
full_len opsize = if opsize == 2 then 2 else 4

-- the bytes of the second: the selector of a far pointer, the level of ENTER
abbrev pub second_len : ImmediateKind → ℕ
second_len imm.Nothing = 0
second_len imm.Byte = 0
second_len imm.SignedByte = 0
second_len imm.Word = 0
second_len imm.SignedOperand = 0
second_len imm.OperandSized = 0
second_len imm.Address = 0
second_len imm.FarPointer = 2
second_len imm.EnterFrame = 1

-- a number of n bytes, sign-extended to the operand size: its signed number, modulo 2 ^ (8 * opsize)
abbrev pub extended : ℕ → ℕ → ℕ → ℕ
extended n opsize x = wrapped (8 * opsize) (signed (8 * n) x)

-- n bytes as a number, the lowest byte first
abbrev pub number_part : ℕ → Reader ℕ
number_part n = some_bytes n >>= λ bs. given (num bs)

-- n bytes as a number, sign-extended to the operand size
abbrev pub extended_part : ℕ → ℕ → Reader ℕ
extended_part n opsize = some_bytes n >>= λ bs. given (extended n opsize (num bs))

-- the first immediate, by operand size and address size
abbrev pub first_part : ℕ → ℕ → ImmediateKind → Reader ℕ
first_part opsize adsize imm.Nothing = number_part 0
first_part opsize adsize imm.Byte = number_part 1
first_part opsize adsize imm.SignedByte = extended_part 1 opsize
first_part opsize adsize imm.Word = number_part 2
first_part opsize adsize imm.SignedOperand = extended_part (full_len opsize) opsize
first_part opsize adsize imm.OperandSized = number_part opsize
first_part opsize adsize imm.Address = number_part adsize
first_part opsize adsize imm.FarPointer = number_part opsize
first_part opsize adsize imm.EnterFrame = number_part 2

-- the second immediate
abbrev pub second_part : ImmediateKind → Reader ℕ
second_part i = number_part (second_len i)

-- how many bytes a number in an encoding may have
abbrev pub IsCount : ℕ → Type 0
IsCount n = IsTrue (n == 0 || n == 1 || n == 2 || n == 4 || n == 8)

-- a number that was got has n bytes
abbrev pub IsBytes : ℕ → Part ℕ → Type 0
IsBytes n (Got x used) = x < 2 ^ (8 * n)
IsBytes n More = Unit {0}
