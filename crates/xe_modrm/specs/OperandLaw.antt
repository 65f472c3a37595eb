use Rattle.std.specs.Prelude.{◌≡◌, ◌++◌, ◌≤◌, ◌<◌, length, take, ℕ, List, [], ◌∷◌, if◌then◌else◌}
use Rattle.xe_base.specs.declared.cpu.CodeSize.{CodeSize}
use Rattle.xe_modrm.specs.Reader.{AreBytes}
use Rattle.xe_modrm.specs.Operand.{is_short, has_sib, disp_len, signed_of, operand_of, operand_part}
use Rattle.xe_modrm.specs.declared.part.ModRm.{ModRm}
use Rattle.xe_modrm.specs.declared.part.Part.TheVariants.{Got, More}
use Rattle.xe_modrm.specs.declared.part.Prefixes.{Prefixes}

-- A ModRM operand by its parts, as lists one after another: SDM volume 2, section 2.1.3 and
-- figure 2-1.

-- the one byte of a part that has at most one, or 0
abbrev pub byte_of : List ℕ → ℕ
byte_of [] = 0
byte_of (b ∷ bs) = b

-- the bytes are a ModRM byte, a SIB byte where one follows it, and a displacement of as many bytes
-- as these two say, read as a signed number; the operand is what the three mean
pub record HasOperandParts (size : CodeSize) (pre : Prefixes) (bytes : List ℕ) (operand : ModRm) : Type 0 where
  pub modrm : ℕ
  pub sib : List ℕ
  pub displacement : List ℕ
  pub spelling : bytes ≡ modrm ∷ (sib ++ displacement)
  pub sib_there : length sib ≡ (if has_sib (is_short size pre.adsize) modrm then 1 else 0)
  pub displacement_there : length displacement ≡ disp_len (is_short size pre.adsize) modrm (byte_of sib)
  pub meaning : operand ≡ operand_of size pre modrm (byte_of sib) (signed_of displacement)

-- what is read stands at the front of the bytes
abbrev pub GotIsParts : Type 0
GotIsParts = (size : CodeSize) (pre : Prefixes) (bytes : List ℕ) (operand : ModRm) (n : ℕ) → operand_part size pre bytes ≡ Got operand n → (n ≤ length bytes) × HasOperandParts size pre (take n bytes) operand

-- what stands at the front of the bytes is read, whatever follows it
abbrev pub PartsAreGot : Type 0
PartsAreGot = (size : CodeSize) (pre : Prefixes) (bytes rest : List ℕ) (operand : ModRm) → HasOperandParts size pre bytes operand → operand_part size pre (bytes ++ rest) ≡ Got operand (length bytes)

-- where more is wanted, some bytes more make an operand
abbrev pub MoreGoesOn : Type 0
MoreGoesOn = (size : CodeSize) (pre : Prefixes) (bytes : List ℕ) → operand_part size pre bytes ≡ More → (more : List ℕ) × (operand : ModRm) × (0 < length more) × AreBytes more × HasOperandParts size pre (bytes ++ more) operand
