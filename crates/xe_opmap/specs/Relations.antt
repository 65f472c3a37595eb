use Rattle.std.specs.Prelude.{◌≡◌, ◌++◌, ◌≤◌, ◌<◌, ◌⊎◌, length, take, ℕ, true, false, List, [], ◌∷◌}
use Rattle.std.specs.List.{list_all}
use Rattle.xe_base.specs.declared.cpu.CodeSize.{CodeSize}
use Rattle.xe_modrm.specs.Prefix.{is_prefix, prefixes_of}
use Rattle.xe_modrm.specs.Reader.{AreBytes}
use Rattle.xe_modrm.specs.declared.part.Part.TheVariants.{Got}
use Rattle.xe_opmap.specs.Encoding.{after_first_byte, decode_part, with_len}
use Rattle.xe_opmap.specs.declared.insn.Insn.{Insn}
use Rattle.xe_opmap.specs.declared.insn.Verdict.{Verdict}
use Rattle.xe_opmap.specs.declared.insn.Verdict.TheVariants as verdict
use Rattle.xe_opmap.specs.declared.insn.Decoded.{Decoded}
use Rattle.xe_opmap.specs.declared.insn.Decoded.TheVariants as decoded

-- Three relations on whole lists of bytes, of any length.

-- the parts of the encoding, one after another, are exactly these bytes
abbrev pub Reads : CodeSize → List ℕ → Verdict → Type 0
Reads size bytes v = decode_part size bytes ≡ Got v (length bytes)

-- the bytes spell the instruction, which has their length
pub record Spells (size : CodeSize) (bytes : List ℕ) (insn : Insn) : Type 0 where
  pub parts : Insn
  pub reads : Reads size bytes (verdict.Valid parts)
  pub whole : insn ≡ with_len parts (length bytes)

-- the bytes end where it is decided that they are invalid
abbrev pub Bad : CodeSize → List ℕ → Type 0
Bad size bytes = Reads size bytes verdict.Invalid

-- the bytes end at the first byte from which no row and no invalid form goes on
abbrev pub IsOutside : CodeSize → List ℕ → Type 0
IsOutside size bytes = Reads size bytes verdict.Outside

-- the bytes, all of them, are what an answer of the decoder says
abbrev pub Encodes : CodeSize → List ℕ → Decoded → Type 0
Encodes size bytes (decoded.Insn insn) = Spells size bytes insn
Encodes size bytes (decoded.Invalid n) = Bad size bytes × (n ≡ length bytes)
Encodes size bytes decoded.Outside = IsOutside size bytes
Encodes size bytes decoded.More = ⊥

-- no list of one relation begins a different list of any of them, and none stands in two
abbrev pub AreApart : Type 0
AreApart = (size : CodeSize) (xs ys : List ℕ) (d e : Decoded) → Encodes size xs d → Encodes size (xs ++ ys) e → (ys ≡ []) × (d ≡ e)

-- a front of the bytes stands in one of the relations
abbrev pub HasFront : CodeSize → List ℕ → Type 0
HasFront size bytes = (n : ℕ) × (d : Decoded) × (n ≤ length bytes) × Encodes size (take n bytes) d

-- the bytes, and at least one byte more, are a list in one of the relations
abbrev pub GoesOn : CodeSize → List ℕ → Type 0
GoesOn size bytes = (more : List ℕ) × (d : Decoded) × (0 < length more) × AreBytes more × Encodes size (bytes ++ more) d

-- each list has a front in one of the relations, or goes on to a list in one
abbrev pub CoverAll : Type 0
CoverAll = (size : CodeSize) (bytes : List ℕ) → HasFront size bytes ⊎ GoesOn size bytes

-- the table has the bytes, as an instruction or as an invalid encoding
abbrev pub IsListed : CodeSize → List ℕ → Type 0
IsListed size bytes = ((insn : Insn) × Spells size bytes insn) ⊎ Bad size bytes

-- the table has the bytes with at least one byte more
abbrev pub CanBeListed : CodeSize → List ℕ → Type 0
CanBeListed size bytes = (more : List ℕ) × (0 < length more) × AreBytes more × IsListed size (bytes ++ more)

-- the table ends with the last of the bytes: it has neither these bytes nor any longer list that
-- begins with them, and each shorter front of them has a longer list that it has
pub record LeavesTable (size : CodeSize) (bytes : List ℕ) : Type 0 where
  pub never : (more : List ℕ) → AreBytes more → IsListed size (bytes ++ more) → ⊥
  pub before : (front back : List ℕ) → bytes ≡ front ++ back → 0 < length back → CanBeListed size front

-- that is what it means to be outside
abbrev pub OutsideLeaves : Type 0
OutsideLeaves = (size : CodeSize) (bytes : List ℕ) → AreBytes bytes → IsOutside size bytes → LeavesTable size bytes

abbrev pub LeavingIsOutside : Type 0
LeavingIsOutside = (size : CodeSize) (bytes : List ℕ) → AreBytes bytes → LeavesTable size bytes → IsOutside size bytes

-- what an answer of the decoder says of the bytes' front
abbrev pub Answers : CodeSize → List ℕ → Decoded → Type 0
Answers size bytes (decoded.Insn insn) = (insn.len ≤ length bytes) × Spells size (take insn.len bytes) insn
Answers size bytes (decoded.Invalid n) = (n ≤ length bytes) × Bad size (take n bytes)
Answers size bytes decoded.Outside = (n : ℕ) × (n ≤ length bytes) × IsOutside size (take n bytes)
Answers size bytes decoded.More = GoesOn size bytes

-- the same by parts: prefix bytes, the first byte of the opcode, which is none, and what follows it
pub record HasParts (size : CodeSize) (bytes : List ℕ) (v : Verdict) : Type 0 where
  pub prefix : List ℕ
  pub first : ℕ
  pub rest : List ℕ
  pub spelling : bytes ≡ prefix ++ first ∷ rest
  pub all : list_all (is_prefix size) prefix ≡ true
  pub ends : is_prefix size first ≡ false
  pub goes_on : after_first_byte size (prefixes_of size prefix) first rest ≡ Got v (length rest)

abbrev pub FromParts : Type 0
FromParts = (size : CodeSize) (bytes : List ℕ) (v : Verdict) → HasParts size bytes v → Reads size bytes v

abbrev pub ToParts : Type 0
ToParts = (size : CodeSize) (bytes : List ℕ) (v : Verdict) → Reads size bytes v → HasParts size bytes v
