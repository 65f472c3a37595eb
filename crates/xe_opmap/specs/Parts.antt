use Rattle.std.specs.Prelude.{◌≡◌, ◌++◌, ◌+◌, length, ℕ, true, false, ◌==◌, ◌&&◌, ◌||◌, List, [], ◌∷◌, Option, Some, None, is_some, if◌then◌else◌}
use Rattle.std.specs.List.{list_all}
use Rattle.xe_base.specs.declared.cpu.CodeSize.{CodeSize}
use Rattle.xe_modrm.specs.Prefix.{is_64_bit, is_prefix, prefixes_of}
use Rattle.xe_modrm.specs.declared.part.Prefixes.{Prefixes}
use Rattle.xe_modrm.specs.declared.part.ModRm.{ModRm}
use Rattle.xe_modrm.specs.declared.part.Part.TheVariants.{Got}
use Rattle.xe_opmap.specs.Table.{bad_in_64_bit, needs_reg, cell_at}
use Rattle.xe_opmap.specs.Immediate.{first_part, second_part}
use Rattle.xe_opmap.specs.Encoding.{conditions_of, opsize_of, adsize_of, has_modrm, modrm_part, ends_outside, is_wrong, group_cell, instruction, with_len}
use Rattle.xe_opmap.specs.Relations.{Spells}
use Rattle.xe_opmap.specs.declared.form.OpcodeCell.{OpcodeCell}
use Rattle.xe_opmap.specs.declared.form.OpcodeCell.TheVariants as cell
use Rattle.xe_opmap.specs.declared.form.InsnForm.{InsnForm}
use Rattle.xe_opmap.specs.declared.form.OperandKind.{OperandKind}
use Rattle.xe_opmap.specs.declared.insn.Insn.{Insn}

-- An instruction by its parts, as lists one after another (SDM volume 2, figure 2-1).

-- the first byte of an opcode, and the bytes after it: 0F has one more
abbrev pub IsOpcodeBytes : ℕ → ℕ → List ℕ → Type 0
IsOpcodeBytes op b [] = (b == 0x0F ≡ false) × (op ≡ b)
IsOpcodeBytes op b (c ∷ []) = (b == 0x0F ≡ true) × (op ≡ 0x0F00 + c)
IsOpcodeBytes op b (c ∷ d ∷ bs) = ⊥

abbrev pub head_of : List ℕ → ℕ
head_of [] = 0
head_of (b ∷ bs) = b

-- the place of an opcode in the maps, by its operand's first byte where the reg field belongs to it
abbrev pub place_of : CodeSize → Prefixes → ℕ → List ℕ → OpcodeCell
place_of size pre op operand = if needs_reg op then group_cell (conditions_of size pre) op (head_of operand) else cell_at (conditions_of size pre) op 0

-- the bytes of an operand: ModRM byte, SIB byte and displacement, or none
abbrev pub IsOperand : CodeSize → Prefixes → OperandKind → List ℕ → Option ModRm → Type 0
IsOperand size pre kind bytes None = bytes ≡ []
IsOperand size pre kind bytes (Some m) = (modrm_part size pre kind bytes ≡ Got m (length bytes)) × (ends_outside kind m ≡ false)

-- prefixes, opcode, operand and immediates, one after another, of a row; and what they mean
pub record HasAllParts (size : CodeSize) (bytes : List ℕ) (insn : Insn) : Type 0 where
  pub prefix : List ℕ
  pub opcode : ℕ
  pub opcode_rest : List ℕ
  pub operand : List ℕ
  pub first : List ℕ
  pub second : List ℕ
  pub spelling : bytes ≡ prefix ++ (opcode ∷ opcode_rest ++ (operand ++ (first ++ second)))
  pub all : list_all (is_prefix size) prefix ≡ true
  pub ends : is_prefix size opcode ≡ false
  pub pre : Prefixes
  pub pre_is : pre ≡ prefixes_of size prefix
  pub op : ℕ
  pub op_is : IsOpcodeBytes op opcode opcode_rest
  pub allowed : (is_64_bit size && bad_in_64_bit op) ≡ false
  pub form : InsnForm
  pub place : place_of size pre op operand ≡ cell.Form form
  pub modrm : Option ModRm
  pub there : is_some modrm ≡ (needs_reg op || has_modrm form.operand)
  pub operand_is : IsOperand size pre form.operand operand modrm
  pub imm : ℕ
  pub first_is : first_part (opsize_of size pre form.size) (adsize_of size pre.adsize) form.imm first ≡ Got imm (length first)
  pub imm2 : ℕ
  pub second_is : second_part form.imm second ≡ Got imm2 (length second)
  pub right : is_wrong pre form modrm ≡ false
  pub meaning : insn ≡ with_len (instruction size pre op form modrm imm imm2) (length bytes)

abbrev pub SpelledHasParts : Type 0
SpelledHasParts = (size : CodeSize) (bytes : List ℕ) (insn : Insn) → Spells size bytes insn → HasAllParts size bytes insn

abbrev pub AllPartsSpell : Type 0
AllPartsSpell = (size : CodeSize) (bytes : List ℕ) (insn : Insn) → HasAllParts size bytes insn → Spells size bytes insn
