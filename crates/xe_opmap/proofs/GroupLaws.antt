use Rattle.std.proofs.Common.{◌≡◌, ℕ, List, drop, ◌+◌, arith, sym, ◌∙◌, ap}
use Rattle.xe_base.specs.declared.cpu.CodeSize.{CodeSize}
use Rattle.xe_modrm.specs.declared.part.Part.TheVariants.{Got}
use Rattle.xe_modrm.specs.declared.part.Prefixes.{Prefixes}
use Rattle.xe_modrm.specs.Reader.{after_bytes, continued, ◌>>=◌, one_byte}
use Rattle.xe_opmap.specs.declared.form.InsnForm.{InsnForm}
use Rattle.xe_opmap.specs.declared.form.OpcodeCell.{OpcodeCell}
use Rattle.xe_opmap.specs.declared.form.OpcodeCell.TheVariants as cell
use Rattle.xe_opmap.specs.declared.insn.Verdict.TheVariants.{Invalid, Outside}
use Rattle.xe_opmap.specs.Encoding.{conditions_of, group_cell, group_rest, group_part, operand_rest, after_operand, after_modrm, modrm_part, operand_row}
use Rattle.xe_opmap.proofs.OperandLaws.{one_first}

module _ (size : CodeSize) (pre : Prefixes) (op : ℕ) (bytes : List ℕ) (m used : ℕ) (first : one_byte bytes ≡ Got m used) where
  -- the rest of a group by its cell
  with_cell : (c : OpcodeCell) → group_cell (conditions_of size pre) op m ≡ c → group_part size pre op bytes ≡ after_bytes used (group_rest size pre op c m (drop used bytes))
  unfolding group_part
  with_cell c is =
      ap (λ p. continued p bytes (λ m. group_rest size pre op (group_cell (conditions_of size pre) op m) m)) first
      ∙ ap (λ c. after_bytes used (group_rest size pre op c m (drop used bytes))) is

  pub group_outside : group_cell (conditions_of size pre) op m ≡ cell.Outside → Got Outside used ≡ group_part size pre op bytes
  unfolding group_rest
  group_outside is = let z : used ≡ used + 0 = omega arith in ap (Got Outside) z ∙ sym (with_cell cell.Outside is)

  pub group_invalid : group_cell (conditions_of size pre) op m ≡ cell.Invalid → Got Invalid used ≡ group_part size pre op bytes
  unfolding group_rest
  group_invalid is = let z : used ≡ used + 0 = omega arith in ap (Got Invalid) z ∙ sym (with_cell cell.Invalid is)

  -- the row of a group reads the ModRM byte again
  row_again : (s : InsnForm) → operand_row size pre op s bytes ≡ after_bytes used (after_modrm size pre op s m (drop used bytes))
  unfolding operand_row modrm_part after_modrm
  row_again s =
      one_first (operand_rest size pre s.operand) (after_operand size pre op s) bytes
      ∙ ap (λ p. continued p bytes (λ m. operand_rest size pre s.operand m >>= after_operand size pre op s)) first

  pub group_plain : (s : InsnForm) → group_cell (conditions_of size pre) op m ≡ cell.Form s → operand_row size pre op s bytes ≡ group_part size pre op bytes
  unfolding group_rest
  group_plain s is = row_again s ∙ sym (with_cell (cell.Form s) is)
