use Rattle.std.proofs.Common.{ℕ, ◌≡◌, ◌+◌, ◌-◌, nat_lt, Bool, true, false, Option, Some, None, Ok, Err, IfOk, Result, refl}
use Rattle.xe_base.specs.State.{Valid}
use Rattle.xe_base.specs.declared.cpu.Cpu.{Cpu}
use Rattle.xe_base.specs.declared.segment.SegName.TheVariants.{Es, Ss, Ds, Fs, Gs}
use Rattle.xe_flags.proofs.FlagSet.{fixed_written}
use Rattle.xe_seg.specs.Loads.{rpl_of}
use Rattle.xe_icpt.specs.declared.point.TableName.{TableName}
use Rattle.xe_icpt.specs.declared.point.TableName.TheVariants.{Ldtr, Tr}
use Rattle.xe_opmap.specs.declared.insn.Insn.{Insn}
use Rattle.xe_opmap.specs.declared.row.Row.{Row}
use Rattle.xe_opmap.specs.declared.row.Row.TheVariants as row
use Rattle.xe_ctx.specs.Finishes.{EachGives, IsSound}
use Rattle.xe_ctx.specs.Is.{Sight, Is}
use Rattle.xe_ctx.specs.Operand.{IsOf, operand_of, write_operand}
use Rattle.xe_ctx.specs.Tree.{give}
use Rattle.xe_ctx.specs.Plain.{EndsPlainly}
use Rattle.xe_ctx.specs.Runs.{finished}
use Rattle.xe_ctx.specs.declared.operand.Operand.{Operand}
use Rattle.xe_ctx.specs.declared.stop.End.{End}
use Rattle.xe_ctx.specs.declared.stop.Finish.{Finish}
use Rattle.xe_ctx.specs.declared.stop.Stop.{Stop}
use Rattle.xe_ctx.proofs.FinishLaws.{each_then, each_implies, gives_of}
use Rattle.xe_ctx.proofs.Tame.{Tame, tame_same, tame_flags, tame_register, tame_operand, plain_end, asked_then, each_if}
use Rattle.xe_desc.specs.Load.{store_selector}
use Rattle.xe_desc.specs.Loaded.{EndsByLoad}
use Rattle.xe_desc.specs.Query.{zero_written, answered, lar_row, lsl_row, verify_row, raised, arpl_row}
use Rattle.xe_desc.specs.Rows.{row_at, or_undefined, row_of, is_row, is_calm_row}
use Rattle.xe_desc.specs.Task.{stored_row}
use Rattle.xe_desc.proofs.LoadRows.{Lands, lands_plainly, tame_selector, lands_movseg, lands_popseg, lands_far_pointer, lands_lldt, lands_ltr}

-- ---- the rows that load nothing

tame_zero : (cpu : Cpu) (zero : Bool) → Tame cpu (zero_written cpu zero)
tame_zero cpu zero = tame_flags _ (tame_same cpu) (fixed_written cpu.rflags _)

tame_answered : (insn : Insn) (cpu : Cpu) (found : Option ℕ) → Tame cpu (answered insn cpu found)
tame_answered insn cpu None = tame_zero cpu _
tame_answered insn cpu (Some value) = tame_register _ _ _ value (tame_zero cpu _)

tame_raised : (insn : Insn) (cpu : Cpu) (operand : Operand) (sel asker : ℕ) → EachGives (Tame cpu) (raised insn cpu operand sel asker)
unfolding raised
tame_raised insn cpu operand sel asker =
    let raise = write_operand insn (zero_written cpu true) operand 2 (sel - rpl_of sel + rpl_of asker) in
    each_if (Tame cpu) (nat_lt (rpl_of sel) (rpl_of asker)) raise (give (zero_written cpu false)) (tame_operand insn cpu (zero_written cpu true) operand 2 (sel - rpl_of sel + rpl_of asker) (tame_zero cpu true)) (tame_zero cpu false)

module _ (insn : Insn) (cpu : Cpu) where
  abbrev P : Finish → Type 0
  P f = EndsPlainly insn cpu f

  calm_stored : (t : TableName) (sel : ℕ) → EachGives P (stored_row t sel insn cpu)
  calm_stored t sel = asked_then P _ _ (λ a. asked_then P _ _ (λ b. each_then P (Tame cpu) (store_selector insn cpu sel) _ (tame_selector insn cpu cpu sel (tame_same cpu)) (λ after t. plain_end insn cpu after t)))

  calm_lar : EachGives P (lar_row insn cpu)
  calm_lar = asked_then P _ _ (λ a. asked_then P _ _ (λ value. asked_then P _ _ (λ found. plain_end insn cpu _ (tame_answered insn cpu _))))

  calm_lsl : EachGives P (lsl_row insn cpu)
  calm_lsl = asked_then P _ _ (λ a. asked_then P _ _ (λ value. asked_then P _ _ (λ found. plain_end insn cpu _ (tame_answered insn cpu _))))

  calm_verify : (write : Bool) → EachGives P (verify_row write insn cpu)
  calm_verify write = asked_then P _ _ (λ a. asked_then P _ _ (λ value. asked_then P _ _ (λ found. plain_end insn cpu _ (tame_zero cpu _))))

  calm_arpl : EachGives P (arpl_row insn cpu)
  calm_arpl = asked_then P _ _ (λ a. asked_then P _ _ (λ sel. each_then P (Tame cpu) (raised insn cpu (operand_of insn cpu) sel _) _ (tame_raised insn cpu (operand_of insn cpu) sel _) (λ after t. plain_end insn cpu after t)))

  plain_at : (r : Row) → is_calm_row r ≡ true → EachGives P (or_undefined (row_at r) insn cpu)
  plain_at row.Sldt h = calm_stored Ldtr _
  plain_at row.Str h = calm_stored Tr _
  plain_at row.Lar h = calm_lar
  plain_at row.Lsl h = calm_lsl
  plain_at row.Verr h = calm_verify false
  plain_at row.Verw h = calm_verify true
  plain_at row.Arpl h = calm_arpl
  plain_at other h = cc

  -- ---- all rows

  lands_calmly : Valid cpu → (r : Row) → is_calm_row r ≡ true → EachGives (Lands insn cpu) (or_undefined (row_at r) insn cpu)
  lands_calmly valid r h = each_implies P (Lands insn cpu) (lands_plainly insn cpu valid) (or_undefined (row_at r) insn cpu) (plain_at r h)

  lands_row : Valid cpu → (r : Row) → EachGives (Lands insn cpu) (or_undefined (row_at r) insn cpu)
  lands_row valid row.Movseg = lands_movseg insn cpu valid
  lands_row valid row.Popseg = lands_popseg insn cpu valid
  lands_row valid row.Les = lands_far_pointer insn cpu valid Es
  lands_row valid row.Lds = lands_far_pointer insn cpu valid Ds
  lands_row valid row.Lss = lands_far_pointer insn cpu valid Ss
  lands_row valid row.Lfs = lands_far_pointer insn cpu valid Fs
  lands_row valid row.Lgs = lands_far_pointer insn cpu valid Gs
  lands_row valid row.Sldt = lands_calmly valid row.Sldt refl
  lands_row valid row.Str = lands_calmly valid row.Str refl
  lands_row valid row.Lldt = lands_lldt insn cpu valid
  lands_row valid row.Ltr = lands_ltr insn cpu valid
  lands_row valid row.Lar = lands_calmly valid row.Lar refl
  lands_row valid row.Lsl = lands_calmly valid row.Lsl refl
  lands_row valid row.Verr = lands_calmly valid row.Verr refl
  lands_row valid row.Verw = lands_calmly valid row.Verw refl
  lands_row valid row.Arpl = lands_calmly valid row.Arpl refl
  lands_row valid other = tt

-- ---- the laws of the whole crate

pub rows_plain : (insn : Insn) (cpu : Cpu) → is_calm_row insn.row ≡ true → EachGives (EndsPlainly insn cpu) (row_of insn cpu)
rows_plain insn cpu calm = plain_at insn cpu insn.row calm

pub rows_load : (insn : Insn) (cpu : Cpu) → Valid cpu → EachGives (EndsByLoad insn cpu) (row_of insn cpu)
rows_load insn cpu valid = each_implies (Lands insn cpu) (EndsByLoad insn cpu) (λ f l. l.ends) (row_of insn cpu) (lands_row insn cpu valid insn.row)

pub rows_sound : (insn : Insn) (cpu : Cpu) → is_row insn.row ≡ true → IsOf cpu insn → Valid cpu → EachGives IsSound (row_of insn cpu)
rows_sound insn cpu built of valid = each_implies (Lands insn cpu) IsSound (λ f l. l.sound) (row_of insn cpu) (lands_row insn cpu valid insn.row)

-- an instruction that finishes leaves a valid state
pub finish_sound : (insn : Insn) (cpu after : Cpu) (res : Result End Stop) (old new : Sight) → is_row insn.row ≡ true → IsOf cpu insn → Is (row_of insn cpu) old (finished res after) new → Valid cpu → IfOk (finished res after) IsSound
finish_sound insn cpu after (Ok e) old new built of_ ran valid = gives_of IsSound (row_of insn cpu) _ old new (rows_sound insn cpu built of_ valid) ran
finish_sound insn cpu after (Err s) old new built of_ ran valid = tt
