use Rattle.std.proofs.Common.{ℕ, ◌≡◌, ◌<◌, true, Option, Some, None, Result, Ok, Err, IfOk, refl, lit<}
use Rattle.xe_base.specs.State.{Valid}
use Rattle.xe_base.specs.declared.cpu.Cpu.{Cpu}
use Rattle.xe_opmap.specs.declared.insn.Insn.{Insn}
use Rattle.xe_opmap.specs.declared.row.Row.{Row}
use Rattle.xe_opmap.specs.declared.row.Row.TheVariants as row
use Rattle.xe_base.proofs.CalmLaws.{calm_keeps_valid}
use Rattle.xe_ctx.specs.Finishes.{EachGives, IsSound}
use Rattle.xe_ctx.specs.Is.{Sight, Is}
use Rattle.xe_ctx.specs.Operand.{IsOf, operand_of, reg_of, ends}
use Rattle.xe_ctx.specs.Runs.{finished}
use Rattle.xe_ctx.specs.declared.operand.Operand.{Operand}
use Rattle.xe_ctx.specs.declared.operand.Operand.TheVariants.{Register, Memory}
use Rattle.xe_ctx.specs.declared.stop.End.{End}
use Rattle.xe_ctx.specs.declared.stop.Finish.{Finish}
use Rattle.xe_ctx.specs.declared.stop.Stop.{Stop}
use Rattle.xe_ctx.proofs.FinishLaws.{each_then, each_implies, gives_of}
use Rattle.xe_ctx.proofs.Rules.{valid_next}
use Rattle.xe_ctx.proofs.Tame.{asked_then, each_if, plain_sound, plain_end, tame_register, tame_same}
use Rattle.xe_sys.specs.Control.{movcr_on, movcr_at, read_control, write_control, control_of, control_written, lmsw_row, clts_row}
use Rattle.xe_sys.specs.Msr.{msr_written, wrmsr_row}
use Rattle.xe_sys.specs.Plain.{swapgs_row}
use Rattle.xe_sys.specs.Rows.{row_at, or_undefined, row_of, is_row, is_calm, retire_of, EndsCalmly}
use Rattle.xe_sys.specs.Table.{table_in_memory, load_at}
use Rattle.xe_sys.specs.declared.control.ControlRegister.{ControlRegister}
use Rattle.xe_sys.specs.declared.table.DescriptorTable.{DescriptorTable}
use Rattle.xe_sys.specs.declared.table.DescriptorTable.TheVariants.{Global, Interrupt}
use Rattle.xe_sys.proofs.CalmRows.{calm_at}
use Rattle.xe_sys.proofs.ControlRules.{valid_control, valid_status_word, valid_without_ts}
use Rattle.xe_sys.proofs.Guards.{guarded}
use Rattle.xe_sys.proofs.OtherRules.{valid_swapped, valid_msr, valid_table, IsLow, table_low, base_fits}

-- a calm end is sound
few : (r : Row) → retire_of r < 8
few row.Hlt = lit< tt
few other = lit< tt

calm_sound : (r : Row) (insn : Insn) (cpu : Cpu) → Valid cpu → (f : Finish) → EndsCalmly r insn cpu f → IsSound f
calm_sound r insn cpu valid f e = record { valid = calm_keeps_valid cpu f.cpu valid e.calm; retire = rw e.retire (few r) }

module _ (insn : Insn) (cpu : Cpu) (valid : Valid cpu) where
  calm_row : (r : Row) → is_calm r ≡ true → EachGives IsSound (or_undefined (row_at r) insn cpu)
  calm_row r calm = each_implies (EndsCalmly r insn cpu) IsSound (calm_sound r insn cpu valid) (or_undefined (row_at r) insn cpu) (calm_at insn cpu r calm)

  -- the instruction behind one whose registers are valid
  next_sound : (after : Cpu) → Valid after → EachGives IsSound (ends insn after)
  next_sound after v = record { valid = valid_next after after.gpr insn.len v; retire = lit< tt }

  sound_swapgs : EachGives IsSound (swapgs_row insn cpu)
  sound_swapgs = asked_then IsSound _ _ (λ u. next_sound _ (valid_swapped cpu valid))

  sound_load_at : (which : DescriptorTable) (operand : Operand) → EachGives IsSound (load_at which insn cpu operand)
  sound_load_at which (Register r) = tt
  sound_load_at which (Memory seg offset) = asked_then IsSound _ _ (λ u. asked_then IsSound _ _ (λ v. each_then IsSound (IsLow cpu) (table_in_memory insn cpu seg offset) _ (table_low insn cpu seg offset) (λ table low. guarded IsSound cpu _ _ (λ g. next_sound _ (valid_table cpu which table valid (base_fits cpu table low g))))))

  sound_lmsw : EachGives IsSound (lmsw_row insn cpu)
  sound_lmsw = guarded IsSound cpu _ _ (λ z. asked_then IsSound _ _ (λ value. asked_then IsSound _ _ (λ u. asked_then IsSound _ _ (λ v. next_sound _ (valid_status_word cpu _ valid z)))))

  sound_clts : EachGives IsSound (clts_row insn cpu)
  sound_clts = guarded IsSound cpu _ _ (λ z. asked_then IsSound _ _ (λ u. next_sound _ (valid_without_ts cpu valid z)))

  sound_read_control : (c : ControlRegister) (r : ℕ) → EachGives IsSound (read_control insn cpu c r)
  sound_read_control c r = asked_then IsSound _ _ (λ u. asked_then IsSound _ _ (λ v. plain_sound insn cpu valid _ (plain_end insn cpu _ (tame_register _ _ _ _ (tame_same cpu)))))

  sound_write_control : (c : ControlRegister) (r : ℕ) → EachGives IsSound (write_control insn cpu c r)
  sound_write_control c r = guarded IsSound cpu _ _ (λ z. asked_then IsSound _ _ (λ u. each_then IsSound Valid (control_written cpu c _) _ (valid_control cpu c _ valid z) (λ after v. next_sound after v)))

  sound_movcr_on : (r : ℕ) (c : Option ControlRegister) → EachGives IsSound (movcr_on insn cpu r c)
  sound_movcr_on r None = tt
  sound_movcr_on r (Some c) = each_if IsSound _ (read_control insn cpu c r) (write_control insn cpu c r) (sound_read_control c r) (sound_write_control c r)

  sound_movcr_at : (operand : Operand) → EachGives IsSound (movcr_at insn cpu operand)
  sound_movcr_at (Register r) = sound_movcr_on r (control_of (reg_of insn))
  sound_movcr_at (Memory seg offset) = tt

  sound_wrmsr : EachGives IsSound (wrmsr_row insn cpu)
  sound_wrmsr = asked_then IsSound _ _ (λ u. asked_then IsSound _ _ (λ v. each_then IsSound Valid (msr_written cpu _ _ _) _ (valid_msr cpu _ _ _ valid) (λ after w. next_sound after w)))

  sound_at : (r : Row) → EachGives IsSound (or_undefined (row_at r) insn cpu)
  sound_at row.In = calm_row row.In refl
  sound_at row.Out = calm_row row.Out refl
  sound_at row.Hlt = calm_row row.Hlt refl
  sound_at row.Pause = calm_row row.Pause refl
  sound_at row.Sgdt = calm_row row.Sgdt refl
  sound_at row.Sidt = calm_row row.Sidt refl
  sound_at row.Lgdt = sound_load_at Global (operand_of insn cpu)
  sound_at row.Lidt = sound_load_at Interrupt (operand_of insn cpu)
  sound_at row.Smsw = calm_row row.Smsw refl
  sound_at row.Lmsw = sound_lmsw
  sound_at row.Invlpg = calm_row row.Invlpg refl
  sound_at row.Swapgs = sound_swapgs
  sound_at row.Clts = sound_clts
  sound_at row.Invd = calm_row row.Invd refl
  sound_at row.Wbinvd = calm_row row.Wbinvd refl
  sound_at row.Movcr = sound_movcr_at (operand_of insn cpu)
  sound_at row.Wrmsr = sound_wrmsr
  sound_at row.Rdtsc = calm_row row.Rdtsc refl
  sound_at row.Rdmsr = calm_row row.Rdmsr refl
  sound_at row.Cpuid = calm_row row.Cpuid refl
  sound_at other = tt

-- the law of the whole crate
pub rows_sound : (insn : Insn) (cpu : Cpu) → is_row insn.row ≡ true → IsOf cpu insn → Valid cpu → EachGives IsSound (row_of insn cpu)
rows_sound insn cpu built of_ valid = sound_at insn cpu valid insn.row

-- an instruction that finishes leaves a valid state
pub finish_sound : (insn : Insn) (cpu after : Cpu) (res : Result End Stop) (old new : Sight) → is_row insn.row ≡ true → IsOf cpu insn → Is (row_of insn cpu) old (finished res after) new → Valid cpu → IfOk (finished res after) IsSound
finish_sound insn cpu after (Ok e) old new built of_ ran valid = gives_of IsSound (row_of insn cpu) _ old new (rows_sound insn cpu built of_ valid) ran
finish_sound insn cpu after (Err s) old new built of_ ran valid = tt
