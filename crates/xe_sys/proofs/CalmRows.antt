use Rattle.std.proofs.Common.{ℕ, ◌≡◌, true, false, refl}
use Rattle.xe_base.specs.Access.{number_of}
use Rattle.xe_base.specs.declared.cpu.Cpu.{Cpu}
use Rattle.xe_opmap.specs.declared.insn.Insn.{Insn}
use Rattle.xe_opmap.specs.declared.row.Row.{Row}
use Rattle.xe_opmap.specs.declared.row.Row.TheVariants as row
use Rattle.xe_ctx.specs.Finishes.{EachGives}
use Rattle.xe_ctx.specs.Operand.{operand_of, ends_with, ends}
use Rattle.xe_ctx.specs.Plain.{EndsPlainly}
use Rattle.xe_ctx.specs.declared.operand.Operand.{Operand}
use Rattle.xe_ctx.specs.declared.operand.Operand.TheVariants.{Register, Memory}
use Rattle.xe_ctx.specs.declared.stop.Finish.{Finish}
use Rattle.xe_ctx.proofs.FinishLaws.{each_implies}
use Rattle.xe_ctx.proofs.Tame.{Tame, tame_same, tame_register, plain_end, asked_then, written_end}
use Rattle.xe_sys.specs.Control.{smsw_row}
use Rattle.xe_sys.specs.Cpuid.{cpuid_row, with_leaf}
use Rattle.xe_sys.specs.Msr.{rdmsr_row, rdtsc_row, with_pair}
use Rattle.xe_sys.specs.Plain.{hlt_row, pause_row, invd_row, wbinvd_row, invlpg_at, invlpg_row}
use Rattle.xe_sys.specs.Port.{in_row, out_row}
use Rattle.xe_sys.specs.Rows.{row_at, or_undefined, row_of, is_calm, retire_of, EndsCalmly}
use Rattle.xe_sys.specs.Table.{store_at, store_row}
use Rattle.xe_sys.specs.declared.table.DescriptorTable.{DescriptorTable}
use Rattle.xe_sys.specs.declared.table.DescriptorTable.TheVariants.{Global, Interrupt}

-- Each row that leaves the system as it is ends calmly.
module _ (insn : Insn) (cpu : Cpu) where
  -- what asks, and then ends as it was
  same_end : EachGives (EndsPlainly insn cpu) (ends insn cpu)
  same_end = plain_end insn cpu cpu (tame_same cpu)

  tame_pair : (value : ℕ) → Tame cpu (with_pair insn cpu value)
  tame_pair value = tame_register _ _ _ _ (tame_register _ _ _ _ (tame_same cpu))

  tame_leaf : (first second : ℕ) → Tame cpu (with_leaf insn cpu first second)
  tame_leaf first second = tame_register _ _ _ _ (tame_register _ _ _ _ (tame_register _ _ _ _ (tame_register _ _ _ _ (tame_same cpu))))

  calm_in : EachGives (EndsPlainly insn cpu) (in_row insn cpu)
  calm_in = asked_then (EndsPlainly insn cpu) _ _ (λ u. asked_then (EndsPlainly insn cpu) _ _ (λ a. plain_end insn cpu _ (tame_register _ _ _ _ (tame_same cpu))))

  calm_out : EachGives (EndsPlainly insn cpu) (out_row insn cpu)
  calm_out = asked_then (EndsPlainly insn cpu) _ _ (λ u. asked_then (EndsPlainly insn cpu) _ _ (λ a. same_end))

  calm_pause : EachGives (EndsPlainly insn cpu) (pause_row insn cpu)
  calm_pause = asked_then (EndsPlainly insn cpu) _ _ (λ u. same_end)

  calm_invd : EachGives (EndsPlainly insn cpu) (invd_row insn cpu)
  calm_invd = asked_then (EndsPlainly insn cpu) _ _ (λ u. asked_then (EndsPlainly insn cpu) _ _ (λ v. same_end))

  calm_wbinvd : EachGives (EndsPlainly insn cpu) (wbinvd_row insn cpu)
  calm_wbinvd = asked_then (EndsPlainly insn cpu) _ _ (λ u. asked_then (EndsPlainly insn cpu) _ _ (λ v. same_end))

  calm_invlpg_at : (operand : Operand) → EachGives (EndsPlainly insn cpu) (invlpg_at insn cpu operand)
  calm_invlpg_at (Register r) = tt
  calm_invlpg_at (Memory seg offset) = asked_then (EndsPlainly insn cpu) _ _ (λ u. asked_then (EndsPlainly insn cpu) _ _ (λ v. same_end))

  calm_store_at : (which : DescriptorTable) (operand : Operand) → EachGives (EndsPlainly insn cpu) (store_at which insn cpu operand)
  calm_store_at which (Register r) = tt
  calm_store_at which (Memory seg offset) = asked_then (EndsPlainly insn cpu) _ _ (λ u. asked_then (EndsPlainly insn cpu) _ _ (λ v. asked_then (EndsPlainly insn cpu) _ _ (λ w. same_end)))

  calm_smsw : EachGives (EndsPlainly insn cpu) (smsw_row insn cpu)
  calm_smsw = asked_then (EndsPlainly insn cpu) _ _ (λ u. written_end insn cpu cpu _ _ _ (tame_same cpu))

  calm_rdmsr : EachGives (EndsPlainly insn cpu) (rdmsr_row insn cpu)
  calm_rdmsr = asked_then (EndsPlainly insn cpu) _ _ (λ u. asked_then (EndsPlainly insn cpu) _ _ (λ v. asked_then (EndsPlainly insn cpu) _ _ (λ value. plain_end insn cpu _ (tame_pair value))))

  calm_rdtsc : EachGives (EndsPlainly insn cpu) (rdtsc_row insn cpu)
  calm_rdtsc = asked_then (EndsPlainly insn cpu) _ _ (λ u. asked_then (EndsPlainly insn cpu) _ _ (λ v. asked_then (EndsPlainly insn cpu) _ _ (λ value. plain_end insn cpu _ (tame_pair value))))

  calm_cpuid : EachGives (EndsPlainly insn cpu) (cpuid_row insn cpu)
  calm_cpuid = asked_then (EndsPlainly insn cpu) _ _ (λ u. asked_then (EndsPlainly insn cpu) _ _ (λ first. asked_then (EndsPlainly insn cpu) _ _ (λ second. plain_end insn cpu _ (tame_leaf (number_of first) (number_of second)))))

  -- HLT is the one whose retirement brings something with it
  halted : EndsCalmly row.Hlt insn cpu (record { cpu = (ends_with insn cpu).cpu; more = false; retire = 4 })
  halted = let e = plain_end insn cpu cpu (tame_same cpu) in record { calm = e.calm; next = e.next; more = refl; retire = refl }

  calm_hlt : EachGives (EndsCalmly row.Hlt insn cpu) (hlt_row insn cpu)
  calm_hlt = asked_then (EndsCalmly row.Hlt insn cpu) _ _ (λ u. asked_then (EndsCalmly row.Hlt insn cpu) _ _ (λ v. halted))

  by_plain : (r : Row) → retire_of r ≡ 0 → (f : Finish) → EndsPlainly insn cpu f → EndsCalmly r insn cpu f
  by_plain r z f e = record { calm = e.calm; next = e.next; more = e.more; retire = rw z e.retire }

  pub calm_at : (r : Row) → is_calm r ≡ true → EachGives (EndsCalmly r insn cpu) (or_undefined (row_at r) insn cpu)
  calm_at row.In h = each_implies (EndsPlainly insn cpu) (EndsCalmly row.In insn cpu) (by_plain row.In refl) (in_row insn cpu) calm_in
  calm_at row.Out h = each_implies (EndsPlainly insn cpu) (EndsCalmly row.Out insn cpu) (by_plain row.Out refl) (out_row insn cpu) calm_out
  calm_at row.Hlt h = calm_hlt
  calm_at row.Pause h = each_implies (EndsPlainly insn cpu) (EndsCalmly row.Pause insn cpu) (by_plain row.Pause refl) (pause_row insn cpu) calm_pause
  calm_at row.Sgdt h = each_implies (EndsPlainly insn cpu) (EndsCalmly row.Sgdt insn cpu) (by_plain row.Sgdt refl) (store_row Global insn cpu) (calm_store_at Global (operand_of insn cpu))
  calm_at row.Sidt h = each_implies (EndsPlainly insn cpu) (EndsCalmly row.Sidt insn cpu) (by_plain row.Sidt refl) (store_row Interrupt insn cpu) (calm_store_at Interrupt (operand_of insn cpu))
  calm_at row.Smsw h = each_implies (EndsPlainly insn cpu) (EndsCalmly row.Smsw insn cpu) (by_plain row.Smsw refl) (smsw_row insn cpu) calm_smsw
  calm_at row.Invlpg h = each_implies (EndsPlainly insn cpu) (EndsCalmly row.Invlpg insn cpu) (by_plain row.Invlpg refl) (invlpg_row insn cpu) (calm_invlpg_at (operand_of insn cpu))
  calm_at row.Invd h = each_implies (EndsPlainly insn cpu) (EndsCalmly row.Invd insn cpu) (by_plain row.Invd refl) (invd_row insn cpu) calm_invd
  calm_at row.Wbinvd h = each_implies (EndsPlainly insn cpu) (EndsCalmly row.Wbinvd insn cpu) (by_plain row.Wbinvd refl) (wbinvd_row insn cpu) calm_wbinvd
  calm_at row.Rdtsc h = each_implies (EndsPlainly insn cpu) (EndsCalmly row.Rdtsc insn cpu) (by_plain row.Rdtsc refl) (rdtsc_row insn cpu) calm_rdtsc
  calm_at row.Rdmsr h = each_implies (EndsPlainly insn cpu) (EndsCalmly row.Rdmsr insn cpu) (by_plain row.Rdmsr refl) (rdmsr_row insn cpu) calm_rdmsr
  calm_at row.Cpuid h = each_implies (EndsPlainly insn cpu) (EndsCalmly row.Cpuid insn cpu) (by_plain row.Cpuid refl) (cpuid_row insn cpu) calm_cpuid
  calm_at other h = cc

-- the law of these rows
pub rows_calm : (insn : Insn) (cpu : Cpu) → is_calm insn.row ≡ true → EachGives (EndsCalmly insn.row insn cpu) (row_of insn cpu)
rows_calm insn cpu calm = calm_at insn cpu insn.row calm
