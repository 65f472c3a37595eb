use Rattle.std.proofs.Common.{ℕ, ◌≡◌, ◌==◌, Bool, true, false, Option, Some, None, if◌then◌else◌}
use Rattle.xe_base.specs.declared.cpu.Cpu.{Cpu}
use Rattle.xe_opmap.specs.declared.insn.Insn.{Insn}
use Rattle.xe_opmap.specs.declared.row.Row.{Row}
use Rattle.xe_opmap.specs.declared.row.Row.TheVariants as row
use Rattle.xe_ctx.specs.Operand.{operand_of, reg_of}
use Rattle.xe_ctx.specs.Privilege.{or_protection}
use Rattle.xe_ctx.specs.Tree.{Tree, ◌>>=◌}
use Rattle.xe_ctx.specs.declared.operand.Operand.{Operand}
use Rattle.xe_ctx.specs.declared.operand.Operand.TheVariants.{Register, Memory}
use Rattle.xe_ctx.specs.declared.stop.Finish.{Finish}
use Rattle.xe_sys.specs.Control.{movcr_on, movcr_at, read_control, write_control, control_of, lmsw_row, clts_row}
use Rattle.xe_sys.specs.Msr.{rdmsr_row, wrmsr_row}
use Rattle.xe_sys.specs.Plain.{hlt_row, invd_row, wbinvd_row, invlpg_at, swapgs_row}
use Rattle.xe_sys.specs.Rows.{row_at, or_undefined, row_of, is_privileged, IsRefused}
use Rattle.xe_sys.specs.Table.{load_at}
use Rattle.xe_sys.specs.declared.control.ControlRegister.{ControlRegister}
use Rattle.xe_sys.specs.declared.table.DescriptorTable.{DescriptorTable}
use Rattle.xe_sys.specs.declared.table.DescriptorTable.TheVariants.{Global, Interrupt}

-- nothing goes on behind a check that doesn't hold
refused : (cpu : Cpu) (holds : Bool) (f : Unit {0} → Tree Finish) → holds ≡ false → IsRefused (or_protection cpu holds >>= f)
unfolding or_protection ◌>>=◌
refused cpu true f h = cc
refused cpu false f h = record { finishes = tt; asks_nothing = tt }

refused-if : (c : Bool) (a b : Tree Finish) → IsRefused a → IsRefused b → IsRefused (if c then a else b)
refused-if true a b x y = x
refused-if false a b x y = y

module _ (insn : Insn) (cpu : Cpu) (z : (cpu.cpl == 0) ≡ false) where
  refused_hlt : IsRefused (hlt_row insn cpu)
  refused_hlt = refused cpu _ _ z

  refused_load_at : (which : DescriptorTable) (operand : Operand) → IsRefused (load_at which insn cpu operand)
  refused_load_at which (Register r) = record { finishes = tt; asks_nothing = tt }
  refused_load_at which (Memory seg offset) = refused cpu _ _ z

  refused_lmsw : IsRefused (lmsw_row insn cpu)
  refused_lmsw = refused cpu _ _ z

  refused_invlpg_at : (operand : Operand) → IsRefused (invlpg_at insn cpu operand)
  refused_invlpg_at (Register r) = record { finishes = tt; asks_nothing = tt }
  refused_invlpg_at (Memory seg offset) = refused cpu _ _ z

  refused_swapgs : IsRefused (swapgs_row insn cpu)
  refused_swapgs = refused cpu _ _ z

  refused_clts : IsRefused (clts_row insn cpu)
  refused_clts = refused cpu _ _ z

  refused_invd : IsRefused (invd_row insn cpu)
  refused_invd = refused cpu _ _ z

  refused_wbinvd : IsRefused (wbinvd_row insn cpu)
  refused_wbinvd = refused cpu _ _ z

  refused_read : (c : ControlRegister) (r : ℕ) → IsRefused (read_control insn cpu c r)
  refused_read c r = refused cpu _ _ z

  refused_write : (c : ControlRegister) (r : ℕ) → IsRefused (write_control insn cpu c r)
  refused_write c r = refused cpu _ _ z

  refused_movcr_on : (r : ℕ) (c : Option ControlRegister) → IsRefused (movcr_on insn cpu r c)
  refused_movcr_on r None = record { finishes = tt; asks_nothing = tt }
  refused_movcr_on r (Some c) = refused-if _ (read_control insn cpu c r) (write_control insn cpu c r) (refused_read c r) (refused_write c r)

  refused_movcr_at : (operand : Operand) → IsRefused (movcr_at insn cpu operand)
  refused_movcr_at (Register r) = refused_movcr_on r (control_of (reg_of insn))
  refused_movcr_at (Memory seg offset) = record { finishes = tt; asks_nothing = tt }

  refused_wrmsr : IsRefused (wrmsr_row insn cpu)
  refused_wrmsr = refused cpu _ _ z

  refused_rdmsr : IsRefused (rdmsr_row insn cpu)
  refused_rdmsr = refused cpu _ _ z

  refused_at : (r : Row) → is_privileged r ≡ true → IsRefused (or_undefined (row_at r) insn cpu)
  refused_at row.Hlt h = refused_hlt
  refused_at row.Lgdt h = refused_load_at Global (operand_of insn cpu)
  refused_at row.Lidt h = refused_load_at Interrupt (operand_of insn cpu)
  refused_at row.Lmsw h = refused_lmsw
  refused_at row.Invlpg h = refused_invlpg_at (operand_of insn cpu)
  refused_at row.Swapgs h = refused_swapgs
  refused_at row.Clts h = refused_clts
  refused_at row.Invd h = refused_invd
  refused_at row.Wbinvd h = refused_wbinvd
  refused_at row.Movcr h = refused_movcr_at (operand_of insn cpu)
  refused_at row.Wrmsr h = refused_wrmsr
  refused_at row.Rdmsr h = refused_rdmsr
  refused_at other h = cc

-- the law of these rows
pub rows_refused : (insn : Insn) (cpu : Cpu) → is_privileged insn.row ≡ true → (cpu.cpl == 0) ≡ false → IsRefused (row_of insn cpu)
rows_refused insn cpu privileged z = refused_at insn cpu z insn.row privileged
