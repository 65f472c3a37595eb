use Rattle.std.proofs.Common.{ℕ, ◌+◌, arith, Bool, Option, Some, None, lit≤}
use Rattle.xe_base.specs.State.{is_long}
use Rattle.xe_base.specs.declared.access.Access.{Access}
use Rattle.xe_base.specs.declared.cpu.Cpu.{Cpu}
use Rattle.xe_base.specs.declared.segment.SegName.{SegName}
use Rattle.xe_icpt.specs.declared.point.Point.{Point}
use Rattle.xe_opmap.specs.declared.insn.Insn.{Insn}
use Rattle.xe_opmap.specs.declared.row.Row.{Row}
use Rattle.xe_opmap.specs.declared.row.Row.TheVariants as row
use Rattle.xe_ctx.specs.Bounds.{TakesAtMost}
use Rattle.xe_ctx.specs.Operand.{IsOf, operand_of, reg_of}
use Rattle.xe_ctx.specs.Privilege.{or_protection}
use Rattle.xe_ctx.specs.Tree.{Tree, ◌>>=◌, load, store, device, point}
use Rattle.xe_ctx.specs.declared.operand.Operand.{Operand}
use Rattle.xe_ctx.specs.declared.operand.Operand.TheVariants.{Register, Memory}
use Rattle.xe_ctx.proofs.BoundLaws.{takes_then, takes_if}
use Rattle.xe_ctx.proofs.RowBounds.{Small, small-2, small-4, small-8, small-of, small-if, read, write, takes_protection, takes_port_allowed}
use Rattle.xe_sys.specs.Control.{movcr_at, movcr_on, read_control, write_control, control_of, control_written, cr0_written, select_point, changes_selected, smsw_row, word_size, lmsw_row, clts_row}
use Rattle.xe_sys.specs.Cpuid.{cpuid_row}
use Rattle.xe_sys.specs.Msr.{device_msr, msr_value, msr_written, rdmsr_row, wrmsr_row, rdtsc_row}
use Rattle.xe_sys.specs.Plain.{hlt_row, pause_row, invd_row, wbinvd_row, invlpg_at, swapgs_row}
use Rattle.xe_sys.specs.Port.{port_checked, in_row, out_row}
use Rattle.xe_sys.specs.Rows.{row_at, or_undefined, row_of}
use Rattle.xe_sys.specs.Table.{base_size, store_at, table_in_memory, load_at}
use Rattle.xe_sys.specs.declared.control.ControlRegister.{ControlRegister}
use Rattle.xe_sys.specs.declared.control.ControlRegister.TheVariants.{Cr0, Cr2, Cr3, Cr4, Cr8}
use Rattle.xe_sys.specs.declared.msr.KnownMsr.{KnownMsr}
use Rattle.xe_sys.specs.declared.msr.KnownMsr.TheVariants.{Efer, FsBase, GsBase, KernelGsBase, OfDevice}
use Rattle.xe_sys.specs.declared.table.DescriptorTable.{DescriptorTable}
use Rattle.xe_sys.specs.declared.table.DescriptorTable.TheVariants.{Global, Interrupt}

-- ---- single requests

takes_point : (p : Point) → TakesAtMost 1 0 0 (point p)
unfolding point
takes_point p = (record { one = lit≤ tt; accesses_ = lit≤ tt; bytes_ = lit≤ tt }, λ a. tt)

takes_device : (a : Access) → TakesAtMost 1 1 0 (device a)
unfolding device
takes_device a = (record { one = lit≤ tt; accesses_ = lit≤ tt; bytes_ = lit≤ tt }, λ x. tt)

takes_load : (seg : SegName) (offset n : ℕ) → Small n → TakesAtMost 1 4 10 (load seg offset n)
unfolding load
takes_load seg offset n s = (record { one = lit≤ tt; accesses_ = s.chunks; bytes_ = lit≤ tt }, λ a. tt)

takes_word : (seg : SegName) (offset : ℕ) → TakesAtMost 1 2 10 (load seg offset 2)
unfolding load
takes_word seg offset = (record { one = lit≤ tt; accesses_ = lit≤ tt; bytes_ = lit≤ tt }, λ a. tt)

takes_store : (seg : SegName) (offset n value : ℕ) → Small n → TakesAtMost 1 4 18 (store seg offset n value)
unfolding store
takes_store seg offset n value s = (let b = s.bytes in record { one = lit≤ tt; accesses_ = s.chunks; bytes_ = omega arith }, λ a. tt)

takes_word_store : (seg : SegName) (offset value : ℕ) → TakesAtMost 1 2 12 (store seg offset 2 value)
unfolding store
takes_word_store seg offset value = (record { one = lit≤ tt; accesses_ = lit≤ tt; bytes_ = lit≤ tt }, λ a. tt)

-- a check, and a point, before what follows
checked : {T : Type 0} (cpu : Cpu) (holds : Bool) (n a b : ℕ) (f : Unit {0} → Tree T) → ((u : Unit {0}) → TakesAtMost n a b (f u)) → TakesAtMost (0 + n) (0 + a) (0 + b) (or_protection cpu holds >>= f)
checked cpu holds n a b f rest = takes_then f n a b rest 0 0 0 _ (takes_protection cpu holds)

pointed : {T : Type 0} (p : Point) (n a b : ℕ) (f : Unit {0} → Tree T) → ((u : Unit {0}) → TakesAtMost n a b (f u)) → TakesAtMost (1 + n) (0 + a) (0 + b) (point p >>= f)
pointed p n a b f rest = takes_then f n a b rest 1 0 0 _ (takes_point p)

-- ---- parts of rows

takes_port : (insn : Insn) (cpu : Cpu) (input : Bool) → TakesAtMost 3 4 20 (port_checked insn cpu input)
unfolding port_checked
takes_port insn cpu input = takes_then _ 1 0 0 (λ u. takes_point _) 2 4 20 _ (takes_port_allowed cpu _ _)

takes_device_msr : (cpu : Cpu) (a : Access) → TakesAtMost 1 1 0 (device_msr cpu a)
unfolding device_msr
takes_device_msr cpu a = takes_then _ 0 0 0 (λ answer. checked cpu _ 0 0 0 _ (λ u. tt)) 1 1 0 _ (takes_device a)

takes_msr_value : (cpu : Cpu) (number : ℕ) (known : KnownMsr) → TakesAtMost 1 1 0 (msr_value cpu number known)
unfolding msr_value
takes_msr_value cpu number Efer = tt
takes_msr_value cpu number FsBase = tt
takes_msr_value cpu number GsBase = tt
takes_msr_value cpu number KernelGsBase = tt
takes_msr_value cpu number OfDevice = takes_device_msr cpu _

takes_msr_written : (cpu : Cpu) (number value : ℕ) (known : KnownMsr) → TakesAtMost 1 1 0 (msr_written cpu number value known)
unfolding msr_written
takes_msr_written cpu number value Efer = checked cpu _ 1 1 0 _ (λ u. tt)
takes_msr_written cpu number value FsBase = checked cpu _ 1 1 0 _ (λ u. tt)
takes_msr_written cpu number value GsBase = checked cpu _ 1 1 0 _ (λ u. tt)
takes_msr_written cpu number value KernelGsBase = checked cpu _ 1 1 0 _ (λ u. tt)
takes_msr_written cpu number value OfDevice = takes_then _ 0 0 0 (λ u. tt) 1 1 0 _ (takes_device_msr cpu _)

takes_select : (cpu : Cpu) (cr0 : ℕ) → TakesAtMost 1 0 0 (select_point cpu cr0)
unfolding select_point
takes_select cpu cr0 = takes_if 1 0 0 (changes_selected cpu cr0) _ _ (takes_point _) tt

takes_cr0 : (cpu : Cpu) (value cr0 : ℕ) → TakesAtMost 1 0 0 (cr0_written cpu value cr0)
unfolding cr0_written
takes_cr0 cpu value cr0 = takes_then _ 0 0 0 (λ u. checked cpu _ 0 0 0 _ (λ v. tt)) 1 0 0 _ (takes_select cpu cr0)

takes_control : (cpu : Cpu) (c : ControlRegister) (value : ℕ) → TakesAtMost 1 0 0 (control_written cpu c value)
unfolding control_written
takes_control cpu Cr0 value = takes_cr0 cpu value _
takes_control cpu Cr2 value = tt
takes_control cpu Cr3 value = checked cpu _ 1 0 0 _ (λ u. tt)
takes_control cpu Cr4 value = checked cpu _ 1 0 0 _ (λ u. tt)
takes_control cpu Cr8 value = checked cpu _ 1 0 0 _ (λ u. tt)

small-base : (cpu : Cpu) → Small (base_size cpu)
small-base cpu = small-if (is_long cpu) 8 4 small-8 small-4

takes_table : (insn : Insn) (cpu : Cpu) (seg : SegName) (offset : ℕ) → TakesAtMost 2 6 20 (table_in_memory insn cpu seg offset)
unfolding table_in_memory
takes_table insn cpu seg offset = takes_then _ 1 4 10 (λ limit. takes_then _ 0 0 0 (λ base. tt) 1 4 10 _ (takes_load _ _ _ (small-base cpu))) 1 2 10 _ (takes_word _ _)

-- ---- the rows

module _ (insn : Insn) (cpu : Cpu) (of_ : IsOf cpu insn) where
  most_in : TakesAtMost 64 6 30 (in_row insn cpu)
  most_in = takes_then _ 61 2 10 (λ u. takes_then _ 60 1 10 (λ a. tt) 1 1 0 _ (takes_device _)) 3 4 20 _ (takes_port insn cpu _)

  most_out : TakesAtMost 64 6 30 (out_row insn cpu)
  most_out = takes_then _ 61 2 10 (λ u. takes_then _ 60 1 10 (λ a. tt) 1 1 0 _ (takes_device _)) 3 4 20 _ (takes_port insn cpu _)

  most_hlt : TakesAtMost 64 6 30 (hlt_row insn cpu)
  most_hlt = checked cpu _ 64 6 30 _ (λ u. pointed _ 63 6 30 _ (λ v. tt))

  most_pause : TakesAtMost 64 6 30 (pause_row insn cpu)
  most_pause = pointed _ 63 6 30 _ (λ v. tt)

  most_invd : TakesAtMost 64 6 30 (invd_row insn cpu)
  most_invd = checked cpu _ 64 6 30 _ (λ u. pointed _ 63 6 30 _ (λ v. tt))

  most_wbinvd : TakesAtMost 64 6 30 (wbinvd_row insn cpu)
  most_wbinvd = checked cpu _ 64 6 30 _ (λ u. pointed _ 63 6 30 _ (λ v. tt))

  most_invlpg_at : (operand : Operand) → TakesAtMost 64 6 30 (invlpg_at insn cpu operand)
  most_invlpg_at (Register r) = tt
  most_invlpg_at (Memory seg offset) = checked cpu _ 64 6 30 _ (λ u. pointed _ 63 6 30 _ (λ v. tt))

  most_swapgs : TakesAtMost 64 6 30 (swapgs_row insn cpu)
  most_swapgs = checked cpu _ 64 6 30 _ (λ u. tt)

  most_store_at : (which : DescriptorTable) (operand : Operand) → TakesAtMost 64 6 30 (store_at which insn cpu operand)
  most_store_at which (Register r) = tt
  most_store_at which (Memory seg offset) = pointed _ 63 6 30 _ (λ u. takes_then _ 62 4 18 (λ v. takes_then _ 61 0 0 (λ w. tt) 1 4 18 _ (takes_store _ _ _ _ (small-base cpu))) 1 2 12 _ (takes_word_store _ _ _))

  most_load_at : (which : DescriptorTable) (operand : Operand) → TakesAtMost 64 6 30 (load_at which insn cpu operand)
  most_load_at which (Register r) = tt
  most_load_at which (Memory seg offset) = checked cpu _ 64 6 30 _ (λ u. pointed _ 63 6 30 _ (λ v. takes_then _ 61 0 10 (λ table. checked cpu _ 61 0 10 _ (λ w. tt)) 2 6 20 _ (takes_table insn cpu _ _)))

  small-word : (operand : Operand) → Small (word_size insn operand)
  small-word (Register r) = small-of insn.opsize of_.parts.opsize
  small-word (Memory seg offset) = small-2

  most_smsw : TakesAtMost 64 6 30 (smsw_row insn cpu)
  most_smsw = pointed _ 63 6 30 _ (λ u. takes_then _ 62 2 12 (λ after. tt) 1 4 18 _ (write insn cpu cpu _ _ _ (small-word (operand_of insn cpu))))

  most_lmsw : TakesAtMost 64 6 30 (lmsw_row insn cpu)
  most_lmsw = checked cpu _ 64 6 30 _ (λ u. takes_then _ 63 2 20 (λ value. pointed _ 62 2 20 _ (λ v. pointed _ 61 2 20 _ (λ w. tt))) 1 4 10 _ (read insn cpu _ 2 small-2))

  most_clts : TakesAtMost 64 6 30 (clts_row insn cpu)
  most_clts = checked cpu _ 64 6 30 _ (λ u. pointed _ 63 6 30 _ (λ v. tt))

  most_read_control : (c : ControlRegister) (r : ℕ) → TakesAtMost 64 6 30 (read_control insn cpu c r)
  most_read_control c r = checked cpu _ 64 6 30 _ (λ u. pointed _ 63 6 30 _ (λ v. tt))

  most_write_control : (c : ControlRegister) (r : ℕ) → TakesAtMost 64 6 30 (write_control insn cpu c r)
  most_write_control c r = checked cpu _ 64 6 30 _ (λ u. pointed _ 63 6 30 _ (λ v. takes_then _ 62 6 30 (λ after. tt) 1 0 0 _ (takes_control cpu c _)))

  most_movcr_on : (r : ℕ) (c : Option ControlRegister) → TakesAtMost 64 6 30 (movcr_on insn cpu r c)
  most_movcr_on r None = tt
  most_movcr_on r (Some c) = takes_if 64 6 30 _ (read_control insn cpu c r) (write_control insn cpu c r) (most_read_control c r) (most_write_control c r)

  most_movcr_at : (operand : Operand) → TakesAtMost 64 6 30 (movcr_at insn cpu operand)
  most_movcr_at (Register r) = most_movcr_on r (control_of (reg_of insn))
  most_movcr_at (Memory seg offset) = tt

  most_wrmsr : TakesAtMost 64 6 30 (wrmsr_row insn cpu)
  most_wrmsr = checked cpu _ 64 6 30 _ (λ u. pointed _ 63 6 30 _ (λ v. takes_then _ 62 5 30 (λ after. tt) 1 1 0 _ (takes_msr_written cpu _ _ _)))

  most_rdmsr : TakesAtMost 64 6 30 (rdmsr_row insn cpu)
  most_rdmsr = checked cpu _ 64 6 30 _ (λ u. pointed _ 63 6 30 _ (λ v. takes_then _ 62 5 30 (λ value. tt) 1 1 0 _ (takes_msr_value cpu _ _)))

  most_rdtsc : TakesAtMost 64 6 30 (rdtsc_row insn cpu)
  most_rdtsc = checked cpu _ 64 6 30 _ (λ u. pointed _ 63 6 30 _ (λ v. takes_then _ 62 5 30 (λ value. tt) 1 1 0 _ (takes_device_msr cpu _)))

  most_cpuid : TakesAtMost 64 6 30 (cpuid_row insn cpu)
  most_cpuid = pointed _ 63 6 30 _ (λ u. takes_then _ 62 5 30 (λ first. takes_then _ 61 4 30 (λ second. tt) 1 1 0 _ (takes_device _)) 1 1 0 _ (takes_device _))

  taken_at : (r : Row) → TakesAtMost 64 6 30 (or_undefined (row_at r) insn cpu)
  taken_at row.In = most_in
  taken_at row.Out = most_out
  taken_at row.Hlt = most_hlt
  taken_at row.Pause = most_pause
  taken_at row.Sgdt = most_store_at Global (operand_of insn cpu)
  taken_at row.Sidt = most_store_at Interrupt (operand_of insn cpu)
  taken_at row.Lgdt = most_load_at Global (operand_of insn cpu)
  taken_at row.Lidt = most_load_at Interrupt (operand_of insn cpu)
  taken_at row.Smsw = most_smsw
  taken_at row.Lmsw = most_lmsw
  taken_at row.Invlpg = most_invlpg_at (operand_of insn cpu)
  taken_at row.Swapgs = most_swapgs
  taken_at row.Clts = most_clts
  taken_at row.Invd = most_invd
  taken_at row.Wbinvd = most_wbinvd
  taken_at row.Movcr = most_movcr_at (operand_of insn cpu)
  taken_at row.Wrmsr = most_wrmsr
  taken_at row.Rdtsc = most_rdtsc
  taken_at row.Rdmsr = most_rdmsr
  taken_at row.Cpuid = most_cpuid
  taken_at other = tt

-- the law of the whole crate
pub rows_take_little : (insn : Insn) (cpu : Cpu) → IsOf cpu insn → TakesAtMost 64 6 30 (row_of insn cpu)
rows_take_little insn cpu of_ = taken_at insn cpu of_ insn.row
