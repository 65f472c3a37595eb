use Rattle.std.specs.Prelude.{ℕ, ◌≡◌, Bool, true, false, Option, Some, None}
use Rattle.xe_base.specs.Calm.{Calm}
use Rattle.xe_base.specs.Exceptions.{plain_exception, invalid_opcode}
use Rattle.xe_base.specs.Registers.{next_rip}
use Rattle.xe_base.specs.declared.cpu.Cpu.{Cpu}
use Rattle.xe_opmap.specs.declared.insn.Insn.{Insn}
use Rattle.xe_opmap.specs.declared.row.Row.{Row}
use Rattle.xe_opmap.specs.declared.row.Row.TheVariants as row
use Rattle.xe_ctx.specs.Bounds.{TakesAtMost}
use Rattle.xe_ctx.specs.Finishes.{EachGives}
use Rattle.xe_ctx.specs.Operand.{is_some}
use Rattle.xe_ctx.specs.Tree.{Tree, fault}
use Rattle.xe_ctx.specs.declared.stop.Finish.{Finish}
use Rattle.xe_sys.specs.Control.{movcr_row, smsw_row, lmsw_row, clts_row}
use Rattle.xe_sys.specs.Cpuid.{cpuid_row}
use Rattle.xe_sys.specs.Msr.{rdmsr_row, wrmsr_row, rdtsc_row}
use Rattle.xe_sys.specs.Plain.{hlt_row, pause_row, invd_row, wbinvd_row, invlpg_row, swapgs_row}
use Rattle.xe_sys.specs.Port.{in_row, out_row}
use Rattle.xe_sys.specs.Table.{store_row, load_row}
use Rattle.xe_sys.specs.declared.table.DescriptorTable.TheVariants.{Global, Interrupt}

-- The rows of this crate, each with its definition.
abbrev pub row_at : Row → Option (Insn → Cpu → Tree Finish)
row_at row.In = Some in_row
row_at row.Out = Some out_row
row_at row.Hlt = Some hlt_row
row_at row.Pause = Some pause_row
row_at row.Sgdt = Some (store_row Global)
row_at row.Sidt = Some (store_row Interrupt)
row_at row.Lgdt = Some (load_row Global)
row_at row.Lidt = Some (load_row Interrupt)
row_at row.Smsw = Some smsw_row
row_at row.Lmsw = Some lmsw_row
row_at row.Invlpg = Some invlpg_row
row_at row.Swapgs = Some swapgs_row
row_at row.Clts = Some clts_row
row_at row.Invd = Some invd_row
row_at row.Wbinvd = Some wbinvd_row
row_at row.Movcr = Some movcr_row
row_at row.Wrmsr = Some wrmsr_row
row_at row.Rdtsc = Some rdtsc_row
row_at row.Rdmsr = Some rdmsr_row
row_at row.Cpuid = Some cpuid_row
row_at other = None

abbrev pub is_row : Row → Bool
is_row r = is_some (row_at r)

-- an instruction of another row would be undefined
abbrev pub or_undefined : Option (Insn → Cpu → Tree Finish) → Insn → Cpu → Tree Finish
or_undefined (Some row) insn cpu = row insn cpu
or_undefined None insn cpu = fault (plain_exception invalid_opcode)

abbrev pub row_of : Insn → Cpu → Tree Finish
row_of insn cpu = or_undefined (row_at insn.row) insn cpu

-- ---- rows that leave the system as it is

-- these write general registers alone
abbrev pub is_calm : Row → Bool
is_calm row.In = true
is_calm row.Out = true
is_calm row.Hlt = true
is_calm row.Pause = true
is_calm row.Sgdt = true
is_calm row.Sidt = true
is_calm row.Smsw = true
is_calm row.Invlpg = true
is_calm row.Invd = true
is_calm row.Wbinvd = true
is_calm row.Rdtsc = true
is_calm row.Rdmsr = true
is_calm row.Cpuid = true
is_calm other = false

-- what the retirement brings with it: HLT halts the processor
abbrev pub retire_of : Row → ℕ
retire_of row.Hlt = 4
retire_of other = 0

-- an instruction of such a row ends: a calm change of the registers, after which the next instruction is the one behind it, with nothing left of it to be done
pub record EndsCalmly (r : Row) (insn : Insn) (old : Cpu) (f : Finish) : Type 0 where
  pub calm : Calm old f.cpu
  pub next : f.cpu.rip ≡ next_rip old insn.len
  pub more : f.more ≡ false
  pub retire : f.retire ≡ retire_of r

-- ---- rows that level 0 alone may use

abbrev pub is_privileged : Row → Bool
is_privileged row.Hlt = true
is_privileged row.Lgdt = true
is_privileged row.Lidt = true
is_privileged row.Lmsw = true
is_privileged row.Invlpg = true
is_privileged row.Swapgs = true
is_privileged row.Clts = true
is_privileged row.Invd = true
is_privileged row.Wbinvd = true
is_privileged row.Movcr = true
is_privileged row.Wrmsr = true
is_privileged row.Rdmsr = true
is_privileged other = false

abbrev pub Never : Finish → Type 0
Never f = ⊥

-- the instruction never finishes, and asks for nothing before it ends: no intercept, no memory, no device
pub record IsRefused (t : Tree Finish) : Type 0 where
  pub finishes : EachGives Never t
  pub asks_nothing : TakesAtMost 0 0 0 t
