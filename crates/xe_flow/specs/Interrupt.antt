use Rattle.std.specs.Prelude.{◌%◌, ◌^◌, if◌then◌else◌}
use Rattle.xe_ctx.specs.Definition.{ℕ, Cpu, Insn, Tree, ◌>>=◌, point, ends}
use Rattle.xe_base.specs.Registers.{next_rip}
use Rattle.xe_flags.specs.Status.{status_of}
use Rattle.xe_icpt.specs.declared.point.Point.TheVariants.{Swint}
use Rattle.xe_ctx.specs.Tree.{event}
use Rattle.xe_ctx.specs.declared.stop.EventKind.{EventKind}
use Rattle.xe_ctx.specs.declared.stop.EventKind.TheVariants.{Int, Int3, Into}
use Rattle.xe_ctx.specs.declared.stop.Finish.{Finish}

-- Software interrupts (SDM volume 2, "INT n/INTO/INT3/INT1"): the instruction ends, and who called goes on with the interrupt.

abbrev pub interrupts : EventKind → ℕ → Insn → Cpu → Tree Finish
interrupts kind vector insn cpu = event (record { kind = kind; vector = vector; next = next_rip cpu insn.len })

-- #BP and #OF
abbrev pub breakpoint : ℕ
breakpoint = 3

abbrev pub overflow : ℕ
overflow = 4

abbrev pub int3_row : Insn → Cpu → Tree Finish
int3_row insn cpu = interrupts Int3 breakpoint insn cpu

abbrev pub int_row : Insn → Cpu → Tree Finish
int_row insn cpu = do
  let vector = insn.imm % 2 ^ 8
  _ ← point (Swint vector)
  interrupts Int vector insn cpu

-- INTO: only where OF is set
abbrev pub into_row : Insn → Cpu → Tree Finish
into_row insn cpu = if (status_of cpu.rflags).overflow then interrupts Into overflow insn cpu else ends insn cpu
