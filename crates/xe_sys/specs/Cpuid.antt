use Rattle.std.specs.Prelude.{◌+◌, ◌*◌, ◌/◌, ◌%◌, ◌^◌, slice_index}
use Rattle.xe_ctx.specs.Definition.{ℕ, false, Cpu, Insn, Tree, ◌>>=◌, ax, bx, cx, dx, device, point, writes, ends}
use Rattle.xe_base.specs.Access.{number_of}
use Rattle.xe_base.specs.declared.access.Access.{Access}
use Rattle.xe_base.specs.declared.access.Space.TheVariants.{Cpuid as CpuidSpace}
use Rattle.xe_icpt.specs.declared.point.Point.TheVariants.{Cpuid as AtCpuid}
use Rattle.xe_ctx.specs.declared.stop.Finish.{Finish}

-- CPUID (SDM volume 2, "CPUID—CPU Identification"). What a leaf says is a device's answer, in two halves.

-- leaf * 2^32 + subleaf
abbrev pub leaf_address : Cpu → ℕ
leaf_address cpu = slice_index cpu.gpr ax % 2 ^ 32 * 2 ^ 32 + slice_index cpu.gpr cx % 2 ^ 32

abbrev pub leaf_read : Cpu → Access
leaf_read cpu = record { space = CpuidSpace; write = false; address = leaf_address cpu; size = 8; value = 0 }

-- EBX:EAX is the first half, EDX:ECX the second
abbrev pub with_leaf : Insn → Cpu → ℕ → ℕ → Cpu
with_leaf insn cpu first second =
    writes insn (writes insn (writes insn (writes insn cpu 4 ax first) 4 bx (first / 2 ^ 32)) 4 cx second) 4 dx (second / 2 ^ 32)

abbrev pub cpuid_row : Insn → Cpu → Tree Finish
cpuid_row insn cpu = do
  _ ← point AtCpuid
  first ← device (leaf_read cpu)
  second ← device (leaf_read cpu)
  ends insn (with_leaf insn cpu (number_of first) (number_of second))
