use Rattle.std.specs.Prelude.{◌+◌, ◌-◌, ◌*◌, ◌%◌, ◌^◌, ◌==◌, ◌&&◌}
use Rattle.xe_ctx.specs.Definition.{ℕ, Bool, true, false, not, Option, Some, None, Cpu, Insn, Tree, cx}
use Rattle.xe_base.specs.Registers.{register_value, with_register}
use Rattle.xe_flags.specs.Status.{status_of}
use Rattle.xe_ctx.specs.declared.stop.Finish.{Finish}
use Rattle.xe_flow.specs.Branch.{jump_if}

-- Jumps that count (SDM volume 2, "LOOP/LOOPcc" and "JCXZ/JECXZ/JRCXZ").

-- the count: CX, ECX or RCX by the address size
abbrev pub count : Insn → Cpu → ℕ
count insn cpu = register_value cpu insn.adsize true cx

-- the count less 1; it wraps in the address size
abbrev pub count_down : Insn → Cpu → ℕ
count_down insn cpu = (count insn cpu + 2 ^ (8 * insn.adsize) - 1) % 2 ^ (8 * insn.adsize)

-- the registers with another count
abbrev pub with_count : Insn → Cpu → ℕ → Cpu
with_count insn cpu value = with_register cpu insn.adsize true cx value

-- ZF is as the instruction wants it, where it does
abbrev pub holds : Option Bool → Cpu → Bool
holds None cpu = true
holds (Some true) cpu = (status_of cpu.rflags).zero
holds (Some false) cpu = not (status_of cpu.rflags).zero

-- LOOP, LOOPE and LOOPNE: counts down, and jumps while the count isn't 0 and ZF is as wanted
abbrev pub loop_row : Option Bool → Insn → Cpu → Tree Finish
loop_row zero insn cpu = jump_if (not (count_down insn cpu == 0) && holds zero cpu) insn cpu (with_count insn cpu (count_down insn cpu))

-- JCXZ: jumps where the count is 0, and leaves it
abbrev pub jcxz_row : Insn → Cpu → Tree Finish
jcxz_row insn cpu = jump_if (count insn cpu == 0) insn cpu cpu
