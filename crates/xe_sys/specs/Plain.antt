use Rattle.xe_ctx.specs.Definition.{false, Cpu, Insn, Tree, ◌>>=◌, fault, give, point, operand_of, ends}
use Rattle.xe_base.specs.Exceptions.{plain_exception, invalid_opcode}
use Rattle.xe_base.specs.Registers.{next_rip}
use Rattle.xe_icpt.specs.declared.point.Point.TheVariants.{Pause, Hlt, Invd, Wbinvd, Invlpg}
use Rattle.xe_seg.specs.Accesses.{linear_address}
use Rattle.xe_ctx.specs.Privilege.{at_level_0}
use Rattle.xe_ctx.specs.declared.operand.Operand.{Operand}
use Rattle.xe_ctx.specs.declared.operand.Operand.TheVariants.{Register, Memory}
use Rattle.xe_ctx.specs.declared.stop.Finish.{Finish}

-- Rows that ask for little more than their intercept (SDM volume 2, "HLT", "PAUSE", "INVD", "WBINVD", "INVLPG" and "SWAPGS").

-- HLT: its retirement halts the processor
abbrev pub hlt_row : Insn → Cpu → Tree Finish
hlt_row insn cpu = do
  _ ← at_level_0 cpu
  _ ← point Hlt
  give (record { cpu = record cpu { rip = next_rip cpu insn.len }; more = false; retire = 4 })

abbrev pub pause_row : Insn → Cpu → Tree Finish
pause_row insn cpu = do
  _ ← point Pause
  ends insn cpu

-- INVD and WBINVD: there is no cache to give up
abbrev pub invd_row : Insn → Cpu → Tree Finish
invd_row insn cpu = do
  _ ← at_level_0 cpu
  _ ← point Invd
  ends insn cpu

abbrev pub wbinvd_row : Insn → Cpu → Tree Finish
wbinvd_row insn cpu = do
  _ ← at_level_0 cpu
  _ ← point Wbinvd
  ends insn cpu

-- INVLPG of an offset in memory: nothing is accessed, and there is no translation to give up. A register has no such form: it is undefined
abbrev pub invlpg_at : Insn → Cpu → Operand → Tree Finish
invlpg_at insn cpu (Register r) = fault (plain_exception invalid_opcode)
invlpg_at insn cpu (Memory seg offset) = do
  _ ← at_level_0 cpu
  _ ← point (Invlpg (linear_address cpu seg offset))
  ends insn cpu

abbrev pub invlpg_row : Insn → Cpu → Tree Finish
invlpg_row insn cpu = invlpg_at insn cpu (operand_of insn cpu)

-- the base of GS and KERNEL_GS_BASE exchanged
abbrev pub with_gs_swapped : Cpu → Cpu
with_gs_swapped cpu = record cpu { gs = record cpu.gs { base = cpu.kgs }; kgs = cpu.gs.base }

abbrev pub swapgs_row : Insn → Cpu → Tree Finish
swapgs_row insn cpu = do
  _ ← at_level_0 cpu
  ends insn (with_gs_swapped cpu)
