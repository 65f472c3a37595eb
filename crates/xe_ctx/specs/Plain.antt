use Rattle.std.specs.Prelude.{◌≡◌, false}
use Rattle.xe_base.specs.Calm.{Calm}
use Rattle.xe_base.specs.Registers.{next_rip}
use Rattle.xe_base.specs.declared.cpu.Cpu.{Cpu}
use Rattle.xe_opmap.specs.declared.insn.Insn.{Insn}
use Rattle.xe_ctx.specs.declared.stop.Finish.{Finish}

-- An instruction ends plainly: a calm change of the registers, after which the next instruction is the one behind it, with nothing left of it to be done and
-- nothing that its retirement brings with it.
pub record EndsPlainly (insn : Insn) (old : Cpu) (f : Finish) : Type 0 where
  pub calm : Calm old f.cpu
  pub next : f.cpu.rip ≡ next_rip old insn.len
  pub more : f.more ≡ false
  pub retire : f.retire ≡ 0
