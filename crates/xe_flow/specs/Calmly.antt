use Rattle.std.specs.Prelude.{◌≡◌, ◌≤◌, false}
use Rattle.xe_base.specs.Calm.{Calm}
use Rattle.xe_base.specs.declared.cpu.Cpu.{Cpu}
use Rattle.xe_ctx.specs.declared.stop.Finish.{Finish}

-- An instruction of this crate ends with a calm change of the registers, of which RIP may be any that there is, with nothing of it left to be done, and
-- its retirement brings nothing with it but that of STI.
pub record EndsCalmly (old : Cpu) (f : Finish) : Type 0 where
  pub calm : Calm old f.cpu
  pub more : f.more ≡ false
  pub retire : f.retire ≤ 1
