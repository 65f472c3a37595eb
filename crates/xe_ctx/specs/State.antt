use Rattle.std.specs.Prelude.{List}
use Rattle.xe_base.specs.Ram.{Area}
use Rattle.xe_base.specs.declared.cpu.Cpu.{Cpu}

-- the state of a machine: its registers and its RAM
pub record State : Type 0 where
  pub cpu : Cpu
  pub ram : List Area
