use Rattle.std.specs.Prelude.{◌∷◌, []}
use Rattle.xe_base.specs.declared.cpu.Cpu.{Cpu}
use Rattle.xe_ctx.specs.State.{State}
use Rattle.xe_mem.specs.Layout.{zeroed}

-- these registers, and 64 KiB at address 0 whose bytes are all 0
abbrev pub small_state : Cpu → State
small_state cpu = record { cpu = cpu; ram = zeroed (record { start = 0; len = 0x10000 } ∷ []) }
