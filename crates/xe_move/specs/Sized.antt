use Rattle.std.specs.Prelude.{ℕ, ◌*◌, ◌%◌, ◌^◌}
use Rattle.xe_base.specs.declared.cpu.Cpu.{Cpu}

-- the low n bytes of a number
abbrev pub low : ℕ → ℕ → ℕ
low n value = value % 2 ^ (8 * n)

-- the registers with these flags
abbrev pub with_flags : Cpu → ℕ → Cpu
with_flags cpu flags = record cpu { rflags = flags }
