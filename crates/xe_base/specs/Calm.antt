use Rattle.std.specs.Prelude.{ℕ, ◌≡◌, ◌<◌, ◌-◌, ◌^◌, false, bit_and}
use Rattle.xe_base.specs.State.{Valid, is_long}
use Rattle.xe_base.specs.declared.cpu.Cpu.{Cpu}

-- the bits of the flags that no rule allows to change: all but CF, PF, AF, ZF, SF, TF, IF, DF, OF, IOPL, NT, AC and ID
abbrev pub fixed_flags : ℕ → ℕ
fixed_flags flags = bit_and flags (2 ^ 64 - 1 - 0x247FD5)

-- A calm change is the usual one of an instruction: the general registers, the instruction pointer, which outside 64-bit mode
-- keeps to 32 bits, and the flags that an instruction may change; all else stays.
pub record Calm (old new : Cpu) : Type 0 where
  pub rest : new ≡ record old { gpr = new.gpr; rip = new.rip; rflags = new.rflags }
  pub flags : fixed_flags new.rflags ≡ fixed_flags old.rflags
  pub pointer : is_long old ≡ false → new.rip < 2 ^ 32

-- a calm change leaves a valid state
abbrev pub CalmKeepsValid : Type 0
CalmKeepsValid = (old new : Cpu) → Valid old → Calm old new → Valid new
