use Rattle.std.specs.Prelude.{◌≡◌, ◌≤◌, false}
use Rattle.xe_base.specs.Calm.{fixed_flags}
use Rattle.xe_base.specs.declared.cpu.Cpu.{Cpu}
use Rattle.xe_ctx.specs.declared.stop.Finish.{Finish}

-- What a far transfer may change.

-- general registers, the instruction pointer, flags, the six segment registers and the level; no table register, no control register
abbrev pub OnlyFlow : Cpu → Cpu → Type 0
OnlyFlow old new = new ≡ record old {
  gpr = new.gpr;
  rip = new.rip;
  rflags = new.rflags;
  es = new.es;
  cs = new.cs;
  ss = new.ss;
  ds = new.ds;
  fs = new.fs;
  gs = new.gs;
  cpl = new.cpl;
}

-- A far transfer changes the flow alone, of the flags those that an instruction may change, and never gains privilege: the level doesn't fall. It is
-- done at once, and its retirement brings nothing with it.
pub record Transfers (old : Cpu) (f : Finish) : Type 0 where
  pub only : OnlyFlow old f.cpu
  pub flags : fixed_flags f.cpu.rflags ≡ fixed_flags old.rflags
  pub level : old.cpl ≤ f.cpu.cpl
  pub more : f.more ≡ false
  pub retire : f.retire ≡ 0
