use Rattle.std.specs.Prelude.{◌≡◌, false}
use Rattle.xe_base.specs.Calm.{fixed_flags}
use Rattle.xe_base.specs.Registers.{next_rip}
use Rattle.xe_base.specs.declared.cpu.Cpu.{Cpu}
use Rattle.xe_opmap.specs.declared.insn.Insn.{Insn}
use Rattle.xe_ctx.specs.declared.stop.Finish.{Finish}

-- What an instruction of this crate can change: general registers, RIP, the flags that an instruction may change, the segment registers but CS, LDTR
-- and TR. CS, the level, the control registers and the table registers stay. The next instruction is the one behind it, with nothing left of it to be done.
pub record EndsByLoad (insn : Insn) (old : Cpu) (f : Finish) : Type 0 where
  pub rest : f.cpu ≡ record old { gpr = f.cpu.gpr; rip = f.cpu.rip; rflags = f.cpu.rflags; es = f.cpu.es; ss = f.cpu.ss; ds = f.cpu.ds; fs = f.cpu.fs; gs = f.cpu.gs; ldtr = f.cpu.ldtr; tr = f.cpu.tr }
  pub flags : fixed_flags f.cpu.rflags ≡ fixed_flags old.rflags
  pub next : f.cpu.rip ≡ next_rip old insn.len
  pub more : f.more ≡ false
