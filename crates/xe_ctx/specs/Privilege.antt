use Rattle.std.specs.Prelude.{ℕ, ◌/◌, ◌%◌, ◌^◌, ◌==◌, Bool, true, false, not, nat_lt, if◌then◌else◌}
use Rattle.xe_base.specs.declared.cpu.Cpu.{Cpu}
use Rattle.xe_base.specs.declared.cpu.Mode.{Mode}
use Rattle.xe_base.specs.declared.cpu.Mode.TheVariants.{Real, Protected, Compat, Long}
use Rattle.xe_seg.specs.Accesses.{protection_fault}
use Rattle.xe_ctx.specs.Tree.{Tree, give, fault}

-- Privileged instructions (SDM volume 3, "Privileged Instructions", and volume 1, "I/O Privilege Level").

-- real mode
abbrev pub is_real_mode : Mode → Bool
is_real_mode Real = true
is_real_mode Protected = false
is_real_mode Compat = false
is_real_mode Long = false

-- bits 13:12 of the flags: the I/O privilege level
abbrev pub iopl : Cpu → ℕ
iopl cpu = cpu.rflags / 2 ^ 12 % 4

-- goes on where it holds; else #GP(0)
unfoldable pub or_protection : Cpu → Bool → Tree (Unit {0})
or_protection cpu holds = if holds then give tt else fault (protection_fault cpu)

-- level 0 alone may go on
abbrev pub at_level_0 : Cpu → Tree (Unit {0})
at_level_0 cpu = or_protection cpu (cpu.cpl == 0)

-- a level up to IOPL may go on
abbrev pub at_io_level : Cpu → Tree (Unit {0})
at_io_level cpu = or_protection cpu (not (nat_lt (iopl cpu) cpu.cpl))
