use Rattle.std.specs.Prelude.{ℕ, ◌+◌, ◌*◌, ◌==◌, ◌||◌, ℤ, pos, ◌+ℤ◌, Option, Some, None, if◌then◌else◌, slice_index, IfSome, ◌<◌, ◌≤◌}
use Rattle.xe_base.specs.Words.{wrapped}
use Rattle.xe_base.specs.declared.cpu.Cpu.{Cpu}
use Rattle.xe_base.specs.declared.segment.SegName.{SegName}
use Rattle.xe_base.specs.declared.segment.SegName.TheVariants.{Ds, Ss}
use Rattle.xe_modrm.specs.Register.{sp, bp}
use Rattle.xe_modrm.specs.declared.part.Prefixes.{Prefixes}
use Rattle.xe_modrm.specs.declared.part.ModRm.{ModRm}

-- Effective addresses: SDM volume 1, "Specifying an Offset" and "Assumptions in Specifying a Segment Selector".

-- the register that a base or an index names, 0 where there is none
abbrev pub named : Cpu → Option ℕ → ℕ
named cpu None = 0
named cpu (Some r) = slice_index cpu.gpr r

-- base + index * scale + displacement, or the displacement from the next instruction on
abbrev pub address_sum : ModRm → Cpu → ℕ → ℤ
address_sum m cpu next = pos (named cpu m.base + named cpu m.index * m.scale + (if m.rip_relative then next else 0)) +ℤ m.disp

-- the offset, cut to the address size in bytes
unfoldable pub effective_offset : ModRm → ℕ → Cpu → ℕ → ℕ
effective_offset m adsize cpu next = wrapped (8 * adsize) (address_sum m cpu next)

-- BP and SP in all their widths select the stack segment
abbrev pub default_segment : Option ℕ → SegName
default_segment None = Ds
default_segment (Some r) = if r == sp || r == bp then Ss else Ds

-- the segment of a prefix, or another where there is none
abbrev pub or_segment : Option SegName → SegName → SegName
or_segment None other = other
or_segment (Some s) other = s

-- the segment of the operand: that of the prefix, where one counts
abbrev pub effective_segment : Prefixes → ModRm → SegName
effective_segment pre m = or_segment pre.seg (default_segment m.base)

-- the registers that the operand names are among the sixteen, and its scale is a small one
pub record Fits (m : ModRm) : Type 0 where
  pub base_ : IfSome m.base (λ r. r < 16)
  pub index_ : IfSome m.index (λ r. r < 16)
  pub scale_ : m.scale ≤ 8
