use Rattle.std.specs.Prelude.{ℕ, ◌≤◌, ◌<◌, Bool, true, ◌==◌, ◌||◌, ◌&&◌, nat_le, IsTrue, Option, Some, None}
use Rattle.xe_modrm.specs.Address.{Fits}
use Rattle.xe_base.specs.declared.cpu.CodeSize.{CodeSize}
use Rattle.xe_modrm.specs.Prefix.{is_64_bit}
use Rattle.xe_modrm.specs.declared.part.Part.{Part}
use Rattle.xe_modrm.specs.declared.part.Part.TheVariants.{Got, More}
use Rattle.xe_modrm.specs.declared.part.Prefixes.{Prefixes}
use Rattle.xe_modrm.specs.declared.part.ModRm.{ModRm}

-- the ranges in which the numbers of prefixes and operands lie

abbrev pub rex_fits : CodeSize → Option ℕ → Bool
rex_fits size None = true
rex_fits size (Some rex) = is_64_bit size && (nat_le 0x40 rex && nat_le rex 0x4F)

-- REX is a byte 40 to 4F and stands in 64-bit code alone
pub record IsPrefixes (size : CodeSize) (pre : Prefixes) : Type 0 where
  pub rep : IsTrue (pre.rep == 0 || pre.rep == 0xF2 || pre.rep == 0xF3)
  pub rex : IsTrue (rex_fits size pre.rex)

-- register numbers are below 16, and a scale is 1, 2, 4 or 8
pub record IsModRm (m : ModRm) : Type 0 where
  pub md : m.md ≤ 3
  pub reg : m.reg < 16
  pub rm : m.rm < 16
  pub fits : Fits m
  pub scale : IsTrue (m.scale == 1 || m.scale == 2 || m.scale == 4 || m.scale == 8)

abbrev pub IsGotPrefixes : CodeSize → Part Prefixes → Type 0
IsGotPrefixes size (Got pre n) = IsPrefixes size pre
IsGotPrefixes size More = Unit {0}

abbrev pub IsGotModRm : Part ModRm → Type 0
IsGotModRm (Got m n) = IsModRm m
IsGotModRm More = Unit {0}
