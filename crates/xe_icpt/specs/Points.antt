use Rattle.std.specs.Prelude.{ℕ, ◌≡◌, ◌<◌, ◌≤◌, ◌^◌, ◌==◌, ◌||◌, true, ⊤}
use Rattle.xe_icpt.specs.declared.point.CrKind.{CrKind}
use Rattle.xe_icpt.specs.declared.point.CrKind.TheVariants.{Mov, Lmsw, Clts}
use Rattle.xe_icpt.specs.declared.point.Point.{Point}
use Rattle.xe_icpt.specs.declared.point.Point.TheVariants.{CrRead, CrWrite, Io}

-- a control register that MOV reaches (Intel SDM volume 2, MOV to and from control registers)
abbrev pub IsControl : ℕ → Type 0
IsControl n = (n == 0 || n == 2 || n == 3 || n == 4 || n == 8) ≡ true

-- LMSW and CLTS write CR0, and LMSW a word of 16 bits
abbrev pub IsWritten : CrKind → ℕ → ℕ → Type 0
IsWritten Mov n value = ⊤
IsWritten Lmsw n value = (n ≡ 0) × (value < 2 ^ 16)
IsWritten Clts n value = n ≡ 0

-- the point is well formed
abbrev pub IsPoint : Point → Type 0
IsPoint (CrRead n reg) = IsControl n × (reg ≤ 15)
IsPoint (CrWrite n reg kind value mem) = IsControl n × (reg ≤ 15) × IsWritten kind n value
IsPoint (Io port size input string rep imm adsize seg next) = ((size == 1 || size == 2 || size == 4) ≡ true) × ((adsize == 2 || adsize == 4 || adsize == 8) ≡ true) × (seg ≤ 5)
IsPoint _ = ⊤
