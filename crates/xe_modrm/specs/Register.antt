use Rattle.std.specs.Prelude.{ℕ}

-- The numbers of the general registers that addresses name apart: SDM volume 2, table 3-1. In 32
-- and 64 bits the same numbers are EBX and RBX and so on.

abbrev pub bx : ℕ
bx = 3

abbrev pub sp : ℕ
sp = 4

abbrev pub bp : ℕ
bp = 5

abbrev pub si : ℕ
si = 6

abbrev pub di : ℕ
di = 7
