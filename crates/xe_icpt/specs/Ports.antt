use Rattle.std.specs.Prelude.{ℕ, zero, suc, ◌+◌, ◌-◌, ◌%◌, Bool, false, ◌||◌}
use Rattle.std.specs.Ordering.{nat_cmp}
use Rattle.std.specs.FinSet.{FinSet, empty, insert, contains}

-- a set of ports
abbrev pub Ports : Type 0
Ports = FinSet nat_cmp

-- n ports from this one on
unfoldable pub ports_from : ℕ → ℕ → Ports
ports_from low zero = empty
ports_from low (suc n) = insert (ports_from low n) (low + n)

-- the ports from one to another, both included
abbrev pub ports_between : ℕ → ℕ → Ports
ports_between low high = ports_from low (high + 1 - low)

-- one of n ports from this one on is in the set, port 0 following on port FFFFh
unfoldable pub has_one_of : Ports → ℕ → ℕ → Bool
has_one_of ports port zero = false
has_one_of ports port (suc n) = contains ports ((port + n) % 65536) || has_one_of ports port n
