use Rattle.std.specs.Prelude.{ℕ, zero, suc, ◌+◌, List, Option, Some, None, Bool, true, false, if◌then◌else◌, nat_lt, ◌^◌, ◌-◌, ◌%◌, ◌≡◌, ◌≤◌}
use Rattle.xe_base.specs.Ram.{Area, in_ram, bytes_of}
use Rattle.xe_base.specs.Bytes.{num}
use Rattle.xe_walk.specs.declared.entry.Used.{Used}

-- Entries as RAM holds them.

-- each of the n bytes is RAM
unfoldable pub are_ram : List Area → ℕ → ℕ → Bool
are_ram ram pa zero = true
are_ram ram pa (suc n) = if in_ram ram pa then are_ram ram (pa + 1) n else false

-- the number of so many bytes there, the lowest first
abbrev pub value_at : List Area → ℕ → ℕ → ℕ
value_at ram pa size = num (bytes_of ram pa size)

-- the entry there; none where one of its bytes is outside RAM
abbrev pub entry_of : List Area → ℕ → ℕ → Option ℕ
entry_of ram pa size = if are_ram ram pa size then Some (value_at ram pa size) else None

-- a count that rose by one, or stands at its last value
abbrev pub counted : ℕ → ℕ
counted n = if nat_lt n (2 ^ 64 - 1) then n + 1 else n

-- the entry lies below 2 ^ 40 at a multiple of its size
pub record IsPlace (u : Used) : Type 0 where
  pub below : u.pa + u.size ≤ 2 ^ 40
  pub aligned : u.pa % u.size ≡ 0
