use Rattle.std.specs.Prelude.{ℕ, zero, suc, ◌+◌, ◌*◌, ◌≡◌, List, length, ◌⊎◌}
use Rattle.xe_base.specs.Ram.{Area, bytes_of, put_bytes}

-- Fills and copies of a RAM, element by element: what the elements of a repeated string instruction do one after another (Intel SDM volume 2, REP, MOVS and STOS).

-- the unit, `count` times, the lowest address first
unfoldable pub filled : List Area → ℕ → List ℕ → ℕ → List Area
filled ram pa unit zero = ram
filled ram pa unit (suc n) = filled (put_bytes ram pa unit) (pa + length unit) unit n

-- one element of `unit` bytes: it is read whole before it is written
unfoldable pub moved : List Area → ℕ → ℕ → ℕ → List Area
moved ram dst src unit = put_bytes ram dst (bytes_of ram src unit)

-- `count` elements, the lowest first
unfoldable pub copied_up : List Area → ℕ → ℕ → ℕ → ℕ → List Area
copied_up ram dst src unit zero = ram
copied_up ram dst src unit (suc n) = copied_up (moved ram dst src unit) (dst + unit) (src + unit) unit n

-- `count` elements, the highest first; dst and src are the lowest addresses of all of them
unfoldable pub copied_down : List Area → ℕ → ℕ → ℕ → ℕ → List Area
copied_down ram dst src unit zero = ram
copied_down ram dst src unit (suc n) = copied_down (moved ram (dst + unit * n) (src + unit * n) unit) dst src unit n

-- a number of bytes that one element may have
abbrev pub IsUnit : ℕ → Type 0
IsUnit n = ((n ≡ 1) ⊎ (n ≡ 2)) ⊎ ((n ≡ 4) ⊎ (n ≡ 8))
