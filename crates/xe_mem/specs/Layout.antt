use Rattle.std.specs.Prelude.{ℕ, ◌+◌, ◌^◌, ◌%◌, ◌≡◌, ◌<◌, ◌≤◌, ◌⊎◌, List, [], ◌∷◌, length, take, map, sum_by, replicate, Bool, true, false, ◌&&◌, ◌==◌, nat_lt, nat_le}
use Rattle.xe_base.specs.Ram.{Area, in_ram}
use Rattle.xe_mem.specs.declared.region.Region.{Region}

-- Which lists of regions a guest may have, and the RAM that they make. This project takes whole pages, so that no page is RAM in part;
-- 40 bits of physical addresses, as CR3 has here; and at most 16 regions with 16 MiB in all, so that a search among them and the room that
-- they take stay small.

-- the address is in the region
unfoldable pub covers : Region → ℕ → Bool
covers r a = nat_le r.start a && nat_lt a (r.start + r.len)

-- the region is some whole pages below 2^40, at or above the place where the one before it ends
unfoldable pub fits_after : ℕ → Region → Bool
fits_after low r = (r.start % 4096 == 0) && ((r.len % 4096 == 0) && (nat_lt 0 r.len && (nat_le (r.start + r.len) (2 ^ 40) && nat_le low r.start)))

-- each region fits after the one before it, and the first one from `low` on
unfoldable pub follow : ℕ → List Region → Bool
follow low [] = true
follow low (r ∷ rs) = fits_after low r && follow (r.start + r.len) rs

-- the number of bytes in all
unfoldable pub total : List Region → ℕ
total rs = sum_by (λ r. r.len) rs

-- a list that is accepted
pub record IsLayout (list : List Region) : Type 0 where
  pub few : length list ≤ 16
  pub follows : follow 0 list ≡ true
  pub small : total list ≤ 2 ^ 24

-- the region with this index is the first bad one, among at most 16
pub record IsFirstBad (list : List Region) (i : ℕ) : Type 0 where
  pub few : length list ≤ 16
  pub within : i < length list
  pub before : follow 0 (take i list) ≡ true
  pub here : follow 0 (take (i + 1) list) ≡ false

-- there are more than 16 regions, or more than 16 MiB in regions that are all good
abbrev pub IsTooLarge : List Region → Type 0
IsTooLarge list = (16 < length list) ⊎ ((length list ≤ 16) × (follow 0 list ≡ true) × (2 ^ 24 < total list))

-- where an area lies
abbrev pub region_of : Area → Region
region_of r = record { start = r.start; len = length r.bytes }

-- where the areas of a RAM lie
unfoldable pub regions_of : List Area → List Region
regions_of ram = map region_of ram

-- the RAM of these regions whose bytes are all 0
unfoldable pub zeroed : List Region → List Area
zeroed list = map (λ r. record { start = r.start; bytes = replicate r.len 0 }) list

-- the first address from `from` on that isn't RAM
pub record IsGap (ram : List Area) (from gap : ℕ) : Type 0 where
  pub reached : from ≤ gap
  pub before : (a : ℕ) → from ≤ a → a < gap → in_ram ram a ≡ true
  pub outside : in_ram ram gap ≡ false

-- where the last of these regions ends, and `low` if there is none
unfoldable pub end_behind : ℕ → List Region → ℕ
end_behind low [] = low
end_behind low (r ∷ rs) = end_behind (r.start + r.len) rs
