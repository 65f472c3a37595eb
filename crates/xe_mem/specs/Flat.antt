use Rattle.std.specs.Prelude.{ℕ, zero, suc, ◌*◌, ◌+◌, ◌-◌, ◌≡◌, List, [], ◌∷◌, ◌++◌, ◌<◌, ◌≤◌, length, take, drop, slice_index, true, if◌then◌else◌}
use Rattle.std.proofs.lemmas.List.Edits.{sets}
use Rattle.xe_base.specs.Ram.{Area}
use Rattle.xe_mem.specs.declared.region.Region.{Region}
use Rattle.xe_mem.specs.Layout.{covers, follow, total, end_behind, IsLayout}

-- The bytes of all regions in one list, one region after another.

-- the areas of these regions, with these bytes
unfoldable pub areas_of : List Region → List ℕ → List Area
areas_of [] bytes = []
areas_of (r ∷ rs) bytes = (record { start = r.start; bytes = take r.len bytes }) ∷ areas_of rs (drop r.len bytes)

-- the bytes of all areas
unfoldable pub all_bytes : List Area → List ℕ
all_bytes [] = []
all_bytes (r ∷ rs) = r.bytes ++ all_bytes rs

-- where the byte of an address lies among them; their number, where the address isn't RAM
unfoldable pub place : List Region → ℕ → ℕ
place [] a = 0
place (r ∷ rs) a = if covers r a then a - r.start else r.len + place rs a

-- the regions are an accepted list, and there is a byte for each of their addresses
pub record IsWhole (regions : List Region) (bytes : List ℕ) : Type 0 where
  pub layout : IsLayout regions
  pub bytes_len : length bytes ≡ total regions

-- how many bytes the regions in front of each one have together
pub record IsBefore (regions : List Region) (before : List ℕ) : Type 0 where
  pub len : length before ≡ length regions
  pub each : (k : ℕ) → k < length regions → slice_index before k ≡ total (take k regions)

-- what the fields of a memory say of each other
pub record IsMemory (regions : List Region) (before bytes : List ℕ) : Type 0 where
  pub whole : IsWhole regions bytes
  pub sums : IsBefore regions before

-- no region but the one with this index can have the address: those in front end at or below it, and those behind begin above it
pub record IsFound (regions : List Region) (a i : ℕ) : Type 0 where
  pub within : i ≤ length regions
  pub front : end_behind 0 (take i regions) ≤ a
  pub behind : follow (a + 1) (drop (i + 1) regions) ≡ true

-- where a search for the first address that isn't RAM stands, once it has passed these regions
unfoldable pub gap_behind : List Region → ℕ → ℕ
gap_behind [] a = a
gap_behind (r ∷ rs) a = if covers r a then gap_behind rs (r.start + r.len) else gap_behind rs a

-- a number of units one behind another
unfoldable pub repeated : List ℕ → ℕ → List ℕ
repeated unit zero = []
repeated unit (suc n) = unit ++ repeated unit n

-- elements of `unit` bytes that move from one place to another, the lowest first
unfoldable pub flat_up : List ℕ → ℕ → ℕ → ℕ → ℕ → List ℕ
flat_up xs to from unit zero = xs
flat_up xs to from unit (suc n) = flat_up (sets xs to (take unit (drop from xs))) (to + unit) (from + unit) unit n

-- the same, the highest first
unfoldable pub flat_down : List ℕ → ℕ → ℕ → ℕ → ℕ → List ℕ
flat_down xs to from unit zero = xs
flat_down xs to from unit (suc n) = flat_down (sets xs (to + unit * n) (take unit (drop (from + unit * n) xs))) to from unit n
