use Rattle.std.specs.Prelude.{ℕ, zero, suc, ◌+◌, ◌-◌, ◌≡◌, ◌<◌, List, [], ◌∷◌, length, Bool, true, false, ◌&&◌, nat_lt, nat_le, if◌then◌else◌, slice_index, slice_set, ◌%◌, ◌==◌, bit_or}

-- guest RAM is a list of areas, by ascending address: each its first physical address and its bytes
pub record Area : Type 0 where
  pub start : ℕ
  pub bytes : List ℕ

-- the address is in the area
unfoldable pub holds : Area → ℕ → Bool
holds r a = nat_le r.start a && nat_lt a (r.start + length r.bytes)

-- the address is RAM
unfoldable pub in_ram : List Area → ℕ → Bool
in_ram [] a = false
in_ram (r ∷ rs) a = if holds r a then true else in_ram rs a

-- the byte there, 0 outside RAM
unfoldable pub byte_of : List Area → ℕ → ℕ
byte_of [] a = 0
byte_of (r ∷ rs) a = if holds r a then slice_index r.bytes (a - r.start) else byte_of rs a

-- the RAM with another byte there
unfoldable pub put_byte : List Area → ℕ → ℕ → List Area
put_byte [] a b = []
put_byte (r ∷ rs) a b = if holds r a then (record r { bytes = slice_set r.bytes (a - r.start) b }) ∷ rs else r ∷ put_byte rs a b

-- n bytes, the lowest first
unfoldable pub bytes_of : List Area → ℕ → ℕ → List ℕ
bytes_of ram pa zero = []
bytes_of ram pa (suc n) = byte_of ram pa ∷ bytes_of ram (pa + 1) n

-- the RAM with these bytes from there on
unfoldable pub put_bytes : List Area → ℕ → List ℕ → List Area
put_bytes ram pa [] = ram
put_bytes ram pa (b ∷ bs) = put_bytes (put_byte ram pa b) (pa + 1) bs

-- n bytes from the address on lie in one area
unfoldable pub in_one : List Area → ℕ → ℕ → Bool
in_one [] a n = false
in_one (r ∷ rs) a n = if holds r a then nat_le (a + n) (r.start + length r.bytes) else in_one rs a n

-- n bytes from the address on are RAM
pub record AreRam (ram : List Area) (a n : ℕ) : Type 0 where
  pub each : (k : ℕ) → k < n → in_ram ram (a + k) ≡ true

-- no two areas have an address in common
unfoldable pub Apart : List Area → Type 0
Apart [] = Unit {0}
Apart (r ∷ rs) = ((a : ℕ) → in_ram rs a ≡ true → holds r a ≡ false) × Apart rs

-- each area begins and ends at a page's end
unfoldable pub Paged : List Area → Type 0
Paged [] = Unit {0}
Paged (r ∷ rs) = (r.start % 4096 ≡ 0) × (length r.bytes % 4096 ≡ 0) × Paged rs

-- the RAM with some bits of a byte set
unfoldable pub set_bits : List Area → ℕ → ℕ → List Area
set_bits ram a bits = put_byte ram a (bit_or (byte_of ram a) bits)

-- the areas begin and end at page ends, and follow one another from a place on
unfoldable pub ordered : ℕ → List Area → Bool
ordered low [] = true
ordered low (r ∷ rs) = nat_le low r.start && ((r.start % 4096 == 0) && ((length r.bytes % 4096 == 0) && ordered (r.start + length r.bytes) rs))
