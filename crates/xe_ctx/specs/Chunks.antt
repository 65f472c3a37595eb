use Rattle.std.specs.Prelude.{ℕ, ◌≤◌, zero, suc, ◌+◌, ◌-◌, ◌%◌, List, [], ◌∷◌, ◌==◌, ◌&&◌, ◌||◌, Bool, nat_lt, if◌then◌else◌, IsTrue, flat_map}
use Rattle.std.specs.List.{range_with_len}
use Rattle.xe_base.specs.Access.{is_size_in}
use Rattle.xe_base.specs.declared.access.Space.TheVariants.{Mem}
use Rattle.xe_ctx.specs.declared.chunk.Chunk.{Chunk}

-- the greatest of 8, 4, 2 and 1 that divides the address and is at most n
unfoldable pub first_size : ℕ → ℕ → ℕ
first_size pa n =
    if nat_lt 7 n && (pa % 8 == 0) then 8 else (
    if nat_lt 3 n && (pa % 4 == 0) then 4 else (
    if nat_lt 1 n && (pa % 2 == 0) then 2 else 1))

-- a size that a device access to memory can have
abbrev pub IsChunkSize : ℕ → Type 0
IsChunkSize n = IsTrue (is_size_in Mem n)

-- the chunks of n bytes at an address, of which the first is at that place of the access; in at most so many steps
unfoldable pub chunks_from : ℕ → ℕ → ℕ → ℕ → List Chunk
chunks_from zero pa at n = []
chunks_from (suc steps) pa at zero = []
chunks_from (suc steps) pa at (suc more) =
    record { pa = pa; at = at; size = first_size pa (suc more) } ∷ chunks_from steps (pa + first_size pa (suc more)) (at + first_size pa (suc more)) (suc more - first_size pa (suc more))

-- an access outside RAM, as naturally aligned chunks
unfoldable pub chunks : ℕ → ℕ → List Chunk
chunks pa n = chunks_from n pa 0 n

-- the chunk has a size that a device access can have, and lies within an access of n bytes
pub record Within (n : ℕ) (c : Chunk) : Type 0 where
  pub size : IsChunkSize c.size
  pub inside : c.at + c.size ≤ n

-- the sizes of accesses
abbrev pub is_size : ℕ → Bool
is_size n = (n == 1) || ((n == 2) || ((n == 4) || ((n == 8) || (n == 16))))

-- the most chunks of an access of a size
abbrev pub most : ℕ → ℕ
most n = if n == 1 then 1 else (if n == 2 then 2 else (if n == 4 then 3 else (if n == 8 then 4 else 5)))

-- the addresses of the bytes of some chunks, one chunk after another
abbrev pub addresses_of : List Chunk → List ℕ
addresses_of cs = flat_map (λ (c : Chunk). range_with_len c.pa c.size) cs

-- the places of these bytes in the access
abbrev pub places_of : List Chunk → List ℕ
places_of cs = flat_map (λ (c : Chunk). range_with_len c.at c.size) cs
