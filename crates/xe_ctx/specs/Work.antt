use Rattle.std.specs.Prelude.{ℕ, ◌+◌, ◌++◌, List, [], ◌∷◌}
use Rattle.xe_base.specs.Bytes.{le}
use Rattle.xe_base.specs.Ram.{Area, put_byte}
use Rattle.xe_ctx.specs.declared.run.Run.{Run}

-- a byte that the step has changed
pub record Cell : Type 0 where
  pub at : ℕ
  pub byte : ℕ

-- the RAM with the changed bytes, the oldest change first
unfoldable pub patched : List Area → List Cell → List Area
patched ram [] = ram
patched ram (c ∷ cs) = patched (put_byte ram c.at c.byte) cs

-- bytes that are written from an address on
unfoldable pub cells_from : ℕ → List ℕ → List Cell
cells_from pa [] = []
cells_from pa (b ∷ bs) = record { at = pa; byte = b } ∷ cells_from (pa + 1) bs

-- the bytes that some stores have changed, those of the oldest store first, and of each store the lowest first
unfoldable pub expand : List Run → List Cell
expand [] = []
expand (r ∷ rs) = cells_from r.at (le r.size r.value) ++ expand rs
