use Rattle.std.specs.Prelude.{ℕ, zero, suc, List, [], ◌∷◌}
use Rattle.xe_base.specs.Ram.{Area}
use Rattle.xe_base.specs.State.{address_bits}
use Rattle.xe_walk.specs.Walk.{entries}
use Rattle.xe_ctx.specs.Fetch.{code_address, fetch_kind}
use Rattle.xe_ctx.specs.Memory.{Piece, pieces}
use Rattle.xe_ctx.specs.Part.{View}
use Rattle.xe_ctx.specs.State.{State}
use Rattle.xe_ctx.specs.Translate.{marked}

-- The pages of an instruction are marked as accessed (SDM volume 3, "Accessed and Dirty Flags"). Those of bytes that were looked at and turned out to be
-- no part of it are not: this project's choice.

-- the pieces of the instruction's first bytes: one for each page that they touch
abbrev pub code_pieces : State → ℕ → List Piece
code_pieces s zero = []
code_pieces s (suc n) = pieces (address_bits s.cpu) (code_address s.cpu 0) (suc n)

-- the RAM after the pages of these pieces were marked, by the entries that the page tables have at the start of the step
unfoldable pub accessed : State → List Piece → List Area → List Area
accessed s [] ram = ram
accessed s (p ∷ ps) ram = accessed s ps (marked s.cpu fetch_kind (entries s.ram s.cpu p.la) ram)

-- a step that has the first bytes for its instruction; without paging there is nothing to mark
unfoldable pub accepted : ℕ → View → View
accepted len v = record v { work = accessed v.start (code_pieces v.start len) v.work }
