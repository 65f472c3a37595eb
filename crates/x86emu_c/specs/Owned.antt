-- What a box that is held as its pointer owns.
use Rattle.std.specs.Prelude.{◌≡◌, List, [], ◌∷◌, length}
use mir.Syntax.{Ty}
use base.Fml.{Fml, ftrue}
use denote.RattleType.{RattleType}
use denote.RawPtr.{Ptr}
use Rattle.std.specs.Box.Ownership.{box_owns}
use Rattle.std.specs.contracts.impls.GlobalAllocator.TheImpl.{ghosts}

-- the right to free a block of the program's allocator, which has no state of its own and so is the same for each machine
abbrev pub chunk : Ty → Ptr → Fml
chunk = ghosts.dealloc_token (record { memory = record { seal = tt } })

-- for no value nothing; for a value its block at p, and the right to free it
abbrev pub held : (Ty → Ptr → Fml) → (R : RattleType) → Ptr → List R.Denot → Fml
held holds R p [] = ftrue
held holds R p (x ∷ _) = box_owns holds R p x

-- the list has one value
abbrev pub IsOne : {A : Type 0} → List A → Type 0
IsOne xs = length xs ≡ 1
