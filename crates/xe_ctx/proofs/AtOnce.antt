use Rattle.std.proofs.Common.{ℕ, ◌≡◌, ◌∙◌, ◌≤◌, ◌-◌, ◌%◌, List, Ok, refl, true, false}
use Rattle.xe_base.specs.Bytes.{num, le}
use Rattle.xe_base.specs.Ram.{Area, bytes_of, put_bytes}
use Rattle.xe_base.specs.State.{pg}
use Rattle.xe_base.specs.declared.segment.SegName.{SegName}
use Rattle.xe_seg.specs.Accesses.{access}
use Rattle.xe_walk.specs.declared.rights.Kind.{Kind}
use Rattle.xe_ctx.specs.Is.{Sight, Does, Is}
use Rattle.xe_ctx.specs.Memory.{are_ram, data_kind, load_at}
use Rattle.xe_ctx.specs.Numbers.{numbered}
use Rattle.xe_ctx.specs.Part.{View}
use Rattle.xe_ctx.specs.Tree.{load, load_for_write, store}
use Rattle.xe_ctx.proofs.Calls.{load_ends, load_for_write_ends, store_ends}
use Rattle.xe_ctx.proofs.Locates.{locate_gives}
use Rattle.xe_ctx.proofs.Numbers.{number_ends, number_loaded}
use Rattle.xe_ctx.proofs.Pieces.{piece_ram}
use Rattle.xe_ctx.proofs.Places.{place-plain}
use Rattle.xe_ctx.proofs.Stores.{number_ram, number_stored}

-- Loads and stores of RAM, in one page, without paging.
module _ (seg : SegName) (offset n : ℕ) (v : Sight) (la : ℕ) (off : pg v.step.start.cpu ≡ false) (page : n ≤ 4096 - la % 4096) (ram : are_ram v.step.work la n ≡ true) where
  module _ (number : ℕ) (is : number ≡ num (bytes_of v.step.work la n)) where
    read : (kind : Kind) → Does (numbered (load_at kind la n)) v (Ok number) v
    read kind = number_loaded kind la n page (Ok number) (place-plain kind la v off) (number_ends (piece_ram v la 0 n _ ram refl) is)

    pub loaded : Ok la ≡ access v.step.start.cpu seg offset n false → Is (load seg offset n) v (Ok number) v
    loaded e = load_ends seg offset n (Ok number) (locate_gives seg offset n false v la e) (read (data_kind false))

    pub loaded_for_write : Ok la ≡ access v.step.start.cpu seg offset n true → Is (load_for_write seg offset n) v (Ok number) v
    loaded_for_write e = load_for_write_ends seg offset n (Ok number) (locate_gives seg offset n true v la e) (read (data_kind true))

  pub stored : (value : ℕ) (w : List Area) (step : View) → Ok la ≡ access v.step.start.cpu seg offset n true → w ≡ put_bytes v.step.work la (le n value) → step ≡ record v.step { work = w } → Is (store seg offset n value) v (Ok tt) (record v { step = step })
  stored value w step e put is = store_ends seg offset n value (le n value) (Ok tt) refl (locate_gives seg offset n true v la e) (number_stored n value (data_kind true) la page (Ok tt) (place-plain (data_kind true) la v off) (number_ram n value v la w step ram put is))
