use Rattle.std.proofs.Common.{◌≡◌, ◌≤◌, List, All, length, take, ap, sym, ◌∙◌}
use Rattle.xe_base.specs.Access.{IsWellMade}
use Rattle.xe_base.specs.declared.access.Made.{Made}
use Rattle.xe_ctx.specs.Bus.{BusView}
use Rattle.xe_ctx.specs.Fetch.{avail}
use Rattle.xe_ctx.specs.Kept.{Agrees}
use Rattle.xe_ctx.specs.Machine.{state_of, cells_of, made_of, CellsFit}
use Rattle.xe_ctx.specs.View.{IsOpen, HasRoomBehind}
use Rattle.xe_ctx.specs.declared.ctx.Ctx.{Ctx}

-- what a step in progress keeps to, after it has made an access, and after it has changed RAM
module _ {B I : Type 0} (sight : B → BusView) (old new : Ctx B I) (s : state_of new.m.now ≡ state_of old.m.now) (same : new.code ≡ old.code) (h : IsOpen sight old) where
  code-stays : new.code.items ≡ take (length new.code.items) (avail (state_of new.m.now)).bytes
  code-stays = rw same (h.code ∙ ap (λ t. take (length old.code.items) (avail t).bytes) (sym s))

  pub open-made : (made : List Made) → cells_of new.m.now ≡ cells_of old.m.now → made_of new.m.now ≡ made → length made ≤ 256 → All IsWellMade made → Agrees new.rec.now.answers.items new.rec.now.asked made → HasRoomBehind (sight new.bus.now) new.rec.now.answers.items made → IsOpen sight new
  open-made made c m fit well agrees room =
      let mem : new.m.now.mem ≡ old.m.now.mem = ap (λ t. t.ram) s in
      record {
        made_fit = rw m fit;
        cells_fit = rw c h.cells_fit;
        cells = rw (mem, c) h.cells;
        code = code-stays;
        well_made = rw m well;
        agrees = rw m agrees;
        room_ = rw m room;
      }

  pub open-written : new.bus.now ≡ old.bus.now → new.rec.now ≡ old.rec.now → made_of new.m.now ≡ made_of old.m.now → length (cells_of new.m.now) ≤ 1024 → CellsFit new.m.now → IsOpen sight new
  open-written b r m fit cells = record {
    made_fit = rw m h.made_fit;
    cells_fit = fit;
    cells = cells;
    code = code-stays;
    well_made = rw m h.well_made;
    agrees = rw (r, m) h.agrees;
    room_ = rw (b, r, m) h.room_;
  }
