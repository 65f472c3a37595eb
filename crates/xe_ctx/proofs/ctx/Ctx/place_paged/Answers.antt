use Rattle.std.proofs.Common.{refl}
use Rattle.xe_ctx.proofs.Places.{place-gives, place-stops}
use Rattle.xe_ctx.proofs.Running.{running-stored}
use Rattle.xe_ctx.specs.View.{view}
use Rattle.xe_ctx.proofs.ctx.Ctx.place_paged.Goals as goal

pub returns-in-Ok-clause-part : goal.returns-in-Ok-clause-part
returns-in-Ok-clause-part g c =
    let marked = rw c.as_slice.ensures.value at c.mark.ensures.work in
    place-gives _ _ (view g.B.Bus.sight g.I.Intercepts.hits c.args.self.now) _ _ _ _ c.in-Ok.ensures.is marked (running-stored _ c.args.self.now.m.now c.mark.new.self c.mark.ensures.state _ refl c.mark.ensures.made)

pub returns-in-Err-clause-part : goal.returns-in-Err-clause-part
returns-in-Err-clause-part g c = place-stops _ _ _ _ _ c.in-Err.ensures.is c.ending_of.ensures
