use Rattle.std.proofs.Common.{◌≡◌, ◌<◌, [], ◌∷◌, ap, refl, arith, length, length-append}
use Rattle.std.proofs.lemmas.List.Elements.{All-push}
use Rattle.xe_base.specs.Access.{IsWellMade}
use Rattle.xe_ctx.specs.Machine.{made_of}
use Rattle.xe_ctx.specs.View.{view}
use Rattle.xe_ctx.proofs.Asking.{does_kept, does_differ, made-answers, agrees-kept, room-kept}
use Rattle.xe_ctx.proofs.Opens.{open-made}
use Rattle.xe_ctx.proofs.Records.{expected-kept}
use Rattle.xe_ctx.proofs.Running.{running-noted}
use Rattle.xe_ctx.proofs.ctx.Ctx.ask.Goals as goal

-- the record has another access there
pub returns-in-Some-clause-part : goal.returns-in-Some-clause-part
returns-in-Some-clause-part g c = does_differ (view g.B.Bus.sight g.I.Intercepts.hits c.args.self.now) c.args.a c.in-Some.kept (length c.made-at.result.now) _ (ap length c.made-at.ensures.value) c.in-Some.ensures.some c.in-Some.ensures.differs c.diverged.ensures

-- a kept answer
pub returns-in-Some-kept_at-clause-open : goal.returns-in-Some-kept_at-clause-open
returns-in-Some-kept_at-clause-open g c =
    let open_ = c.requires.open in
    let e : length c.made-at.result.now ≡ length (made_of c.args.self.now.m.now) = ap length c.made-at.ensures.value in
    let below : length (made_of c.args.self.now.m.now) < length c.args.self.now.rec.now.answers.items = rw (← e) c.in-Some-kept_at.ensures.below in
    open-made g.B.Bus.sight c.args.self.now _ c.note.ensures.state refl open_ _ c.note.ensures.cells c.note.ensures.made
    (omega (arith, length-append (made_of c.args.self.now.m.now) (c.in-Some-kept_at.kept ∷ []), c.requires.accesses))
    (All-push IsWellMade (made_of c.args.self.now.m.now) c.in-Some-kept_at.kept open_.well_made c.in-Some-kept_at.ensures.well_made)
    (agrees-kept _ _ (made_of c.args.self.now.m.now) c.in-Some-kept_at.kept below (λ d. rw (← e) (c.in-Some-kept_at.ensures.value d)) open_.agrees)
    (room-kept (g.B.Bus.sight c.args.self.now.bus.now) _ (made_of c.args.self.now.m.now) c.in-Some-kept_at.kept below open_.room_)

pub returns-in-Some-kept_at-clause-fits : goal.returns-in-Some-kept_at-clause-fits
returns-in-Some-kept_at-clause-fits g c = made-answers c.in-Some-kept_at.kept c.args.a (c.in_default.ensures.none _ (expected-kept _ c.args.self.now.rec.now.asked _ c.in-Some-kept_at.kept c.in-Some-kept_at.ensures.below c.in-Some-kept_at.ensures.value)) c.in-Some-kept_at.ensures.well_made

pub returns-in-Some-kept_at-clause-part : goal.returns-in-Some-kept_at-clause-part
returns-in-Some-kept_at-clause-part g c =
    let e : length c.made-at.result.now ≡ length (made_of c.args.self.now.m.now) = ap length c.made-at.ensures.value in
    let below : length (made_of c.args.self.now.m.now) < length c.args.self.now.rec.now.answers.items = rw (← e) c.in-Some-kept_at.ensures.below in
    does_kept (view g.B.Bus.sight g.I.Intercepts.hits c.args.self.now) _ c.in-Some-kept_at.kept c.args.a c.in-Some-kept_at.ensures.well_made below (λ d. rw (← e) (c.in-Some-kept_at.ensures.value d)) (c.in_default.ensures.none _ (expected-kept _ c.args.self.now.rec.now.asked _ c.in-Some-kept_at.kept c.in-Some-kept_at.ensures.below c.in-Some-kept_at.ensures.value)) (running-noted _ c.args.self.now.m.now c.note.new.self c.note.ensures.state _ c.note.ensures.cells c.note.ensures.made)
