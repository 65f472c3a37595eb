use Rattle.std.proofs.Common.{[], ◌∷◌, refl, arith, length-append}
use Rattle.std.proofs.lemmas.List.Elements.{All-push}
use Rattle.xe_base.specs.Access.{IsWellMade}
use Rattle.xe_base.specs.declared.access.Made.{Made}
use Rattle.xe_ctx.specs.Machine.{made_of}
use Rattle.xe_ctx.specs.View.{view}
use Rattle.xe_ctx.proofs.Asking.{does_ready, does_wait, does_fail, well-answered, agrees-asked, room-ready}
use Rattle.xe_ctx.proofs.Opens.{open-made}
use Rattle.xe_ctx.proofs.Running.{running-noted}
use Rattle.xe_ctx.proofs.ctx.Ctx.ask_bus.Goals as goal

pub returns-in-Ready-clause-open : goal.returns-in-Ready-clause-open
returns-in-Ready-clause-open g c =
    let open_ = c.requires.open in
    let m : Made = record { access = c.args.a; answer = c.in-Ready.answer } in
    open-made g.B.Bus.sight c.args.self.now _ c.note.ensures.state refl open_ _ c.note.ensures.cells c.note.ensures.made
    (omega (arith, length-append (made_of c.args.self.now.m.now) (m ∷ []), c.requires.accesses))
    (All-push IsWellMade (made_of c.args.self.now.m.now) m open_.well_made (well-answered _ _ c.args.a c.in-Ready.answer c.requires.well_formed c.in-Ready.ensures))
    (agrees-asked _ _ (made_of c.args.self.now.m.now) m c.requires.stands.used c.requires.stands.expects open_.agrees)
    (room-ready _ _ c.args.a c.in-Ready.answer _ (made_of c.args.self.now.m.now) m c.requires.stands.used c.in-Ready.ensures open_.room_)

pub returns-in-Ready-clause-part : goal.returns-in-Ready-clause-part
returns-in-Ready-clause-part g c = does_ready (view g.B.Bus.sight g.I.Intercepts.hits c.args.self.now) _ _ c.args.a c.in-Ready.answer c.requires.stands c.requires.well_formed c.in-Ready.ensures (running-noted _ c.args.self.now.m.now c.note.new.self c.note.ensures.state _ c.note.ensures.cells c.note.ensures.made)

pub returns-in-NotYet-clause-part : goal.returns-in-NotYet-clause-part
returns-in-NotYet-clause-part g c = does_wait (view g.B.Bus.sight g.I.Intercepts.hits c.args.self.now) _ c.args.a c.requires.stands c.requires.well_formed (omega (arith, c.requires.accesses)) c.in-NotYet.ensures

pub returns-in-Failed-clause-part : goal.returns-in-Failed-clause-part
returns-in-Failed-clause-part g c = does_fail (view g.B.Bus.sight g.I.Intercepts.hits c.args.self.now) _ c.args.a c.requires.stands c.requires.well_formed (omega (arith, c.requires.accesses)) c.in-Failed.ensures
