use Rattle.std.proofs.Common.{◌≡◌, ◌∙◌, sym, refl, rules, arith, true, false}
use Rattle.xe_ctx.specs.View.{view}
use Rattle.xe_ctx.proofs.Opens.{open-written}
use Rattle.xe_ctx.proofs.Running.{running-stored}
use Rattle.xe_ctx.proofs.Stores.{write_ram, write_out}
use Rattle.xe_ctx.proofs.Work.{are_ram-patched}
use Rattle.xe_ctx.proofs.ctx.Ctx.write_piece.Goals as goal

pub returns-then-not-is_ram-clause-part : goal.returns-then-not-is_ram-clause-part
returns-then-not-is_ram-clause-part g c =
    let f : c.is_ram.result ≡ false = search rules in
    write_out _ _ _ _ _ (are_ram-patched _ _ _ _ ∙ sym c.is_ram.ensures ∙ f) c.write_devices.ensures.part

pub write-requires-clause-ram : goal.write-requires-clause-ram
write-requires-clause-ram g c = let t : c.is_ram.result ≡ true = search rules in sym c.is_ram.ensures ∙ t

pub returns-clause-open : goal.returns-clause-open
returns-clause-open g c = open-written g.B.Bus.sight c.args.self.now _ c.write.ensures.state refl c.requires.open refl refl c.write.ensures.made (omega (arith, c.requires.open.cells_fit, c.requires.bytes, c.write.ensures.room)) c.write.ensures.cells

pub returns-clause-part : goal.returns-clause-part
returns-clause-part g c =
    let t : c.is_ram.result ≡ true = search rules in
    write_ram (view g.B.Bus.sight g.I.Intercepts.hits c.args.self.now) _ _ _ _ (are_ram-patched _ _ _ _ ∙ sym c.is_ram.ensures ∙ t) c.write.ensures.work (running-stored _ c.args.self.now.m.now c.write.new.self c.write.ensures.state _ refl c.write.ensures.made)
