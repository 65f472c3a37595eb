use Rattle.std.proofs.Common.{◌≡◌, ◌∙◌, sym, refl, rules, arith, true, false}
use Rattle.xe_ctx.specs.View.{view}
use Rattle.xe_ctx.proofs.Opens.{open-written}
use Rattle.xe_ctx.proofs.Running.{running-stored}
use Rattle.xe_ctx.proofs.Stores.{number_out_there, number_ram}
use Rattle.xe_ctx.proofs.Work.{are_ram-patched}
use Rattle.xe_ctx.proofs.ctx.Ctx.write_number.Goals as goal

pub returns-then-not-is_ram-clause-part : goal.returns-then-not-is_ram-clause-part
returns-then-not-is_ram-clause-part g c =
    let f : c.is_ram.result ≡ false = search rules in
    number_out_there _ _ _ _ _ _ (are_ram-patched _ _ _ _ ∙ sym c.is_ram.ensures ∙ f) c.number_to_devices.ensures.part

pub write_number-requires-clause-ram : goal.write_number-requires-clause-ram
write_number-requires-clause-ram g c = let t : c.is_ram.result ≡ true = search rules in sym c.is_ram.ensures ∙ t

pub returns-clause-open : goal.returns-clause-open
returns-clause-open g c = open-written g.B.Bus.sight c.args.self.now _ c.write_number.ensures.state refl c.requires.open refl refl c.write_number.ensures.made (omega (arith, c.requires.open.cells_fit, c.requires.bytes, c.write_number.ensures.room)) c.write_number.ensures.cells

pub returns-clause-part : goal.returns-clause-part
returns-clause-part g c =
    let t : c.is_ram.result ≡ true = search rules in
    number_ram c.args.n c.args.value (view g.B.Bus.sight g.I.Intercepts.hits c.args.self.now) _ _ _ (are_ram-patched _ _ _ _ ∙ sym c.is_ram.ensures ∙ t) c.write_number.ensures.work (running-stored _ c.args.self.now.m.now c.write_number.new.self c.write_number.ensures.state _ refl c.write_number.ensures.made)
