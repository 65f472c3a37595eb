use Rattle.std.proofs.Common.{◌≡◌, ◌∙◌, sym, refl, rules, true}
use Rattle.xe_ctx.specs.View.{view}
use Rattle.xe_ctx.proofs.AtOnce.{stored}
use Rattle.xe_ctx.proofs.Running.{running-stored}
use Rattle.xe_ctx.proofs.Work.{are_ram-patched}
use Rattle.xe_ctx.proofs.ctx.Ctx.store_at_once.Goals as goal

pub returns-clause-part : goal.returns-clause-part
returns-clause-part g c =
    let here : c.is_ram.result ≡ true = search rules in
    λ _. stored _ _ _ (view g.B.Bus.sight g.I.Intercepts.hits c.args.self.now) _ c.in-Some.ensures.unpaged c.in-Some.ensures.in_page (are_ram-patched _ _ _ _ ∙ sym c.is_ram.ensures ∙ here) _ _ _ c.in-Some.ensures.checked c.write_number.ensures.work (running-stored _ c.args.self.now.m.now c.write_number.new.self c.write_number.ensures.state _ refl c.write_number.ensures.made)
