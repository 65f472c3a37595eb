use Rattle.std.proofs.Common.{◌∙◌}
use Rattle.xe_ctx.specs.View.{view}
use Rattle.xe_ctx.proofs.AtOnce.{loaded}
use Rattle.xe_ctx.proofs.Work.{are_ram-patched}
use Rattle.xe_ctx.proofs.ctx.Ctx.load_at_once.Goals as goal

pub returns : goal.returns
returns g c = loaded _ _ _ (view g.B.Bus.sight g.I.Intercepts.hits c.args.self.now) _ c.in_ok-pa.ensures.unpaged c.in_ok-pa.ensures.in_page (are_ram-patched _ _ _ _ ∙ c.in_ok-number.ensures.ram) _ c.in_ok-number.ensures.is c.in_ok-pa.ensures.checked
