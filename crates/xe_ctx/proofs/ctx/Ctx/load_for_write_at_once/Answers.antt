use Rattle.std.proofs.Common.{◌∙◌}
use Rattle.xe_ctx.specs.View.{view}
use Rattle.xe_ctx.proofs.AtOnce.{loaded_for_write}
use Rattle.xe_ctx.proofs.Work.{are_ram-patched}
use Rattle.xe_ctx.proofs.ctx.Ctx.load_for_write_at_once.Goals as goal

pub returns : goal.returns
returns g c = loaded_for_write _ _ _ (view g.B.Bus.sight g.I.Intercepts.hits c.args.self.now) _ c.in_ok-pa.ensures.unpaged c.in_ok-pa.ensures.in_page (are_ram-patched _ _ _ _ ∙ c.in_ok-number.ensures.ram) _ c.in_ok-number.ensures.is c.in_ok-pa.ensures.checked
