use Rattle.std.proofs.Common.{ap}
use Rattle.xe_ctx.specs.Accept.{accepted}
use Rattle.xe_ctx.specs.View.{view}
use Rattle.xe_ctx.proofs.Running.{running-stored}
use Rattle.xe_ctx.proofs.ctx.Ctx.accept.Goals as goal

pub returns-clause-step : goal.returns-clause-step
unfolding accepted
returns-clause-step g c =
    let old = view g.B.Bus.sight g.I.Intercepts.hits c.args.self.now in
    ap (λ v. record old { step = v }) (running-stored (g.I.Intercepts.hits c.args.self.now.icpt.now) c.args.self.now.m.now c.mark_code.new.self c.mark_code.ensures.state _ c.mark_code.ensures.work c.mark_code.ensures.made)
