use Rattle.std.proofs.Common.{refl}
use Rattle.xe_ctx.proofs.Running.{running-fresh}
use Rattle.xe_ctx.proofs.ctx.Ctx.begin.Goals as goal

pub returns-clause-start : goal.returns-clause-start
returns-clause-start g c = rw (running-fresh (g.I.Intercepts.hits c.args.icpt.now) c.args.m.now c.begin_step.new.self c.begin_step.ensures.state c.begin_step.ensures.cells c.begin_step.ensures.made) refl
