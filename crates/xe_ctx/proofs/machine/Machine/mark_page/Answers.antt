use Rattle.std.proofs.Common.{◌∙◌}
use Rattle.xe_ctx.proofs.AcceptLaws.{page-marked}
use Rattle.xe_ctx.proofs.machine.Machine.mark_page.Goals as goal

pub returns-in-Ok-clause-work : goal.returns-in-Ok-clause-work
returns-in-Ok-clause-work c = page-marked c.args.self.now.cpu _ _ _ _ _ c.fetch_kind-in-Ok.ensures (c.as_slice.ensures.value ∙ c.in-Ok.ensures.visits) c.mark.ensures.work
