use Rattle.xe_ctx.proofs.NextLaws.{by_next_is}
use Rattle.xe_ctx.proofs.laws.runs_by_its_next_request.Goals as goal

pub returns : goal.returns
returns c = λ n t v s r e. by_next_is n t v s r e
