use Rattle.xe_ctx.proofs.Cut.{chunk-within, chunk-aligned}
use Rattle.xe_ctx.proofs.laws.chunks_are_aligned.Goals as goal

pub returns-clause-size : goal.returns-clause-size
returns-clause-size c = λ pa n i d h. (chunk-within pa n i d h).size

pub returns-clause-aligned : goal.returns-clause-aligned
returns-clause-aligned c = λ pa n i d h. chunk-aligned pa n i d h
