use Rattle.std.proofs.Common.{◌∙◌, arith}
use Rattle.xe_ctx.specs.Machine.{state_of}
use Rattle.xe_ctx.proofs.FetchLaws.{code-full}
use Rattle.xe_ctx.proofs.machine.Machine.read_code.Goals as goal

pub returns-clause-bytes_read : goal.returns-clause-bytes_read
returns-clause-bytes_read c = let e = code-full (state_of c.args.self.now) _ (omega (arith, c.more-test.false, c.len.ensures.value)) c.more.invariant in e.0

pub returns-clause-reason : goal.returns-clause-reason
returns-clause-reason c = let e = code-full (state_of c.args.self.now) _ (omega (arith, c.more-test.false, c.len.ensures.value)) c.more.invariant in c.fetch_fault.ensures ∙ e.1
