use Rattle.std.proofs.Common.{arith}
use Rattle.xe_ctx.specs.Machine.{state_of}
use Rattle.xe_ctx.proofs.FetchLaws.{read-whole}
use Rattle.xe_ctx.proofs.RunLaws.{run-of}
use Rattle.xe_ctx.proofs.machine.Machine.code_at_once.Goals as goal

pub returns : goal.returns
returns c = read-whole (state_of c.args.self.now) c.in_ok-pa.pa c.read.result (λ some. run-of (state_of c.args.self.now) 0 _ _ c.code_room-la.ensures.room c.in_ok-pa.pa 15 c.in_ok-pa.ensures 15 (omega (arith, c.if-room-lt15.false)) (omega arith) (c.read.ensures.present.0 some)) c.read.ensures.bytes
