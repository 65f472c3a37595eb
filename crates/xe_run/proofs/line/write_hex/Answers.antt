use Rattle.std.proofs.Common.{rules}
use Rattle.xe_run.proofs.HexLaws.{begins, writes, never}
use Rattle.xe_run.proofs.line.write_hex.Goals as goal

pub loop-at-init : goal.loop-at-init
loop-at-init c = begins c.args.n c.args.buf.now c.told-buf (search rules)

pub returns-then-rest-eq0-clause-written : goal.returns-then-rest-eq0-clause-written
returns-then-rest-eq0-clause-written c = (writes c.args.n c.loop-at.at c.loop-at.rest c.digit.result c.loop-at.buf c.loop-at-test.true c.loop-at.auto.at c.digit.ensures c.loop-at.invariant).0 c.if-rest-eq0.true

pub loop-at-preserved : goal.loop-at-preserved
loop-at-preserved c = (writes c.args.n c.loop-at.at c.loop-at.rest c.digit.result c.loop-at.buf c.loop-at-test.true c.loop-at.auto.at c.digit.ensures c.loop-at.invariant).1 c.if-rest-eq0.false

pub returns-clause-written : goal.returns-clause-written
returns-clause-written c = absurd (never c.args.n c.loop-at.at c.loop-at.rest c.loop-at.buf c.loop-at-test.false c.loop-at.invariant)
