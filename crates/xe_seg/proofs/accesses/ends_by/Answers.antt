use Rattle.std.proofs.Common.{◌+◌, ◌<◌, arith, nat_le}
use Rattle.xe_seg.proofs.EachLaws.{ends_within, begins_above, each_of_none}
use Rattle.xe_seg.proofs.accesses.ends_by.Goals as goal

pub returns-then-n-eq0 : goal.returns-then-n-eq0
returns-then-n-eq0 c = each_of_none c.args.n (λ i. nat_le (c.args.offset + i) c.args.highest) (omega arith)

pub returns-then-offset-highest : goal.returns-then-offset-highest
returns-then-offset-highest c =
    let some : 0 < c.args.n = omega arith in
    ends_within c.args.highest c.args.offset c.args.n some c.if-offset-highest.true

pub returns-else-offset-highest : goal.returns-else-offset-highest
returns-else-offset-highest c =
    let some : 0 < c.args.n = omega arith in
    begins_above c.args.highest c.args.offset c.args.n some c.if-offset-highest.false
