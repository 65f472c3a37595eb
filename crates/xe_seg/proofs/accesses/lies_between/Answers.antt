use Rattle.std.proofs.Common.{◌∙◌, ◌+◌, ◌<◌, arith, nat_le, nat_lt, ◌&&◌}
use Rattle.xe_seg.proofs.EachLaws.{ends_between, begins_below, each_of_none}
use Rattle.xe_seg.proofs.accesses.lies_between.Goals as goal

pub returns-then-n-eq0 : goal.returns-then-n-eq0
returns-then-n-eq0 c = each_of_none c.args.n (λ i. nat_lt c.args.limit (c.args.offset + i) && nat_le (c.args.offset + i) c.args.highest) (omega arith)

pub returns-then-limit-offset : goal.returns-then-limit-offset
returns-then-limit-offset c = c.ends_by.ensures ∙ ends_between c.args.limit c.args.highest c.args.offset c.args.n c.if-limit-offset.true

pub returns-else-limit-offset : goal.returns-else-limit-offset
returns-else-limit-offset c =
    let some : 0 < c.args.n = omega arith in
    begins_below c.args.limit c.args.highest c.args.offset c.args.n some c.if-limit-offset.false
