use Rattle.std.proofs.Common.{◌∙◌, sym, ◌<◌, ◌^◌, ◌+◌, ◌%◌, arith}
use Rattle.xe_base.specs.State.{is_canonical}
use Rattle.xe_seg.proofs.EachLaws.{each_of_none}
use Rattle.xe_seg.proofs.CanonicalLaws.{last_decides, first_decides}
use Rattle.xe_seg.proofs.accesses.are_canonical.Goals as goal

pub returns-then-n-eq0 : goal.returns-then-n-eq0
returns-then-n-eq0 c = each_of_none c.args.n (λ i. is_canonical c.args.cpu.now ((c.args.first + i) % 2 ^ 64)) (omega arith)

pub returns-then-is_canonical : goal.returns-then-is_canonical
returns-then-is_canonical c =
    let first : c.args.first < 2 ^ 64 = omega arith in
    let some : 0 < c.args.n = omega arith in
    let few : c.args.n < 2 ^ 32 = omega arith in
    c.is_canonical-then-is_canonical.ensures ∙ last_decides c.args.first c.args.n first some few (sym c.is_canonical.ensures ∙ c.if-is_canonical.true)

pub returns-else-is_canonical : goal.returns-else-is_canonical
returns-else-is_canonical c =
    let first : c.args.first < 2 ^ 64 = omega arith in
    let some : 0 < c.args.n = omega arith in
    c.is_canonical.ensures ∙ first_decides c.args.first c.args.n first some (sym c.is_canonical.ensures ∙ c.if-is_canonical.false)
