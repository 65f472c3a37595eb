use Rattle.std.proofs.Common.{◌∙◌, sym, ◌+◌, ◌%◌, ◌^◌}
use Rattle.xe_base.specs.State.{is_canonical}
use Rattle.xe_seg.proofs.EachLaws.{each_at}
use Rattle.xe_seg.proofs.accesses.long_access.Goals as goal

pub returns-clause-canonical : goal.returns-clause-canonical
returns-clause-canonical c = λ i l. each_at c.args.n (λ k. is_canonical c.args.cpu.now ((c.linear_address-first.result + k) % 2 ^ 64)) i (sym c.are_canonical.ensures ∙ c.if-not-are_canonical.false) l
