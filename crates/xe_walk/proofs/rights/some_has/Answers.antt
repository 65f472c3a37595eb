use Rattle.std.proofs.Common.{◌∙◌, sym, rules}
use Rattle.xe_walk.proofs.EntryLists.{some-true, some-next, some-end}
use Rattle.xe_walk.proofs.rights.some_has.Goals as goal

pub returns-then-bit : goal.returns-then-bit
returns-then-bit c = sym (c.loop-entry.invariant ∙ some-true c.args.at c.args.entries.now c.loop-entry.entry-index (record { pa = 0; size = 0; value = 0 }) c.loop-entry-test.true (search rules))

pub loop-entry-preserved : goal.loop-entry-preserved
loop-entry-preserved c = c.loop-entry.invariant ∙ some-next c.args.at c.args.entries.now c.loop-entry.entry-index (record { pa = 0; size = 0; value = 0 }) c.loop-entry-test.true (search rules)

pub returns : goal.returns
returns c = sym (c.loop-entry.invariant ∙ some-end c.args.at c.args.entries.now c.loop-entry.entry-index c.loop-entry-test.false)
