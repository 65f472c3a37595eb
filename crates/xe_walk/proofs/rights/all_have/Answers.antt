use Rattle.std.proofs.Common.{◌∙◌, sym, rules}
use Rattle.xe_walk.proofs.EntryLists.{all-false, all-next, all-end}
use Rattle.xe_walk.proofs.rights.all_have.Goals as goal

pub returns-then-not-bit : goal.returns-then-not-bit
returns-then-not-bit c = sym (c.loop-entry.invariant ∙ all-false c.args.at c.args.entries.now c.loop-entry.entry-index (record { pa = 0; size = 0; value = 0 }) c.loop-entry-test.true (search rules))

pub loop-entry-preserved : goal.loop-entry-preserved
loop-entry-preserved c = c.loop-entry.invariant ∙ all-next c.args.at c.args.entries.now c.loop-entry.entry-index (record { pa = 0; size = 0; value = 0 }) c.loop-entry-test.true (search rules)

pub returns : goal.returns
returns c = sym (c.loop-entry.invariant ∙ all-end c.args.at c.args.entries.now c.loop-entry.entry-index c.loop-entry-test.false)
