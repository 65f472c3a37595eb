use Rattle.xe_run.proofs.DriveLaws.{reg-drafts, seg-drafts, table-drafts, dev-silent, icpt-silent, unicpt-silent, ioport-silent, icptmsr-silent, batch-silent, dump-after, on_ok, nothing-written}
use Rattle.xe_run.proofs.driver.Driver.obey.Goals as goal

pub returns-in-Reg-clause-writes : goal.returns-in-Reg-clause-writes
returns-in-Reg-clause-writes g c = nothing-written _ _ (reg-drafts _ _ _ _ c.in-Reg.is)

pub returns-in-Seg-clause-writes : goal.returns-in-Seg-clause-writes
returns-in-Seg-clause-writes g c = nothing-written _ _ (seg-drafts _ _ _ _ _ _ _ c.in-Seg.is)

pub returns-in-Table-clause-writes : goal.returns-in-Table-clause-writes
returns-in-Table-clause-writes g c = nothing-written _ _ (table-drafts _ _ _ _ _ c.in-Table.is)

pub returns-in-Dev-clause-writes : goal.returns-in-Dev-clause-writes
returns-in-Dev-clause-writes g c = nothing-written _ _ (dev-silent _ _ _ _ _ _ c.in-Dev.is)

pub returns-in-Icpt-clause-writes : goal.returns-in-Icpt-clause-writes
returns-in-Icpt-clause-writes g c = nothing-written _ _ (icpt-silent _ _ _ c.in-Icpt.is)

pub returns-in-Unicpt-clause-writes : goal.returns-in-Unicpt-clause-writes
returns-in-Unicpt-clause-writes g c = nothing-written _ _ (unicpt-silent _ _ _ c.in-Unicpt.is)

pub returns-in-Ioport-clause-writes : goal.returns-in-Ioport-clause-writes
returns-in-Ioport-clause-writes g c = nothing-written _ _ (ioport-silent _ _ _ _ c.in-Ioport.is)

pub returns-in-Icptmsr-clause-writes : goal.returns-in-Icptmsr-clause-writes
returns-in-Icptmsr-clause-writes g c = nothing-written _ _ (icptmsr-silent _ _ _ _ c.in-Icptmsr.is)

pub returns-in-Batch-clause-writes : goal.returns-in-Batch-clause-writes
returns-in-Batch-clause-writes g c = nothing-written _ _ (batch-silent _ _ _ c.in-Batch.is)

pub returns-in-Dump-clause-after : goal.returns-in-Dump-clause-after
returns-in-Dump-clause-after g c = on_ok _ _ (dump-after _ _ _ _ c.in-Dump.is)
