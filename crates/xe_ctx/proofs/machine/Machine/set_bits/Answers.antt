use Rattle.xe_ctx.proofs.Walks.{one-ram, bits-written, bits-there}
use Rattle.xe_ctx.proofs.machine.Machine.set_bits.Goals as goal

pub write-requires-clause-ram : goal.write-requires-clause-ram
write-requires-clause-ram c = one-ram _ _ c.requires.ram

pub returns-then-new-byte-clause-work : goal.returns-then-new-byte-clause-work
returns-then-new-byte-clause-work c = bits-written _ _ _ _ _ c.byte-byte.ensures c.write.ensures.work

pub returns-else-new-byte-clause-work : goal.returns-else-new-byte-clause-work
returns-else-new-byte-clause-work c = bits-there _ _ _ _ c.byte-byte.ensures c.if-new-byte.false
