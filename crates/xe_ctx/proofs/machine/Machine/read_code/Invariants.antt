use Rattle.std.proofs.Common.{◌≡◌, ◌-◌, length, take}
use Rattle.xe_ctx.specs.Fetch.{avail}
use Rattle.xe_ctx.specs.Machine.{state_of}
use Rattle.xe_ctx.proofs.machine.Machine.read_code.Given as goal

abbrev pub invariant-more : goal.invariant-more
invariant-more l = l.code.items ≡ take (length l.code.items) (avail (state_of l.self)).bytes

abbrev pub decreases-more : goal.decreases-more
decreases-more l = 15 - length l.code.items
