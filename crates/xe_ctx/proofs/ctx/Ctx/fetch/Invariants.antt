use Rattle.std.proofs.Common.{◌≡◌, ◌≤◌, ◌-◌, length, take}
use Rattle.xe_ctx.specs.Fetch.{avail}
use Rattle.xe_ctx.specs.Machine.{state_of}
use Rattle.xe_ctx.specs.View.{OnlyCode}
use Rattle.xe_ctx.proofs.ctx.Ctx.fetch.Given as goal

abbrev pub invariant-more : goal.invariant-more
invariant-more g l = record {
  only : OnlyCode l.fn.self l.self;
  grows : length l.fn.self.code.items ≤ length l.self.code.items;
  code_ : l.self.code.items ≡ take (length l.self.code.items) (avail (state_of l.fn.self.m.now)).bytes;
}

abbrev pub decreases-more : goal.decreases-more
decreases-more g l = 15 - length l.self.code.items
