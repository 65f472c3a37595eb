use Rattle.std.proofs.Common.{◌∙◌, refl, arith}
use Rattle.xe_ctx.proofs.Walks.{marks-step, marks-end}
use Rattle.xe_ctx.proofs.machine.Machine.mark_each.Goals as goal

pub loop-i-preserved : goal.loop-i-preserved
loop-i-preserved c = record {
  state = c.set_bits.ensures.state ∙ c.loop-i.invariant.state;
  made = c.set_bits.ensures.made ∙ c.loop-i.invariant.made;
  cells = c.set_bits.ensures.cells;
  room = omega (arith, c.set_bits.ensures.room, c.loop-i.invariant.room);
  work = marks-step _ _ _ _ _ _ _ _ (record { pa = 0; size = 0; value = 0 }) c.loop-i-test.true refl c.entry_bits.ensures c.set_bits.ensures.work c.loop-i.invariant.work;
}

pub returns-clause-work : goal.returns-clause-work
returns-clause-work c = marks-end _ _ _ _ _ c.loop-i-test.false c.loop-i.invariant.work
