use Rattle.std.proofs.Common.{◌≡◌, [], ap, arith, length}
use Rattle.std.proofs.lemmas.List.{length-take}
use Rattle.std.proofs.lemmas.List.Elements.{All-push}
use Rattle.xe_base.specs.Access.{IsWellMade}
use Rattle.xe_ctx.proofs.Records.{asked-is, asked-some}
use Rattle.xe_ctx.proofs.record.Record.keep.Goals as goal

pub invariant_of-self-in-loop-m : goal.invariant_of-self-in-loop-m
invariant_of-self-in-loop-m c = record {
  kept = record {
    well_made = rw c.push.ensures.items (All-push IsWellMade _ _ c.loop-m.self.kept.well_made (c.requires.well_made _ _ c.loop-m-test.true));
    well_formed = λ a e. asked-is c.loop-m.self.asked c.args.asked a c.loop-m.invariant.asked_ e c.requires.well_formed;
    few = omega (arith, c.push.ensures.len, ap length c.loop-m.invariant.answers, length-take c.loop-m.m-index c.args.made.now, c.loop-m-test.true, c.requires.few);
    empty = λ e. asked-some c.loop-m.self.asked c.args.asked (c.push.new.self.items ≡ []) c.loop-m.invariant.asked_ e;
  };
}
