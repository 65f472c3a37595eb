use Rattle.std.proofs.Common.{◌≡◌, take, Some}
use Rattle.xe_ctx.proofs.record.Record.keep.Given as goal

abbrev pub invariant-loop-m : goal.invariant-loop-m
invariant-loop-m l = record {
  answers : l.self.answers.items ≡ take l.m-index l.made;
  asked_ : l.self.asked ≡ Some l.fn.asked;
}
