use Rattle.std.proofs.Common.{arith, ◌∙◌}
use Rattle.xe_scene.proofs.NumberLaws.{decimal_step, decimal_stop, decimal_end}
use Rattle.xe_scene.proofs.number.decimal_value.Goals as goal

pub returns-in_err-decimal_digit : goal.returns-in_err-decimal_digit
returns-in_err-decimal_digit c = c.from_residual.ensures ∙ decimal_stop 1000001 c.args.word.now c.loop-c.c-index c.loop-c.n c.loop-c-test.true c.in_err-decimal_digit.ensures.value ∙ c.loop-c.invariant.so_far

pub loop-c-preserved : goal.loop-c-preserved
loop-c-preserved c = record {
  so_far = decimal_step 1000001 c.args.word.now c.loop-c.c-index c.loop-c.n c.in_ok-decimal_digit.field-0 c.min-n.result c.loop-c-test.true c.in_ok-decimal_digit.ensures.value (omega (arith, c.min-n.ensures, c.from.ensures)) ∙ c.loop-c.invariant.so_far;
  below = omega (arith, c.min-n.ensures);
}

pub returns : goal.returns
returns c = decimal_end 1000001 c.args.word.now c.loop-c.c-index c.loop-c.n (omega arith) c.loop-c.invariant.below ∙ c.loop-c.invariant.so_far
