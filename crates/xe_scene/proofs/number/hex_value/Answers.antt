use Rattle.std.proofs.Common.{arith, ◌∙◌}
use Rattle.xe_scene.proofs.NumberLaws.{hex_step, hex_stop, hex_end, hex_below, hex_fits}
use Rattle.xe_scene.proofs.number.hex_value.Goals as goal

pub overflow_mul-n : goal.overflow_mul-n
overflow_mul-n c = omega (arith, hex_fits c.loop-c.c-index c.loop-c.n 0 (omega arith) c.loop-c.invariant.below (omega arith))

pub overflow_add-n : goal.overflow_add-n
overflow_add-n c = omega (arith, hex_fits c.loop-c.c-index c.loop-c.n c.from.result (omega arith) c.loop-c.invariant.below (omega (arith, c.in_ok-hex_digit.ensures.small)))

pub returns-in_err-hex_digit : goal.returns-in_err-hex_digit
returns-in_err-hex_digit c = c.from_residual.ensures ∙ hex_stop c.args.word.now c.loop-c.c-index c.loop-c.n c.loop-c-test.true c.in_err-hex_digit.ensures.value ∙ c.loop-c.invariant.so_far

pub loop-c-preserved : goal.loop-c-preserved
loop-c-preserved c = record {
  so_far = rw c.from.ensures (hex_step c.args.word.now c.loop-c.c-index c.loop-c.n c.in_ok-hex_digit.field-0 c.loop-c-test.true c.in_ok-hex_digit.ensures.value ∙ c.loop-c.invariant.so_far);
  below = hex_below c.loop-c.c-index c.loop-c.n c.from.result c.loop-c.invariant.below (omega (arith, c.in_ok-hex_digit.ensures.small));
}

pub returns : goal.returns
returns c = hex_end c.args.word.now c.loop-c.c-index c.loop-c.n (omega arith) ∙ c.loop-c.invariant.so_far
