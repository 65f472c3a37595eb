use Rattle.std.proofs.Common.{◌≡◌, ◌++◌, ◌∙◌, arith, codes}
use Rattle.xe_run.specs.Shown.{general_shown}
use Rattle.xe_run.proofs.ChangeLaws.{one-more, shown-whole}
use Rattle.xe_run.proofs.shown.push_general.Goals as goal

pub loop-number-preserved : goal.loop-number-preserved
loop-number-preserved c = record {
  text = c.push_named.ensures.text ∙ rw (c.loop-number.invariant.text, c.general_name.ensures.name) (one-more (general_shown c.args.gpr.now) (c.args.line.now ++ codes "gpr") c.loop-number.number);
  len = omega (arith, c.loop-number.invariant.len, c.push_named.ensures.len, c.general_name.ensures.short);
}

pub returns-clause-text : goal.returns-clause-text
returns-clause-text c =
    let all : c.loop-number.number ≡ 16 = omega arith in
    c.loop-number.invariant.text ∙ rw all (shown-whole c.args.line.now c.args.gpr.now)
