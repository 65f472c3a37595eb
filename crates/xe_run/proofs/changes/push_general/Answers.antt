use Rattle.std.proofs.Common.{◌≡◌, ◌++◌, ap, ◌∙◌, arith, List, ℕ}
use Rattle.xe_run.specs.Changes.{general_change}
use Rattle.xe_run.proofs.ChangeLaws.{one-more, general-whole}
use Rattle.xe_run.proofs.changes.push_general.Goals as goal

pub loop-number-preserved : goal.loop-number-preserved
loop-number-preserved c = record {
  text = c.push_number.ensures.text ∙ rw (c.loop-number.invariant.text, c.general_name.ensures.name) (one-more (general_change c.args.old.now c.args.new.now) c.args.line.now c.loop-number.number);
  len = omega (arith, c.loop-number.invariant.len, c.push_number.ensures.len);
}

pub returns-clause-text : goal.returns-clause-text
returns-clause-text c =
    let all : c.loop-number.number ≡ 16 = omega arith in
    c.loop-number.invariant.text ∙ rw all (ap (λ (x : List ℕ). c.args.line.now ++ x) (general-whole c.args.old.now c.args.new.now))
