use Rattle.std.proofs.Common.{◌∙◌, sym, ap}
use Rattle.xe_icpt.specs.SvmSet.{Svm}
use Rattle.xe_icpt.proofs.SvmRows.{hit-unnamed, hit-unasked, hit-taken, name-test}
use Rattle.xe_icpt.proofs.svm_set.SvmSetIntercepts.check.Goals as goal
use Rattle.xe_icpt.proofs.svm_set.SvmSetIntercepts.check.Goals.{else-contains-via-then-contains+else-asks, else-contains-via-else-contains}

pub returns-then-asks : goal.returns-then-asks
returns-then-asks c =
    let n = name-test c.args.self.now c.args.p.now c.self.inside.names.0 c.name_of.result.0 (ap (λ (s : Svm). s.names) c.self.view_is) c.name_of.ensures in
    sym (hit-taken c.args.self.now c.args.p.now (n ∙ sym (c.contains.ensures tt) ∙ c.if-contains.true) (sym c.asks.ensures ∙ c.if-asks.true) ∙ c.exit_of.ensures)

pub returns-else-contains : goal.returns-else-contains
returns-else-contains c =
    let n = name-test c.args.self.now c.args.p.now c.self.inside.names.0 c.name_of.result.0 (ap (λ (s : Svm). s.names) c.self.view_is) c.name_of.ensures in
    elim c.else-contains.branch [
      | else-contains-via-then-contains+else-asks w ↦ sym (hit-unasked c.args.self.now c.args.p.now (n ∙ sym (c.contains.ensures tt) ∙ w.if-contains.true) (sym w.asks.ensures ∙ w.if-asks.false))
      | else-contains-via-else-contains w ↦ sym (hit-unnamed c.args.self.now c.args.p.now (n ∙ sym (c.contains.ensures tt) ∙ w.if-contains.false))
    ]
