use Rattle.std.proofs.Common.{sym, ◌∙◌}
use Rattle.xe_run.proofs.DriveLaws.{nothing-written}
use Rattle.xe_run.proofs.WorldLaws.{steps-done, steps-none, steps-some}
use Rattle.xe_run.proofs.turn.tell_steps.Goals as goal

pub returns-then-is_done-clause-writes : goal.returns-then-is_done-clause-writes
returns-then-is_done-clause-writes g c = nothing-written _ _ (steps-done _ _ _ _ _ (sym c.is_done.ensures ∙ c.if-is_done.true))

pub returns-then-report-eq0-clause-writes : goal.returns-then-report-eq0-clause-writes
returns-then-report-eq0-clause-writes g c = nothing-written _ _ (steps-none _ _ _ _ _ (sym c.is_done.ensures ∙ c.if-is_done.false) c.if-report-eq0.true)

pub returns-clause-writes : goal.returns-clause-writes
returns-clause-writes g c = rw (steps-some c.args.before.now c.args.after.now c.args.report.now.elements c.args.report.now.finished c.args.report.now.outcome (sym c.is_done.ensures ∙ c.if-is_done.false) c.if-report-eq0.false) c.print_step.ensures.writes
