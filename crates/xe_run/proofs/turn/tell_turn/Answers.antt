use Rattle.xe_run.proofs.TextLaws.{text-append}
use Rattle.xe_run.proofs.ToldLaws.{writes_then, writes_fails}
use Rattle.xe_run.specs.Drive.{steps_event}
use Rattle.xe_run.proofs.turn.tell_turn.Goals as goal

pub returns-in_err-tell_steps-clause-writes : goal.returns-in_err-tell_steps-clause-writes
returns-in_err-tell_steps-clause-writes g c =
    rw (text-append (steps_event c.args.before.now c.args.after.now c.args.report.now.elements c.args.report.now.finished c.args.report.now.outcome) _) (writes_fails _ _ _ _ _ c.from_residual.ensures.0 c.in_err-tell_steps.ensures.writes)

pub returns-clause-writes : goal.returns-clause-writes
returns-clause-writes g c =
    rw (text-append (steps_event c.args.before.now c.args.after.now c.args.report.now.elements c.args.report.now.finished c.args.report.now.outcome) _) (writes_then _ _ _ _ _ _ c.in_ok-tell_steps.ensures.writes c.tell_last_of_turn.ensures.writes)
