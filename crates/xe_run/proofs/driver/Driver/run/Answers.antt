use Rattle.std.proofs.Common.{◌≡◌, ap, sym, ◌∙◌}
use Rattle.xe_ctx.specs.State.{State}
use Rattle.xe_run.specs.Drive.{Did, run_command, redrafted}
use Rattle.xe_run.specs.Driver.{world}
use Rattle.xe_run.specs.Text.{text, line_of}
use Rattle.xe_run.specs.declared.event.Event.TheVariants.{BadState}
use Rattle.xe_run.proofs.DriveLaws.{begun, answered_ok, answered_err, run-events, run-after, run-broken, on_ok}
use Rattle.xe_run.proofs.ToldLaws.{writes_err}
use Rattle.xe_run.proofs.TextLaws.{text-one}
use Rattle.xe_run.proofs.driver.Driver.run.Goals as goal

pub returns-in_err-turns-in-Ok-clause-writes : goal.returns-in_err-turns-in-Ok-clause-writes
returns-in_err-turns-in-Ok-clause-writes g c =
    let w = world c.args.self.now in
    let installed = begun w _ _ c.in-Ok.ensures.ok c.abandon.ensures in
    let events = run-events c.args.steps w _ (answered_ok _ _ c.in-Ok.ensures.answer) installed in
    rw events (writes_err _ _ _ _ c.from_residual.ensures.0 c.in_err-turns-in-Ok.ensures.writes)

pub returns-in_ok-turns-in-Ok-clause-after : goal.returns-in_ok-turns-in-Ok-clause-after
returns-in_ok-turns-in-Ok-clause-after g c =
    let w = world c.args.self.now in
    let installed = begun w _ _ c.in-Ok.ensures.ok c.abandon.ensures in
    let after = run-after c.args.steps w _ (answered_ok _ _ c.in-Ok.ensures.answer) installed in
    c.redraft.ensures.after ∙ ap redrafted c.in_ok-turns-in-Ok.ensures.after ∙ sym after

pub returns-in_ok-turns-in-Ok-clause-writes : goal.returns-in_ok-turns-in-Ok-clause-writes
returns-in_ok-turns-in-Ok-clause-writes g c =
    let w = world c.args.self.now in
    let installed = begun w _ _ c.in-Ok.ensures.ok c.abandon.ensures in
    let events = run-events c.args.steps w _ (answered_ok _ _ c.in-Ok.ensures.answer) installed in
    rw events c.in_ok-turns-in-Ok.ensures.writes

pub returns-in-Err-clause-after : goal.returns-in-Err-clause-after
returns-in-Err-clause-after g c =
    let w = world c.args.self.now in
    let stays = ap (λ (m : State). record w { machine = m }) c.in-Err.ensures.err in
    let did = run-broken c.args.steps w c.in-Err.bad.rule (answered_err _ _ c.in-Err.ensures.answer) in
    on_ok _ _ (c.refuse.ensures.after ∙ ap redrafted stays ∙ sym (ap (λ (d : Did). d.after) did))

pub returns-in-Err-clause-writes : goal.returns-in-Err-clause-writes
returns-in-Err-clause-writes g c =
    let did = run-broken c.args.steps (world c.args.self.now) c.in-Err.bad.rule (answered_err _ _ c.in-Err.ensures.answer) in
    let one : text (run_command c.args.steps (world c.args.self.now)).events ≡ line_of (BadState c.in-Err.bad.rule) = ap (λ (d : Did). text d.events) did ∙ text-one (BadState c.in-Err.bad.rule) in
    rw one c.refuse.ensures.writes
