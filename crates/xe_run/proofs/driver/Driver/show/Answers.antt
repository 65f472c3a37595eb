use Rattle.std.proofs.Common.{◌≡◌, ap, sym, ◌∙◌, List}
use Rattle.xe_ctx.specs.State.{State}
use Rattle.xe_run.specs.Drive.{Did, show_command, redrafted}
use Rattle.xe_run.specs.Driver.{world}
use Rattle.xe_run.specs.Text.{text, line_of}
use Rattle.xe_run.specs.declared.event.Event.{Event}
use Rattle.xe_run.specs.declared.event.Event.TheVariants.{BadState}
use Rattle.xe_run.proofs.DriveLaws.{answered_ok, answered_err, show-valid, show-broken, on_ok}
use Rattle.xe_run.proofs.TextLaws.{text-one}
use Rattle.xe_run.proofs.driver.Driver.show.Goals as goal

pub returns-in-Ok-clause-after : goal.returns-in-Ok-clause-after
returns-in-Ok-clause-after g c =
    let w = world c.args.self.now in
    let did = show-valid w (answered_ok _ _ c.in-Ok.ensures.answer) in
    on_ok _ _ (ap (λ (m : State). record w { machine = m }) c.in-Ok.ensures.ok ∙ sym (ap (λ (d : Did). d.after) did))

pub returns-in-Ok-clause-writes : goal.returns-in-Ok-clause-writes
returns-in-Ok-clause-writes g c =
    let w = world c.args.self.now in
    let did = show-valid w (answered_ok _ _ c.in-Ok.ensures.answer) in
    let events : text (show_command w).events ≡ text c.shown.result = ap (λ (d : Did). text d.events) did ∙ ap (λ (es : List Event). text es) (sym c.shown.ensures) in
    rw events c.print_all.ensures.writes

pub returns-in-Err-clause-after : goal.returns-in-Err-clause-after
returns-in-Err-clause-after g c =
    let w = world c.args.self.now in
    let stays = ap (λ (m : State). record w { machine = m }) c.in-Err.ensures.err in
    let did = show-broken w c.in-Err.bad.rule (answered_err _ _ c.in-Err.ensures.answer) in
    on_ok _ _ (c.refuse.ensures.after ∙ ap redrafted stays ∙ sym (ap (λ (d : Did). d.after) did))

pub returns-in-Err-clause-writes : goal.returns-in-Err-clause-writes
returns-in-Err-clause-writes g c =
    let did = show-broken (world c.args.self.now) c.in-Err.bad.rule (answered_err _ _ c.in-Err.ensures.answer) in
    let one : text (show_command (world c.args.self.now)).events ≡ line_of (BadState c.in-Err.bad.rule) = ap (λ (d : Did). text d.events) did ∙ text-one (BadState c.in-Err.bad.rule) in
    rw one c.refuse.ensures.writes
