use Rattle.std.proofs.Common.{◌≡◌, ap, sym, ◌∙◌, []}
use Rattle.xe_ctx.specs.State.{State}
use Rattle.xe_run.specs.Drive.{Did, poke_command}
use Rattle.xe_run.specs.Driver.{world}
use Rattle.xe_run.specs.Text.{text, line_of}
use Rattle.xe_run.specs.declared.event.Event.TheVariants.{NotRam}
use Rattle.xe_run.proofs.DriveLaws.{poke-within, poke-outside, on_ok}
use Rattle.xe_run.proofs.ToldLaws.{followed_by-nil}
use Rattle.xe_run.proofs.TextLaws.{text-nil, text-one}
use Rattle.xe_run.proofs.driver.Driver.poke.Goals as goal

pub returns-in-Ok-clause-after : goal.returns-in-Ok-clause-after
returns-in-Ok-clause-after g c =
    let w = world c.args.self.now in
    let did = poke-within c.args.pa c.args.bytes.now w c.in-Ok.ensures.ok in
    ap (λ (m : State). record w { machine = m }) c.in-Ok.ensures.written ∙ sym (ap (λ (d : Did). d.after) did)

pub returns-in-Ok-clause-writes : goal.returns-in-Ok-clause-writes
returns-in-Ok-clause-writes g c =
    let did = poke-within c.args.pa c.args.bytes.now (world c.args.self.now) c.in-Ok.ensures.ok in
    let none : text (poke_command c.args.pa c.args.bytes.now (world c.args.self.now)).events ≡ [] = ap (λ (d : Did). text d.events) did ∙ text-nil in
    rw none (sym (followed_by-nil (g.K.Sink.written c.args.out.now)))

pub returns-in-Err-clause-after : goal.returns-in-Err-clause-after
returns-in-Err-clause-after g c =
    let w = world c.args.self.now in
    let did = poke-outside c.args.pa c.args.bytes.now w c.in-Err.hole.pa c.in-Err.ensures.err in
    on_ok _ _ (ap (λ (m : State). record w { machine = m }) c.in-Err.ensures.stays ∙ sym (ap (λ (d : Did). d.after) did))

pub returns-in-Err-clause-writes : goal.returns-in-Err-clause-writes
returns-in-Err-clause-writes g c =
    let did = poke-outside c.args.pa c.args.bytes.now (world c.args.self.now) c.in-Err.hole.pa c.in-Err.ensures.err in
    let one : text (poke_command c.args.pa c.args.bytes.now (world c.args.self.now)).events ≡ line_of (NotRam c.in-Err.hole.pa) = ap (λ (d : Did). text d.events) did ∙ text-one (NotRam c.in-Err.hole.pa) in
    rw one c.print.ensures.writes
