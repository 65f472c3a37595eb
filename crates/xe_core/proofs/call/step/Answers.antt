use Rattle.std.proofs.Common.{◌∙◌, ap, false, refl, rules, subst, sym, Ok}
use Rattle.xe_base.specs.Calm.{Calm}
use Rattle.xe_base.specs.State.{Valid}
use Rattle.xe_ctx.specs.Recorded.{kept_of}
use Rattle.xe_ctx.specs.State.{State}
use Rattle.xe_core.specs.Step.{tf}
use Rattle.xe_core.specs.Tried.{told_by}
use Rattle.xe_core.proofs.CallLaws.{starts_so, came_finish, came_calm, judged-reached, call_finished, still_unused}
use Rattle.xe_core.proofs.call.step.Goals as goal

-- it is done at once
pub commit_calm-requires-clause-calm : goal.commit_calm-requires-clause-calm
commit_calm-requires-clause-calm g c =
    let starts = starts_so _ _ _ _ _ _ c.begin-ctx.ensures.start c.begin-ctx.ensures.state in
    let draft = c.requires.draft ∙ sym (ap (λ (s : State). s.cpu) c.begin-ctx.ensures.state) in
    let registers = ap (λ (s : State). s.cpu) c.accept.ensures.same.state in
    let valid : Valid c.args.cpu.now = search rules in
    let done = c.exec_at_once.ensures.row.done (search rules) in
    let calm = came_calm _ _ _ _ _ _ _ _ starts c.in-Some.ensures.value c.in-Some.ensures.insn refl c.accept.ensures.step registers (Ok (record { more = false; retire = 0 })) c.exec_at_once.new.cpu done.part (record { more = false; retire = 0 }) refl (subst Valid draft valid) (c.exec_at_once.ensures.calm (search rules)) in
    subst (λ (s : State). Calm s.cpu c.exec_at_once.new.cpu) (sym (done.same.state ∙ c.accept.ensures.same.state)) calm

pub commit_calm-requires-clause-reached : goal.commit_calm-requires-clause-reached
commit_calm-requires-clause-reached g c =
    let done = c.exec_at_once.ensures.row.done (search rules) in
    still_unused _ _ _ _ c.begin-ctx.result.rec.now.kept (ap (λ v. v.step.made) c.begin-ctx.ensures.start) (c.has_reached_all-is_fresh.ensures.reached (search rules)) (ap kept_of (done.same.record_is ∙ c.accept.ensures.same.record_is))

pub returns-clause-did : goal.returns-clause-did
returns-clause-did g c =
    let starts = starts_so _ _ _ _ _ _ c.begin-ctx.ensures.start c.begin-ctx.ensures.state in
    let draft = c.requires.draft ∙ sym (ap (λ (s : State). s.cpu) c.begin-ctx.ensures.state) in
    let registers = ap (λ (s : State). s.cpu) c.accept.ensures.same.state in
    let done = c.exec_at_once.ensures.row.done (search rules) in
    let tried = came_finish _ _ _ _ _ _ _ _ starts c.in-Some.ensures.value c.in-Some.ensures.insn refl c.accept.ensures.step registers (Ok (record { more = false; retire = 0 })) c.exec_at_once.new.cpu done.part (record { more = false; retire = 0 }) _ _ refl (c.is_trapped-is_trapped.ensures ∙ ap tf draft) c.retired-retire.ensures in
    let reached = still_unused _ _ _ _ c.begin-ctx.result.rec.now.kept (ap (λ v. v.step.made) c.begin-ctx.ensures.start) (c.has_reached_all-is_fresh.ensures.reached (search rules)) (ap kept_of (done.same.record_is ∙ c.accept.ensures.same.record_is)) in
    record {
      report = told_by _ _ _;
      reports = call_finished _ _ _ _ _ _ _ _ _ _ _ _ c.args.rec.now.kept c.begin-ctx.ensures.start c.begin-ctx.ensures.state tried (judged-reached _ _ _ _ reached) refl done.is_open.agrees _ _ _ _ refl (search rules) (search rules) (search rules);
      went = rw c.made-made.ensures.value at c.go_on-next.ensures;
    }
