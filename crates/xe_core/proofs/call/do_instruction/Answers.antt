use Rattle.std.proofs.Common.{◌∙◌, [], ap, refl, rules, subst, sym}
use Rattle.xe_base.specs.Calm.{Calm}
use Rattle.xe_base.specs.State.{Valid}
use Rattle.xe_ctx.specs.Operand.{IsOf}
use Rattle.xe_ctx.specs.State.{State}
use Rattle.xe_core.specs.Emulate.{fetched}
use Rattle.xe_core.specs.Step.{tf, outcome_of}
use Rattle.xe_core.specs.Tried.{told_by}
use Rattle.xe_core.proofs.CallLaws.{starts_so, stop-not-done, came_finish, came_stop, came_sound, came_calm, keeps_so, stopped_keeps, judged-reached, judged-early, judged-undone, went_no_further, call_finished, call_ended}
use Rattle.xe_core.proofs.call.do_instruction.Goals as goal

-- one that finished
pub retired-retire-requires : goal.retired-retire-requires
retired-retire-requires g c =
    let starts = starts_so _ _ _ _ _ _ c.begin-ctx.ensures.start c.begin-ctx.ensures.state in
    let draft = c.requires.draft ∙ sym (ap (λ (s : State). s.cpu) c.begin-ctx.ensures.state) in
    let registers = ap (λ (s : State). s.cpu) c.accept.ensures.same.state in
    let valid : Valid c.args.cpu.now = search rules in
    (came_sound _ _ _ _ _ _ _ _ starts (c.requires.found ∙ ap fetched (sym c.begin-ctx.ensures.state)) (subst (λ (s : State). IsOf s.cpu c.args.insn.now) (sym c.begin-ctx.ensures.state) c.requires.of_code) refl c.accept.ensures.step registers _ _ c.exec.ensures.part _ c.in-Ok.is (subst Valid draft valid)).retire

pub take_effect-requires-clause-valid : goal.take_effect-requires-clause-valid
take_effect-requires-clause-valid g c =
    let starts = starts_so _ _ _ _ _ _ c.begin-ctx.ensures.start c.begin-ctx.ensures.state in
    let draft = c.requires.draft ∙ sym (ap (λ (s : State). s.cpu) c.begin-ctx.ensures.state) in
    let registers = ap (λ (s : State). s.cpu) c.accept.ensures.same.state in
    let valid : Valid c.args.cpu.now = search rules in
    (came_sound _ _ _ _ _ _ _ _ starts (c.requires.found ∙ ap fetched (sym c.begin-ctx.ensures.state)) (subst (λ (s : State). IsOf s.cpu c.args.insn.now) (sym c.begin-ctx.ensures.state) c.requires.of_code) refl c.accept.ensures.step registers _ _ c.exec.ensures.part _ c.in-Ok.is (subst Valid draft valid)).valid

pub take_effect-requires-clause-calm : goal.take_effect-requires-clause-calm
take_effect-requires-clause-calm g c =
    let starts = starts_so _ _ _ _ _ _ c.begin-ctx.ensures.start c.begin-ctx.ensures.state in
    let draft = c.requires.draft ∙ sym (ap (λ (s : State). s.cpu) c.begin-ctx.ensures.state) in
    let registers = ap (λ (s : State). s.cpu) c.accept.ensures.same.state in
    let valid : Valid c.args.cpu.now = search rules in
    let same = c.exec.ensures.same.state ∙ c.accept.ensures.same.state in
    λ calm. subst (λ (s : State). Calm s.cpu c.exec.new.cpu) (sym same) (came_calm _ _ _ _ _ _ _ _ starts (c.requires.found ∙ ap fetched (sym c.begin-ctx.ensures.state)) (subst (λ (s : State). IsOf s.cpu c.args.insn.now) (sym c.begin-ctx.ensures.state) c.requires.of_code) refl c.accept.ensures.step registers _ _ c.exec.ensures.part _ c.in-Ok.is (subst Valid draft valid) calm)

pub returns-then-has_reached_all-clause-did : goal.returns-then-has_reached_all-clause-did
returns-then-has_reached_all-clause-did g c =
    let starts = starts_so _ _ _ _ _ _ c.begin-ctx.ensures.start c.begin-ctx.ensures.state in
    let draft = c.requires.draft ∙ sym (ap (λ (s : State). s.cpu) c.begin-ctx.ensures.state) in
    let registers = ap (λ (s : State). s.cpu) c.accept.ensures.same.state in
    let tried = came_finish _ _ _ _ _ _ _ _ starts (c.requires.found ∙ ap fetched (sym c.begin-ctx.ensures.state)) (subst (λ (s : State). IsOf s.cpu c.args.insn.now) (sym c.begin-ctx.ensures.state) c.requires.of_code) refl c.accept.ensures.step registers _ _ c.exec.ensures.part _ _ _ c.in-Ok.is (c.is_trapped-is_trapped.ensures ∙ ap tf draft) c.retired-retire.ensures in
    record {
      report = told_by _ _ _;
      reports = call_finished _ _ _ _ _ _ _ _ _ _ _ _ c.args.rec.now.kept c.begin-ctx.ensures.start c.begin-ctx.ensures.state tried (judged-reached _ _ _ _ (c.has_reached_all.ensures.reached c.if-has_reached_all.true)) refl c.exec.ensures.is_open.agrees _ _ _ _ refl (search rules) (search rules) (search rules);
      went = rw c.made-made.ensures.value at c.go_on-next.ensures;
    }

-- one that finished before it had reached all of its record
pub returns-else-has_reached_all-clause-did : goal.returns-else-has_reached_all-clause-did
returns-else-has_reached_all-clause-did g c =
    let starts = starts_so _ _ _ _ _ _ c.begin-ctx.ensures.start c.begin-ctx.ensures.state in
    let draft = c.requires.draft ∙ sym (ap (λ (s : State). s.cpu) c.begin-ctx.ensures.state) in
    let registers = ap (λ (s : State). s.cpu) c.accept.ensures.same.state in
    let tried = came_finish _ _ _ _ _ _ _ _ starts (c.requires.found ∙ ap fetched (sym c.begin-ctx.ensures.state)) (subst (λ (s : State). IsOf s.cpu c.args.insn.now) (sym c.begin-ctx.ensures.state) c.requires.of_code) refl c.accept.ensures.step registers _ _ c.exec.ensures.part _ _ _ c.in-Ok.is (c.is_trapped-is_trapped.ensures ∙ ap tf draft) c.retired-retire.ensures in
    let undone = judged-early _ _ _ _ (c.has_reached_all.ensures.rest c.if-has_reached_all.false) in
    let same = c.exec.ensures.same.state ∙ c.accept.ensures.same.state ∙ c.begin-ctx.ensures.state in
    record {
      report = told_by _ _ _;
      reports = call_ended _ _ _ _ _ _ _ _ _ _ _ _ c.args.rec.now.kept c.begin-ctx.ensures.start c.begin-ctx.ensures.state tried refl undone c.exec.ensures.is_open.agrees _ _ _ _ refl (search (rules, same)) (search rules) (search rules);
      went = went_no_further _ _ _ _ _ _ undone c.give_up_early.ensures.told;
    }

-- one that stopped
pub halt-requires-clause-keeps : goal.halt-requires-clause-keeps
halt-requires-clause-keeps g c =
    let starts = starts_so _ _ _ _ _ _ c.begin-ctx.ensures.start c.begin-ctx.ensures.state in
    let registers = ap (λ (s : State). s.cpu) c.accept.ensures.same.state in
    let tried = came_stop _ _ _ _ _ _ _ _ starts (c.requires.found ∙ ap fetched (sym c.begin-ctx.ensures.state)) (subst (λ (s : State). IsOf s.cpu c.args.insn.now) (sym c.begin-ctx.ensures.state) c.requires.of_code) refl c.accept.ensures.step registers _ _ c.exec.ensures.part _ [] _ c.in-Err.is refl in
    keeps_so _ _ _ _ _ _ _ _ _ _ _ _ c.args.rec.now.kept c.begin-ctx.ensures.start c.begin-ctx.ensures.state tried refl

pub halt-requires-clause-stood : goal.halt-requires-clause-stood
halt-requires-clause-stood g c =
    let starts = starts_so _ _ _ _ _ _ c.begin-ctx.ensures.start c.begin-ctx.ensures.state in
    let registers = ap (λ (s : State). s.cpu) c.accept.ensures.same.state in
    let tried = came_stop _ _ _ _ _ _ _ _ starts (c.requires.found ∙ ap fetched (sym c.begin-ctx.ensures.state)) (subst (λ (s : State). IsOf s.cpu c.args.insn.now) (sym c.begin-ctx.ensures.state) c.requires.of_code) refl c.accept.ensures.step registers _ _ c.exec.ensures.part _ [] _ c.in-Err.is refl in
    stopped_keeps _ _ _ tried.moves.stood

pub returns-in-Err-clause-did : goal.returns-in-Err-clause-did
returns-in-Err-clause-did g c =
    let starts = starts_so _ _ _ _ _ _ c.begin-ctx.ensures.start c.begin-ctx.ensures.state in
    let registers = ap (λ (s : State). s.cpu) c.accept.ensures.same.state in
    let tried = came_stop _ _ _ _ _ _ _ _ starts (c.requires.found ∙ ap fetched (sym c.begin-ctx.ensures.state)) (subst (λ (s : State). IsOf s.cpu c.args.insn.now) (sym c.begin-ctx.ensures.state) c.requires.of_code) refl c.accept.ensures.step registers _ _ c.exec.ensures.part _ [] _ c.in-Err.is refl in
    let undone = judged-undone (outcome_of c.in-Err.stop) _ _ (stop-not-done c.in-Err.stop) in
    let same = c.exec.ensures.same.state ∙ c.accept.ensures.same.state ∙ c.begin-ctx.ensures.state in
    record {
      report = told_by _ _ _;
      reports = call_ended _ _ _ _ _ _ _ _ _ _ _ _ c.args.rec.now.kept c.begin-ctx.ensures.start c.begin-ctx.ensures.state tried refl undone c.exec.ensures.is_open.agrees _ _ _ _ refl (search (rules, same)) (search rules) (search rules);
      went = went_no_further _ _ _ _ _ _ undone c.halt.ensures.told;
    }
