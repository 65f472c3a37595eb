use Rattle.std.proofs.Common.{length, refl, sym, ap, ◌∙◌, arith}
use Rattle.xe_icpt.specs.SvmSet.{svm_hit}
use Rattle.xe_ctx.specs.Machine.{state_of}
use Rattle.xe_ctx.specs.Recorded.{kept_of}
use Rattle.xe_scene.specs.Script.{tape_of}
use Rattle.xe_run.specs.Drive.{hits_of}
use Rattle.xe_run.specs.Driver.{world}
use Rattle.xe_run.specs.Reported.{reported}
use Rattle.xe_run.proofs.TurnLaws.{Says, says-as}
use Rattle.xe_run.proofs.WorldLaws.{asked-first, asked-again, asked-suspends, ahead-less, turn-told, room-begins, room-stays, row-before, undone-pending}
use Rattle.xe_run.proofs.driver.Driver.take_turn.Goals as goal

pub asking-init : goal.asking-init
asking-init c =
    let says : Says (hits_of (world c.args.self.now)) c.args.most (state_of c.args.self.now.machine) (kept_of c.args.self.now.suspended) (tape_of c.begin.new.self) c.emulate_into.new.report (state_of c.emulate_into.new.m) (kept_of c.emulate_into.new.rec) (tape_of c.emulate_into.new.bus) = record {
      led_ = c.emulate_into.ensures.led;
      fitting = c.emulate_into.ensures.fitting;
      asks = c.emulate_into.ensures.asks;
      stands = c.emulate_into.ensures.stands;
      plays = λ same. c.emulate_into.ensures.plays _ refl same;
      fits = c.emulate_into.ensures.fits;
      most = c.is_pending-pending.ensures.few;
    } in
    let asked = asked-first c.args.most (world c.args.self.now) c.clear.new.self.items _ _ _ _ _ _ c.clear.ensures c.requires.kept c.begin.ensures.tape says in
    record {
      row_ = says.led_.row;
      asked = rw c.steps_before-elements.ensures asked;
      row_is = row-before _ _ _ _ says.led_.finished;
      few = rw c.steps_before-elements.ensures (omega (arith, says.led_.within, c.requires.few));
      pending_is = c.is_pending-pending.ensures.value;
      most = c.is_pending-pending.ensures.few;
      log_ = λ p. room-begins _ _ _ _ _ c.begin.ensures.room c.emulate_into.ensures.room (ap (λ k. length k.answers) c.requires.kept) (asked-suspends _ _ _ _ _ _ _ _ _ _ asked p).keeps;
      draft = refl;
      icpt = refl;
      batch = refl;
      room = λ k. c.emulate_into.ensures.spare k ∙ c.begin.ensures.spare k;
    }

pub note_wait-requires-clause-reached : goal.note_wait-requires-clause-reached
note_wait-requires-clause-reached c =
    rw c.answers-at.ensures.value (asked-suspends _ _ _ _ _ _ _ _ _ _ c.asking.invariant.asked (sym c.asking.invariant.pending_is ∙ c.asking-test.true)).reached

pub asking-smaller : goal.asking-smaller
asking-smaller c =
    let here : Says (svm_hit c.asking.self.icpt) 1 (state_of c.asking.self.machine) (kept_of c.asking.self.suspended) (tape_of c.asking.self.bus) c.emulate_into-in-asking.new.report (state_of c.emulate_into-in-asking.new.m) (kept_of c.emulate_into-in-asking.new.rec) (tape_of c.emulate_into-in-asking.new.bus) = record {
      led_ = c.emulate_into-in-asking.ensures.led;
      fitting = c.emulate_into-in-asking.ensures.fitting;
      asks = c.emulate_into-in-asking.ensures.asks;
      stands = c.emulate_into-in-asking.ensures.stands;
      plays = λ same. c.emulate_into-in-asking.ensures.plays _ refl same;
      fits = c.emulate_into-in-asking.ensures.fits;
      most = c.is_pending-pending-in-asking.ensures.few;
    } in
    let says = says-as _ _ _ _ _ _ _ _ _ _ (ap svm_hit c.asking.invariant.icpt) here in
    ahead-less _ _ _ _ _ _ _ _ _ _ _ _ _ _ _ c.asking.invariant.asked (sym c.asking.invariant.pending_is ∙ c.asking-test.true) (rw c.answers-at.ensures.value at c.answers-at.ensures.few) (rw c.answers-at.ensures.value at c.note_wait.ensures.len) (rw c.answers-at.ensures.value at c.note_wait.ensures.before) (rw c.answers-at.ensures.value at c.note_wait.ensures.here) says

pub asking-preserved : goal.asking-preserved
asking-preserved c =
    let here : Says (svm_hit c.asking.self.icpt) 1 (state_of c.asking.self.machine) (kept_of c.asking.self.suspended) (tape_of c.asking.self.bus) c.emulate_into-in-asking.new.report (state_of c.emulate_into-in-asking.new.m) (kept_of c.emulate_into-in-asking.new.rec) (tape_of c.emulate_into-in-asking.new.bus) = record {
      led_ = c.emulate_into-in-asking.ensures.led;
      fitting = c.emulate_into-in-asking.ensures.fitting;
      asks = c.emulate_into-in-asking.ensures.asks;
      stands = c.emulate_into-in-asking.ensures.stands;
      plays = λ same. c.emulate_into-in-asking.ensures.plays _ refl same;
      fits = c.emulate_into-in-asking.ensures.fits;
      most = c.is_pending-pending-in-asking.ensures.few;
    } in
    let says = says-as _ _ _ _ _ _ _ _ _ _ (ap svm_hit c.asking.invariant.icpt) here in
    let pending = sym c.asking.invariant.pending_is ∙ c.asking-test.true in
    let asked = asked-again _ _ _ _ _ _ _ _ _ _ _ _ _ _ _ c.asking.invariant.asked pending (rw c.answers-at.ensures.value at c.answers-at.ensures.few) (rw c.answers-at.ensures.value at c.note_wait.ensures.len) (rw c.answers-at.ensures.value at c.note_wait.ensures.before) (rw c.answers-at.ensures.value at c.note_wait.ensures.here) says in
    record {
      row_ = c.asking.invariant.row_;
      asked = asked.0;
      row_is = λ _. c.asking.invariant.row_is (undone-pending _ pending);
      few = c.asking.invariant.few;
      pending_is = c.is_pending-pending-in-asking.ensures.value;
      most = c.is_pending-pending-in-asking.ensures.few;
      log_ = λ p. (let sus = asked.1 p in room-stays _ _ _ _ _ (c.asking.invariant.log_ pending) c.emulate_into-in-asking.ensures.room sus.more sus.keeps);
      draft = c.asking.invariant.draft;
      icpt = c.asking.invariant.icpt;
      batch = c.asking.invariant.batch;
      room = λ k. c.emulate_into-in-asking.ensures.spare k ∙ c.asking.invariant.room k;
    }

pub returns-clause-turn : goal.returns-clause-turn
returns-clause-turn c =
    turn-told _ _ _ _ _ _ _ _ _ _ _ c.asking.invariant.asked (sym c.asking.invariant.pending_is ∙ c.asking-test.false) c.asking.invariant.row_is ∙ ap (λ r. reported r c.asking.self.waits.items (state_of c.asking.self.machine) (tape_of c.asking.self.bus)) (sym c.lead.ensures)
