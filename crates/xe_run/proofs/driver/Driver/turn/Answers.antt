use Rattle.std.proofs.Common.{sym, ap, ◌∙◌}
use Rattle.xe_run.specs.Drive.{turn}
use Rattle.xe_run.specs.Driver.{world}
use Rattle.xe_run.proofs.ToldLaws.{writes_err}
use Rattle.xe_run.proofs.WorldLaws.{turn-after}
use Rattle.xe_run.proofs.driver.Driver.turn.Goals as goal

pub returns-in_err-tell_turn-clause-writes : goal.returns-in_err-tell_turn-clause-writes
returns-in_err-tell_turn-clause-writes g c =
    let told = ap (λ n. turn n (world c.args.self.now)) (sym c.next-most.ensures.value) ∙ c.take_turn.ensures.turn in
    rw (told, ← c.as_slice.ensures.value, ← c.cpu.ensures.value, ← c.cpu-2.ensures.value) (writes_err _ _ _ _ c.from_residual.ensures.0 c.in_err-tell_turn.ensures.writes)

pub returns-clause-goes_on : goal.returns-clause-goes_on
returns-clause-goes_on g c =
    let told = ap (λ n. turn n (world c.args.self.now)) (sym c.next-most.ensures.value) ∙ c.take_turn.ensures.turn in
    rw told c.goes_on.ensures

pub returns-clause-steps : goal.returns-clause-steps
returns-clause-steps g c =
    let told = ap (λ n. turn n (world c.args.self.now)) (sym c.next-most.ensures.value) ∙ c.take_turn.ensures.turn in
    sym (ap (λ t. t.steps) told)

pub returns-clause-after : goal.returns-clause-after
returns-clause-after g c =
    let told = ap (λ n. turn n (world c.args.self.now)) (sym c.next-most.ensures.value) ∙ c.take_turn.ensures.turn in
    turn-after _ (world c.args.self.now) (world c.take_turn.new.self) _ _ told c.take_turn.ensures.draft c.take_turn.ensures.icpt (ap (λ b. b.most) c.take_turn.ensures.batch) (c.take_turn.ensures.kept ∙ sym c.requires.kept)

pub returns-clause-writes : goal.returns-clause-writes
returns-clause-writes g c =
    let told = ap (λ n. turn n (world c.args.self.now)) (sym c.next-most.ensures.value) ∙ c.take_turn.ensures.turn in
    rw (told, ← c.as_slice.ensures.value, ← c.cpu.ensures.value, ← c.cpu-2.ensures.value) c.in_ok-tell_turn.ensures.writes
