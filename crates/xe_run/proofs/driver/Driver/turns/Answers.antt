use Rattle.std.proofs.Common.{◌-◌, ◌+◌, sym, refl, ap, ◌∙◌, arith, inl, inr}
use Rattle.xe_run.specs.Driver.{world}
use Rattle.xe_run.proofs.ToldLaws.{progress_more, progress_ends, progress_fails}
use Rattle.xe_run.proofs.WorldLaws.{begins-so, goes-on, stops-here, turns-past, then_nothing, not-zero, is-zero}
use Rattle.xe_run.proofs.driver.Driver.turns.Goals as goal

pub returns-then-left-eq0-clause-after : goal.returns-then-left-eq0-clause-after
returns-then-left-eq0-clause-after g c =
    let past = turns-past (world c.loop-round.self) (c.args.steps - c.loop-round.round) c.loop-round.left (inr (is-zero _ c.if-left-eq0.true)) in
    sym past.1 ∙ c.loop-round.invariant.after

pub returns-then-left-eq0-clause-writes : goal.returns-then-left-eq0-clause-writes
returns-then-left-eq0-clause-writes g c =
    let past = turns-past (world c.loop-round.self) (c.args.steps - c.loop-round.round) c.loop-round.left (inr (is-zero _ c.if-left-eq0.true)) in
    progress_ends _ _ _ _ c.loop-round.invariant.progress past.0

pub returns-in_err-turn-clause-writes : goal.returns-in_err-turn-clause-writes
returns-in_err-turn-clause-writes g c =
    let b = begins-so (world c.loop-round.self) (c.args.steps - c.loop-round.round) (c.args.steps - (c.loop-round.round + 1)) c.loop-round.left (omega (arith, c.loop-round-test.true)) (not-zero _ c.if-left-eq0.false) in
    progress_fails _ _ _ _ _ _ _ _ c.from_residual.ensures.0 c.loop-round.invariant.progress b.1 c.in_err-turn.ensures.writes

pub returns-then-not-branch-clause-after : goal.returns-then-not-branch-clause-after
returns-then-not-branch-clause-after g c =
    let s = stops-here (world c.loop-round.self) (c.args.steps - c.loop-round.round) (c.args.steps - (c.loop-round.round + 1)) c.loop-round.left (omega (arith, c.loop-round-test.true)) (not-zero _ c.if-left-eq0.false) (sym c.in_ok-turn.ensures.goes_on ∙ c.if-not-branch.true) in
    c.in_ok-turn.ensures.after ∙ sym s.after ∙ c.loop-round.invariant.after

pub returns-then-not-branch-clause-writes : goal.returns-then-not-branch-clause-writes
returns-then-not-branch-clause-writes g c =
    let s = stops-here (world c.loop-round.self) (c.args.steps - c.loop-round.round) (c.args.steps - (c.loop-round.round + 1)) c.loop-round.left (omega (arith, c.loop-round-test.true)) (not-zero _ c.if-left-eq0.false) (sym c.in_ok-turn.ensures.goes_on ∙ c.if-not-branch.true) in
    progress_ends _ _ _ _ (progress_more _ _ _ _ _ _ _ c.loop-round.invariant.progress (then_nothing _ _ s.events) c.in_ok-turn.ensures.writes) refl

pub loop-round-preserved : goal.loop-round-preserved
loop-round-preserved g c =
    let n = goes-on (world c.loop-round.self) (c.args.steps - c.loop-round.round) (c.args.steps - (c.loop-round.round + 1)) c.loop-round.left (omega (arith, c.loop-round-test.true)) (not-zero _ c.if-left-eq0.false) (sym c.in_ok-turn.ensures.goes_on ∙ c.if-not-branch.false) in
    let fewer = c.saturating_sub-left.ensures ∙ ap (λ k. c.loop-round.left - k) (c.from.ensures ∙ c.in_ok-turn.ensures.steps) in
    record {
      progress = rw (fewer, c.in_ok-turn.ensures.after) (progress_more _ _ _ _ _ _ _ c.loop-round.invariant.progress n.events c.in_ok-turn.ensures.writes);
      after = rw (fewer, c.in_ok-turn.ensures.after) (sym n.after ∙ c.loop-round.invariant.after);
      kept = c.turn.ensures.kept;
      room = λ k. c.turn.ensures.room k ∙ c.loop-round.invariant.room k;
      count = omega (arith, c.loop-round.invariant.count, c.turn.ensures.count);
    }

pub returns-clause-after : goal.returns-clause-after
returns-clause-after g c =
    let past = turns-past (world c.loop-round.self) (c.args.steps - c.loop-round.round) c.loop-round.left (inl (omega (arith, c.loop-round-test.false))) in
    sym past.1 ∙ c.loop-round.invariant.after

pub returns-clause-writes : goal.returns-clause-writes
returns-clause-writes g c =
    let past = turns-past (world c.loop-round.self) (c.args.steps - c.loop-round.round) c.loop-round.left (inl (omega (arith, c.loop-round-test.false))) in
    progress_ends _ _ _ _ c.loop-round.invariant.progress past.0
