use Rattle.std.proofs.Common.{refl, ap, inl, arith, ◌∙◌, ◌+◌}
use Rattle.xe_core.proofs.Turning.{going_begins, going_on, turn_ends, turn_ends_here}
use Rattle.xe_core.proofs.call.turn.Goals as goal

pub loop-nth-init : goal.loop-nth-init
loop-nth-init g c = record { going = going_begins _ _ _ _; draft_ = c.requires.draft; count = refl }

-- the turn ends with a step behind which it could have gone on
pub returns-in-None : goal.returns-in-None
returns-in-None g c = record {
  reports = turn_ends _ _ _ _ _ _ _ _ c.loop-nth.invariant.going _ _ _ _ _ _ c.in-None.ensures.did (omega (arith, c.loop-nth.invariant.count, c.loop-nth-test.true)) (inl refl);
  draft = c.in-None.ensures.draft;
}

-- it goes on
pub loop-nth-preserved : goal.loop-nth-preserved
loop-nth-preserved g c = record {
  going = going_on _ _ _ _ _ _ _ _ c.loop-nth.invariant.going _ _ _ _ _ _ c.in-Some.ensures.did;
  draft_ = c.in-Some.ensures.draft;
  count = (let n = c.in-Some.ensures.did.went.2 in ap (λ f. f.elements + 1) n ∙ ap (λ k. k + 1) c.loop-nth.invariant.count);
}

-- its last step
pub returns : goal.returns
returns g c = record {
  reports = turn_ends_here _ _ _ _ _ _ _ _ c.loop-nth.invariant.going _ _ _ _ _ _ c.step.ensures.did (omega (arith, c.loop-nth.invariant.count, c.loop-nth-test.false, c.loop-nth.auto.nth-end));
  draft = c.step.ensures.draft;
}
