use Rattle.std.proofs.Common.{◌∙◌, ap, sym, subst, ℕ}
use Rattle.xe_mem.specs.Layout.{IsGap}
use Rattle.xe_mem.specs.Flat.{gap_behind}
use Rattle.xe_mem.proofs.FlatLaws.{gap-view}
use Rattle.xe_mem.proofs.LayoutLaws.{ram-below}
use Rattle.xe_mem.proofs.guest_mem.GuestMem.first_gap.Goals as goal

pub returns-clause-gap : goal.returns-clause-gap
returns-clause-gap c =
    let e = c.gap_from.ensures ∙ ap (λ xs. gap_behind xs c.args.from) c.as_slice.ensures.value in
    subst (λ (n : ℕ). IsGap c.args.self.now c.args.from n) (sym e) (gap-view _ _ _ c.self.invariant.whole c.self.view_is c.args.from)

pub returns-clause-ram : goal.returns-clause-ram
returns-clause-ram c = ram-below _ _ _ (returns-clause-gap c)
