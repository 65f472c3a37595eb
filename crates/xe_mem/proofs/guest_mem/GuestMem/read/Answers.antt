use Rattle.std.proofs.Common.{◌≡◌, ◌≤◌, ◌∙◌, ◌+◌, ◌-◌, ap, sym, refl, arith, rules, length, false}
use Rattle.std.proofs.lemmas.Bool.{both_ways}
use Rattle.xe_mem.specs.Flat.{place}
use Rattle.xe_mem.proofs.FlatLaws.{fits-view, load-view}
use Rattle.xe_mem.proofs.SearchLaws.{range-ram, range-past}
use Rattle.xe_mem.proofs.guest_mem.GuestMem.read.Goals as goal

pub returns-in_err-at-clause-present : goal.returns-in_err-at-clause-present
returns-in_err-at-clause-present g c = (λ t. absurd (both_ways false refl (rw c.from_residual.ensures at t)), λ are. absurd (range-past _ _ _ _ c.self.invariant.whole c.self.view_is c.as_slice-regions.ensures.value c.args.pa g.row.N c.in_err-at.ensures are))

pub overflow_add-at : goal.overflow_add-at
overflow_add-at g c =
    let e = c.in_ok-at.ensures.1 ∙ ap (λ xs. place xs c.args.pa) c.as_slice-regions.ensures.value in
    let are = range-ram _ _ _ _ c.self.invariant.whole c.self.view_is c.as_slice-regions.ensures.value c.args.pa g.row.N c.in_ok-at.ensures.0 in
    let f = fits-view _ _ _ c.self.invariant.whole c.self.view_is c.args.pa g.row.N are in
    let b = c.self.invariant.whole.bytes_len in
    let s = c.self.invariant.whole.layout.small in
    omega (arith, e, f)

pub slice_bounds-copy_from_slice-end-2 : goal.slice_bounds-copy_from_slice-end-2
slice_bounds-copy_from_slice-end-2 g c =
    let e = c.in_ok-at.ensures.1 ∙ ap (λ xs. place xs c.args.pa) c.as_slice-regions.ensures.value in
    let are = range-ram _ _ _ _ c.self.invariant.whole c.self.view_is c.as_slice-regions.ensures.value c.args.pa g.row.N c.in_ok-at.ensures.0 in
    let f = fits-view _ _ _ c.self.invariant.whole c.self.view_is c.args.pa g.row.N are in
    let v = ap length c.deref.ensures.value in
    let b : c.in_ok-at.at + g.row.N ≤ length c.deref.result.now = omega (arith, e, f, v) in
    search (rules, b)

pub returns-clause-present : goal.returns-clause-present
returns-clause-present g c = (λ t. range-ram _ _ _ _ c.self.invariant.whole c.self.view_is c.as_slice-regions.ensures.value c.args.pa g.row.N c.in_ok-at.ensures.0, λ are. refl)

pub returns-clause-bytes : goal.returns-clause-bytes
returns-clause-bytes g c =
    let e = c.in_ok-at.ensures.1 ∙ ap (λ xs. place xs c.args.pa) c.as_slice-regions.ensures.value in
    let are = range-ram _ _ _ _ c.self.invariant.whole c.self.view_is c.as_slice-regions.ensures.value c.args.pa g.row.N c.in_ok-at.ensures.0 in
    let m : c.in_ok-at.at + g.row.N - c.in_ok-at.at ≡ g.row.N = omega arith in
    c.copy_from_slice.ensures.after ∙ rw (m, c.deref.ensures.value, e) (sym (load-view _ _ _ c.self.invariant.whole c.self.view_is c.args.pa g.row.N are))
