use Rattle.std.proofs.Common.{◌≡◌, ◌≤◌, ◌∙◌, ◌+◌, ◌-◌, ap, arith, rules, length}
use Rattle.xe_mem.specs.Layout.{regions_of}
use Rattle.xe_mem.specs.Flat.{areas_of, place}
use Rattle.xe_mem.proofs.FlatLaws.{fits-view, store-view, vec-put}
use Rattle.xe_mem.proofs.LayoutLaws.{regions-puts}
use Rattle.xe_mem.proofs.guest_mem.GuestMem.store.Goals as goal

pub overflow_add-at : goal.overflow_add-at
overflow_add-at c =
    let e = c.position-at.ensures ∙ ap (λ xs. place xs c.args.pa) c.as_slice.ensures.value in
    let f = fits-view _ _ _ c.self.invariant.whole c.self.view_is c.args.pa (length c.args.bytes.now) c.requires in
    let b = c.self.invariant.whole.bytes_len in
    let s = c.self.invariant.whole.layout.small in
    omega (arith, e, f)

pub slice_bounds-copy_from_slice-end : goal.slice_bounds-copy_from_slice-end
slice_bounds-copy_from_slice-end c =
    let e = c.position-at.ensures ∙ ap (λ xs. place xs c.args.pa) c.as_slice.ensures.value in
    let f = fits-view _ _ _ c.self.invariant.whole c.self.view_is c.args.pa (length c.args.bytes.now) c.requires in
    let v = ap length c.deref_mut.ensures.value in
    let b : c.position-at.result + length c.args.bytes.now ≤ length c.deref_mut.result.now = omega (arith, e, f, v) in
    search (rules, b)

pub returns-clause-written : goal.returns-clause-written
returns-clause-written c =
    let e = c.position-at.ensures ∙ ap (λ xs. place xs c.args.pa) c.as_slice.ensures.value in
    let f = fits-view _ _ _ c.self.invariant.whole c.self.view_is c.args.pa (length c.args.bytes.now) c.requires in
    let v = ap length c.deref_mut.ensures.value in
    let n = ap length c.copy_from_slice.ensures.after in
    let b : c.position-at.result + length c.copy_from_slice.new.self ≤ length c.deref_mut.result.now = omega (arith, e, f, v, n) in
    let k : c.position-at.result + length c.args.bytes.now - c.position-at.result ≡ length c.copy_from_slice.new.self = omega (arith, n) in
    let p = vec-put c.self.inside.bytes c.deref_mut.result.now c.copy_from_slice.new.self c.position-at.result _ c.deref_mut.ensures.value c.deref_mut.ensures.len b k in
    ap (λ xs. areas_of c.self.inside.regions.items xs) p ∙ rw (c.copy_from_slice.ensures.after, e) (store-view _ _ _ c.self.invariant.whole c.self.view_is c.args.pa c.args.bytes.now c.requires)

pub returns-clause-same_regions : goal.returns-clause-same_regions
returns-clause-same_regions c = ap regions_of (returns-clause-written c) ∙ regions-puts c.args.self.now c.args.pa c.args.bytes.now
