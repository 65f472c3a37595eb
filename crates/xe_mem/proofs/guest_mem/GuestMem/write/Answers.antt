use Rattle.std.proofs.Common.{◌≡◌, ◌≤◌, ◌∙◌, ◌+◌, ◌-◌, ap, subst, refl, sym, arith, rules, length, ℕ, drop, length-drop}
use Rattle.std.proofs.lemmas.List.{length-take-le}
use Rattle.xe_base.specs.Ram.{AreRam}
use Rattle.xe_mem.specs.Layout.{regions_of}
use Rattle.xe_mem.specs.Flat.{areas_of, place}
use Rattle.xe_mem.proofs.FlatLaws.{fits-view, store-view, vec-put}
use Rattle.xe_mem.proofs.LayoutLaws.{regions-puts}
use Rattle.xe_mem.proofs.SearchLaws.{range-ram, range-past}
use Rattle.xe_mem.proofs.guest_mem.GuestMem.write.Goals as goal

pub returns-in_default-clause-accepted : goal.returns-in_default-clause-accepted
returns-in_default-clause-accepted g c = (λ t. cc, λ are. absurd (range-past _ _ _ _ c.self.invariant.whole c.self.view_is c.as_slice-regions.ensures.value c.args.pa g.row.N c.in_default.ensures are))

pub overflow_add-at : goal.overflow_add-at
overflow_add-at g c =
    let e = c.in-Some.ensures.1 ∙ ap (λ xs. place xs c.args.pa) c.as_slice-regions.ensures.value in
    let are = range-ram _ _ _ _ c.self.invariant.whole c.self.view_is c.as_slice-regions.ensures.value c.args.pa g.row.N c.in-Some.ensures.0 in
    let f = fits-view _ _ _ c.self.invariant.whole c.self.view_is c.args.pa g.row.N are in
    let b = c.self.invariant.whole.bytes_len in
    let s = c.self.invariant.whole.layout.small in
    omega (arith, e, f)

pub slice_bounds-copy_from_slice-end : goal.slice_bounds-copy_from_slice-end
slice_bounds-copy_from_slice-end g c =
    let e = c.in-Some.ensures.1 ∙ ap (λ xs. place xs c.args.pa) c.as_slice-regions.ensures.value in
    let are = range-ram _ _ _ _ c.self.invariant.whole c.self.view_is c.as_slice-regions.ensures.value c.args.pa g.row.N c.in-Some.ensures.0 in
    let f = fits-view _ _ _ c.self.invariant.whole c.self.view_is c.args.pa g.row.N are in
    let v = ap length c.deref_mut.ensures.value in
    let b : c.in-Some.at + g.row.N ≤ length c.deref_mut.result.now = omega (arith, e, f, v) in
    search (rules, b)

pub returns-clause-accepted : goal.returns-clause-accepted
returns-clause-accepted g c = (λ t. range-ram _ _ _ _ c.self.invariant.whole c.self.view_is c.as_slice-regions.ensures.value c.args.pa g.row.N c.in-Some.ensures.0, λ are. refl)

pub returns-clause-written : goal.returns-clause-written
returns-clause-written g c = λ _.
    let e = c.in-Some.ensures.1 ∙ ap (λ xs. place xs c.args.pa) c.as_slice-regions.ensures.value in
    let are = range-ram _ _ _ _ c.self.invariant.whole c.self.view_is c.as_slice-regions.ensures.value c.args.pa g.row.N c.in-Some.ensures.0 in
    let f = fits-view _ _ _ c.self.invariant.whole c.self.view_is c.args.pa g.row.N are in
    let v = ap length c.deref_mut.ensures.value in
    let n = ap length c.copy_from_slice.ensures.after in
    let d = length-drop c.in-Some.at c.deref_mut.result.now in
    let q : c.in-Some.at + g.row.N - c.in-Some.at ≡ g.row.N = omega arith in
    let t = length-take-le g.row.N (drop c.in-Some.at c.deref_mut.result.now) (omega (arith, e, f, v, d)) in
    let w : length c.args.bytes ≡ g.row.N = sym n ∙ rw q at c.copy_from_slice.ensures.len ∙ t in
    let b : c.in-Some.at + length c.copy_from_slice.new.self ≤ length c.deref_mut.result.now = omega (arith, e, f, v, n, w) in
    let k : c.in-Some.at + g.row.N - c.in-Some.at ≡ length c.copy_from_slice.new.self = omega (arith, n, w) in
    let p = vec-put c.self.inside.bytes c.deref_mut.result.now c.copy_from_slice.new.self c.in-Some.at _ c.deref_mut.ensures.value c.deref_mut.ensures.len b k in
    let are2 : AreRam c.args.self.now c.args.pa (length c.args.bytes) = subst (λ (m : ℕ). AreRam c.args.self.now c.args.pa m) (sym w) are in
    ap (λ xs. areas_of c.self.inside.regions.items xs) p ∙ rw (c.copy_from_slice.ensures.after, e) (store-view _ _ _ c.self.invariant.whole c.self.view_is c.args.pa c.args.bytes are2)

pub returns-clause-same_regions : goal.returns-clause-same_regions
returns-clause-same_regions g c = ap regions_of (returns-clause-written g c refl) ∙ regions-puts c.args.self.now c.args.pa c.args.bytes
