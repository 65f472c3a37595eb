use Rattle.std.proofs.Common.{◌≡◌, ◌≤◌, ◌∙◌, ◌+◌, ◌*◌, ◌-◌, ap, arith, rules, length}
use Rattle.xe_mem.specs.Layout.{regions_of}
use Rattle.xe_mem.specs.Flat.{areas_of, place}
use Rattle.xe_mem.proofs.FlatLaws.{fits-view, vec-put}
use Rattle.xe_mem.proofs.MoveLaws.{fill-view, regions-filled, length-repeated}
use Rattle.xe_mem.proofs.guest_mem.GuestMem.fill.Goals as goal

pub overflow_mul-len : goal.overflow_mul-len
overflow_mul-len c =
    let f = fits-view _ _ _ c.self.invariant.whole c.self.view_is c.args.pa (length c.args.unit.now * c.args.count) c.requires.ram in
    let b = c.self.invariant.whole.bytes_len in
    let s = c.self.invariant.whole.layout.small in
    omega (arith, f)

pub overflow_add-at : goal.overflow_add-at
overflow_add-at c =
    let e = c.position-at.ensures ∙ ap (λ xs. place xs c.args.pa) c.as_slice.ensures.value in
    let f = fits-view _ _ _ c.self.invariant.whole c.self.view_is c.args.pa (length c.args.unit.now * c.args.count) c.requires.ram in
    let b = c.self.invariant.whole.bytes_len in
    let s = c.self.invariant.whole.layout.small in
    omega (arith, e, f)

pub slice_bounds-repeat-end : goal.slice_bounds-repeat-end
slice_bounds-repeat-end c =
    let e = c.position-at.ensures ∙ ap (λ xs. place xs c.args.pa) c.as_slice.ensures.value in
    let f = fits-view _ _ _ c.self.invariant.whole c.self.view_is c.args.pa (length c.args.unit.now * c.args.count) c.requires.ram in
    let v = ap length c.deref_mut.ensures.value in
    let b : c.position-at.result + length c.args.unit.now * c.args.count ≤ length c.deref_mut.result.now = omega (arith, e, f, v) in
    search (rules, b)

pub returns-clause-written : goal.returns-clause-written
returns-clause-written c =
    let e = c.position-at.ensures ∙ ap (λ xs. place xs c.args.pa) c.as_slice.ensures.value in
    let f = fits-view _ _ _ c.self.invariant.whole c.self.view_is c.args.pa (length c.args.unit.now * c.args.count) c.requires.ram in
    let v = ap length c.deref_mut.ensures.value in
    let n = length-repeated c.args.unit.now c.args.count in
    let m = ap length c.repeat.ensures in
    let b : c.position-at.result + length c.repeat.new.out ≤ length c.deref_mut.result.now = omega (arith, e, f, v, n, m) in
    let k : c.position-at.result + length c.args.unit.now * c.args.count - c.position-at.result ≡ length c.repeat.new.out = omega (arith, n, m) in
    let p = vec-put c.self.inside.bytes c.deref_mut.result.now c.repeat.new.out c.position-at.result _ c.deref_mut.ensures.value c.deref_mut.ensures.len b k in
    ap (λ xs. areas_of c.self.inside.regions.items xs) p ∙ rw (c.repeat.ensures, e) (fill-view _ _ _ c.self.invariant.whole c.self.view_is c.args.pa c.args.unit.now c.args.count c.requires.ram)

pub returns-clause-same_regions : goal.returns-clause-same_regions
returns-clause-same_regions c = ap regions_of (returns-clause-written c) ∙ regions-filled c.args.count c.args.self.now c.args.pa c.args.unit.now
