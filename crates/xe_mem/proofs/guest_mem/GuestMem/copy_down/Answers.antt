use Rattle.std.proofs.Common.{◌≡◌, ◌*◌, ◌∙◌, ap, refl, arith, length}
use Rattle.xe_mem.specs.Layout.{regions_of}
use Rattle.xe_mem.specs.Flat.{place, areas_of, flat_down}
use Rattle.xe_mem.proofs.FlatLaws.{fits-view}
use Rattle.xe_mem.proofs.MoveLaws.{down-view, regions-down, length-flat_down, vec-with, unit-some}
use Rattle.xe_mem.proofs.guest_mem.GuestMem.copy_down.Goals as goal

pub move_down-requires-clause-to : goal.move_down-requires-clause-to
move_down-requires-clause-to c =
    let e = c.position-to.ensures ∙ ap (λ xs. place xs c.args.dst) c.as_slice.ensures.value in
    let f = fits-view _ _ _ c.self.invariant.whole c.self.view_is c.args.dst (c.args.unit * c.args.count) c.requires.dst in
    let v = ap length c.deref_mut.ensures.value in
    omega (arith, e, f, v)

pub move_down-requires-clause-from : goal.move_down-requires-clause-from
move_down-requires-clause-from c =
    let e = c.position-from.ensures ∙ ap (λ xs. place xs c.args.src) c.as_slice-3.ensures.value in
    let f = fits-view _ _ _ c.self.invariant.whole c.self.view_is c.args.src (c.args.unit * c.args.count) c.requires.src in
    let v = ap length c.deref_mut.ensures.value in
    omega (arith, e, f, v)

pub returns-clause-written : goal.returns-clause-written
returns-clause-written c =
    let to = c.position-to.ensures ∙ ap (λ xs. place xs c.args.dst) c.as_slice.ensures.value in
    let from = c.position-from.ensures ∙ ap (λ xs. place xs c.args.src) c.as_slice-3.ensures.value in
    let u = unit-some c.args.unit c.requires.unit in
    let bs = c.self.inside.bytes.items in
    let rs = c.self.inside.regions.items in
    let n = length-flat_down c.args.count bs (place rs c.args.dst) (place rs c.args.src) c.args.unit in
    let ok = c.self.inside.bytes.ok.0 in
    let is : c.move_down.new.bytes ≡ flat_down bs (place rs c.args.dst) (place rs c.args.src) c.args.unit c.args.count = c.move_down.ensures ∙ rw (c.deref_mut.ensures.value, to, from) refl in
    ap (λ xs. areas_of rs xs) (vec-with c.self.inside.bytes _ c.move_down.new.bytes (omega arith) is) ∙ down-view _ _ _ c.self.invariant.whole c.self.view_is c.args.dst c.args.src c.args.unit c.args.count u c.requires.dst c.requires.src

pub returns-clause-same_regions : goal.returns-clause-same_regions
returns-clause-same_regions c = ap regions_of (returns-clause-written c) ∙ regions-down c.args.count c.args.self.now c.args.dst c.args.src c.args.unit
