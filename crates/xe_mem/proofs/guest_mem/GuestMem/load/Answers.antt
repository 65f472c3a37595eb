use Rattle.std.proofs.Common.{◌≡◌, ◌≤◌, ◌∙◌, ◌+◌, ◌-◌, ap, sym, arith, rules, length}
use Rattle.xe_mem.specs.Flat.{place}
use Rattle.xe_mem.proofs.FlatLaws.{fits-view, load-view}
use Rattle.xe_mem.proofs.guest_mem.GuestMem.load.Goals as goal

pub overflow_add-at : goal.overflow_add-at
overflow_add-at c =
    let e = c.position-at.ensures ∙ ap (λ xs. place xs c.args.pa) c.as_slice.ensures.value in
    let f = fits-view _ _ _ c.self.invariant.whole c.self.view_is c.args.pa (length c.args.out.now) c.requires in
    let b = c.self.invariant.whole.bytes_len in
    let s = c.self.invariant.whole.layout.small in
    omega (arith, e, f)

pub slice_bounds-copy_from_slice-end : goal.slice_bounds-copy_from_slice-end
slice_bounds-copy_from_slice-end c =
    let e = c.position-at.ensures ∙ ap (λ xs. place xs c.args.pa) c.as_slice.ensures.value in
    let f = fits-view _ _ _ c.self.invariant.whole c.self.view_is c.args.pa (length c.args.out.now) c.requires in
    let v = ap length c.deref.ensures.value in
    let b : c.position-at.result + length c.args.out.now ≤ length c.deref.result.now = omega (arith, e, f, v) in
    search (rules, b)

pub returns : goal.returns
returns c =
    let e = c.position-at.ensures ∙ ap (λ xs. place xs c.args.pa) c.as_slice.ensures.value in
    let m : c.position-at.result + length c.args.out.now - c.position-at.result ≡ length c.args.out.now = omega arith in
    c.copy_from_slice.ensures.after ∙ rw (m, c.deref.ensures.value, e) (sym (load-view _ _ _ c.self.invariant.whole c.self.view_is c.args.pa (length c.args.out.now) c.requires))
