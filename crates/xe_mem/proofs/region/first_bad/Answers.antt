use Rattle.std.proofs.Common.{◌≡◌, ◌<◌, ◌+◌, ◌∙◌, sym, refl, arith, get_or, true, take, ℕ, List, length}
use Rattle.std.proofs.lemmas.List.{take_more}
use Rattle.xe_mem.specs.declared.region.Region.{Region}
use Rattle.xe_mem.specs.Layout.{fits_after, follow, end_behind}
use Rattle.xe_mem.proofs.LayoutLaws.{fits-parts, follow-push, end-push}
use Rattle.xe_mem.proofs.region.first_bad.Goals as goal

none : Region
none = record { start = 0; len = 0 }

-- one more region, whichever answer the test gave
step : (list : List Region) (i low : ℕ) (d : Region) → i < length list → follow 0 (take i list) ≡ true → low ≡ end_behind 0 (take i list) → follow 0 (take (i + 1) list) ≡ fits_after low (get_or list i d)
step list i low d h f e = rw (take_more list i d h, follow-push (take i list) (get_or list i d) 0 f, e) refl

pub loop-i-init : goal.loop-i-init
unfolding follow end_behind
loop-i-init c = record { front = refl; low = refl }

pub returns-then-not-fits_after : goal.returns-then-not-fits_after
unfolding none
returns-then-not-fits_after c =
    let l = c.loop-i.invariant in
    (c.loop-i-test.true, l.front, step c.args.list.now c.loop-i.i c.loop-i.low none c.loop-i-test.true l.front l.low ∙ sym c.fits_after.ensures ∙ c.if-not-fits_after.true)

pub overflow_add-low : goal.overflow_add-low
unfolding none
overflow_add-low c =
    let p = fits-parts c.loop-i.low (get_or c.args.list.now c.loop-i.i none) (sym c.fits_after.ensures ∙ c.if-not-fits_after.false) in
    let b = p.below in
    omega arith

pub loop-i-preserved : goal.loop-i-preserved
unfolding none
loop-i-preserved c =
    let l = c.loop-i.invariant in
    record {
      front = step c.args.list.now c.loop-i.i c.loop-i.low none c.loop-i-test.true l.front l.low ∙ sym c.fits_after.ensures ∙ c.if-not-fits_after.false;
      low = rw (take_more c.args.list.now c.loop-i.i none c.loop-i-test.true) (sym (end-push (take c.loop-i.i c.args.list.now) (get_or c.args.list.now c.loop-i.i none) 0));
    }
