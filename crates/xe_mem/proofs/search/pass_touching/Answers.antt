use Rattle.std.proofs.Common.{◌≡◌, ◌+◌, ◌-◌, ◌∙◌, sym, arith, ℕ, suc, List, length, take, drop, true}
use Rattle.std.proofs.lemmas.List.{drop-drop}
use Rattle.xe_mem.specs.declared.region.Region.{Region}
use Rattle.xe_mem.specs.Layout.{follow}
use Rattle.xe_mem.proofs.LayoutLaws.{follow-each}
use Rattle.xe_mem.proofs.FlatLaws.{gap-passed, gap-moved, gap-end}
use Rattle.xe_mem.proofs.SearchLaws.{found-gap, follow-drop, gap-above, next-above, rest-is}
use Rattle.xe_mem.proofs.search.pass_touching.Goals as goal

none : Region
none = record { start = 0; len = 0 }

abbrev rest : List Region → ℕ → List Region
rest rs i = take (length rs - i) (drop i rs)

rest-follows : (rs : List Region) (i : ℕ) → follow 0 rs ≡ true → follow 0 (rest rs i) ≡ true
rest-follows rs i h = rw (rest-is rs i) (follow-drop rs i h)

pub loop-region-init : goal.loop-region-init
loop-region-init c =
    let e = rest-is c.args.regions.now c.args.index in
    record {
      items = e;
      same = rw e (sym (found-gap c.args.regions.now c.args.from c.args.index none c.requires.follows c.requires.found));
      behind = rw (e, drop-drop 1 c.args.index c.args.regions.now) c.requires.found.behind;
    }

pub returns-then-not-covers : goal.returns-then-not-covers
unfolding none
returns-then-not-covers c =
    let xs = rest c.args.regions.now c.args.index in
    let i = c.loop-region.invariant in
    sym (gap-above (drop (c.loop-region.region-index + 1) xs) (c.loop-region.gap + 1) c.loop-region.gap i.behind (omega arith)) ∙ sym (gap-passed xs c.loop-region.region-index none c.loop-region-test.true c.loop-region.gap (sym c.covers.ensures ∙ c.if-not-covers.true)) ∙ i.same

pub overflow_add-gap : goal.overflow_add-gap
unfolding none
overflow_add-gap c =
    let f = rest-follows c.args.regions.now c.args.index c.requires.follows in
    let e = follow-each (rest c.args.regions.now c.args.index) 0 c.loop-region.region-index none f c.loop-region-test.true in
    omega arith

pub loop-region-preserved : goal.loop-region-preserved
unfolding none
loop-region-preserved c =
    let xs = rest c.args.regions.now c.args.index in
    let f = rest-follows c.args.regions.now c.args.index c.requires.follows in
    let e : c.loop-region.region-index + 1 + 1 ≡ suc (suc c.loop-region.region-index) = omega arith in
    record {
      items = rest-is c.args.regions.now c.args.index;
      same = sym (gap-moved xs c.loop-region.region-index none c.loop-region-test.true c.loop-region.gap (sym c.covers.ensures ∙ c.if-not-covers.false)) ∙ c.loop-region.invariant.same;
      behind = rw e (next-above xs 0 c.loop-region.region-index none f c.loop-region-test.true);
    }

pub returns : goal.returns
returns c = sym (gap-end (rest c.args.regions.now c.args.index) c.loop-region.region-index c.loop-region.gap c.loop-region-test.false) ∙ c.loop-region.invariant.same
