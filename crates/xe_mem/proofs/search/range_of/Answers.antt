use Rattle.std.proofs.Common.{◌≡◌, ◌≤◌, ◌+◌, ◌-◌, ◌∙◌, sym, ap, arith, get_or, take, true}
use Rattle.xe_mem.specs.declared.region.Region.{Region}
use Rattle.xe_mem.specs.Layout.{covers, total}
use Rattle.xe_mem.specs.Flat.{gap_behind}
use Rattle.xe_mem.proofs.LayoutLaws.{covers-at}
use Rattle.xe_mem.proofs.SearchLaws.{total-more, found-place, end-gap}
use Rattle.xe_mem.proofs.search.range_of.Goals as goal

none : Region
none = record { start = 0; len = 0 }

pub overflow_sub-ahead : goal.overflow_sub-ahead
overflow_sub-ahead c = (covers-at c.in-Some.region.now c.args.pa (sym c.covers.ensures ∙ c.if-covers.true)).0

pub overflow_sub-region : goal.overflow_sub-region
overflow_sub-region c =
    let p = covers-at c.in-Some.region.now c.args.pa (sym c.covers.ensures ∙ c.if-covers.true) in
    omega (arith, p.0, p.1)

pub overflow_add-result : goal.overflow_add-result
overflow_add-result c =
    let t = c.in-Some.ensures.lookup in
    let e = t.3.1 none in
    let p = covers-at c.in-Some.region.now c.args.pa (sym c.covers.ensures ∙ c.if-covers.true) in
    let l = ap (λ (r : Region). r.len) e in
    let s : get_or c.args.before.now c.index_of-index.result 0 ≡ total (take c.index_of-index.result c.args.regions.now) = c.requires.before.each c.index_of-index.result t.3.0 in
    let m = total-more c.args.regions.now c.index_of-index.result none t.3.0 in
    omega (arith, p.0, p.1, l, s, m.0, m.1, c.requires.small)

-- all of them lie in the region that has the first
pub returns-then-n-region : goal.returns-then-n-region
returns-then-n-region c =
    let t = c.in-Some.ensures.lookup in
    let e = t.3.1 none in
    let s = c.requires.before.each c.index_of-index.result t.3.0 in
    let v : covers (get_or c.args.regions.now c.index_of-index.result none) c.args.pa ≡ true = ap (λ r. covers r c.args.pa) (sym e) ∙ sym c.covers.ensures ∙ c.if-covers.true in
    let p = covers-at c.in-Some.region.now c.args.pa (sym c.covers.ensures ∙ c.if-covers.true) in
    let b = ap (λ (r : Region). r.start + r.len) e in
    let g : (get_or c.args.regions.now c.index_of-index.result none).start + (get_or c.args.regions.now c.index_of-index.result none).len ≤ gap_behind c.args.regions.now c.args.pa = end-gap c.args.regions.now c.args.pa c.index_of-index.result none c.requires.follows c.index_of-index.ensures t.3.0 v in
    let q = found-place c.args.regions.now c.args.pa c.index_of-index.result none c.requires.follows c.index_of-index.ensures t.3.0 v in
    (omega (arith, p.0, p.1, b, g, c.if-n-region.true), ap (λ n. n + (c.args.pa - c.in-Some.region.now.start)) s ∙ ap (λ (r : Region). total (take c.index_of-index.result c.args.regions.now) + (c.args.pa - r.start)) e ∙ sym q)
