use Rattle.std.proofs.Common.{◌≡◌, ◌+◌, ◌-◌, ◌∙◌, sym, ap, arith, get_or, take, true, false}
use Rattle.std.proofs.lemmas.Bool.{ltb-false}
use Rattle.xe_mem.specs.declared.region.Region.{Region}
use Rattle.xe_mem.specs.Layout.{covers, total}
use Rattle.xe_mem.proofs.LayoutLaws.{covers-at}
use Rattle.xe_mem.proofs.SearchLaws.{total-more, found-place, no-place, end-place}
use Rattle.xe_mem.proofs.search.place_at.Goals as goal
use Rattle.xe_mem.proofs.search.place_at.Goals.{in-Some+else-covers, in_default}

none : Region
none = record { start = 0; len = 0 }

pub overflow_sub-result : goal.overflow_sub-result
overflow_sub-result c = (covers-at c.in-Some.region.now c.args.pa (sym c.covers.ensures ∙ c.if-covers.true)).0

pub overflow_add-result : goal.overflow_add-result
overflow_add-result c =
    let t = c.in-Some.ensures.lookup in
    let e = t.3.1 none in
    let p = covers-at c.in-Some.region.now c.args.pa (sym c.covers.ensures ∙ c.if-covers.true) in
    let l = ap (λ (r : Region). r.len) e in
    let s : get_or c.args.before.now c.args.index 0 ≡ total (take c.args.index c.args.regions.now) = c.requires.before.each c.args.index t.3.0 in
    let m = total-more c.args.regions.now c.args.index none t.3.0 in
    omega (arith, p.0, p.1, l, s, m.0, m.1, c.requires.small)

pub returns-then-covers : goal.returns-then-covers
returns-then-covers c =
    let t = c.in-Some.ensures.lookup in
    let e = t.3.1 none in
    let s = c.requires.before.each c.args.index t.3.0 in
    let v : covers (get_or c.args.regions.now c.args.index none) c.args.pa ≡ true = ap (λ r. covers r c.args.pa) (sym e) ∙ sym c.covers.ensures ∙ c.if-covers.true in
    let p = found-place c.args.regions.now c.args.pa c.args.index none c.requires.follows c.requires.found t.3.0 v in
    ap (λ n. n + (c.args.pa - c.in-Some.region.now.start)) s ∙ ap (λ (r : Region). total (take c.args.index c.args.regions.now) + (c.args.pa - r.start)) e ∙ sym p

pub returns : goal.returns
returns c = c.total_len.ensures ∙ sym (elim c.match-get.branch [
  | in-Some+else-covers w ↦
      let t = w.in-Some.ensures.lookup in
      let v : covers (get_or c.args.regions.now c.args.index none) c.args.pa ≡ false = ap (λ r. covers r c.args.pa) (sym (t.3.1 none)) ∙ sym w.covers.ensures ∙ w.if-covers.false in
      no-place c.args.regions.now c.args.pa c.args.index none c.requires.follows c.requires.found t.3.0 v
  | in_default w ↦ end-place c.args.regions.now c.args.pa c.args.index none c.requires.follows c.requires.found (ltb-false _ _ (sym w.in_default.ensures.lookup.0))
])
