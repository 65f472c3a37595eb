use Rattle.std.proofs.Common.{◌≡◌, ◌+◌, ◌∙◌, sym, ap, arith, get_or, true, false}
use Rattle.std.proofs.lemmas.Bool.{ltb-false}
use Rattle.xe_mem.specs.declared.region.Region.{Region}
use Rattle.xe_mem.specs.Layout.{covers}
use Rattle.xe_mem.proofs.LayoutLaws.{follow-each}
use Rattle.xe_mem.proofs.SearchLaws.{empty-gap, no-gap, last-gap, apart-gap}
use Rattle.xe_mem.proofs.search.gap_at.Goals as goal

none : Region
none = record { start = 0; len = 0 }

pub returns-in_default : goal.returns-in_default
returns-in_default c = sym (empty-gap c.args.regions.now c.args.from c.args.index none c.requires.follows c.requires.found (ltb-false _ _ (sym c.in_default.ensures.lookup.0)))

pub returns-then-not-covers : goal.returns-then-not-covers
returns-then-not-covers c =
    let t = c.in-Some.ensures.lookup in
    let v : covers (get_or c.args.regions.now c.args.index none) c.args.from ≡ false = ap (λ r. covers r c.args.from) (sym (t.3.1 none)) ∙ sym c.covers.ensures ∙ c.if-not-covers.true in
    sym (no-gap c.args.regions.now c.args.from c.args.index none c.requires.follows c.requires.found t.3.0 v)

pub overflow_add-end : goal.overflow_add-end
overflow_add-end c =
    let t = c.in-Some.ensures.lookup in
    let e = follow-each c.args.regions.now 0 c.args.index none c.requires.follows t.3.0 in
    omega (arith, e, ap (λ (r : Region). r.start) (t.3.1 none), ap (λ (r : Region). r.len) (t.3.1 none))

pub returns-else-next-end : goal.returns-else-next-end
returns-else-next-end c =
    let t = c.in-Some.ensures.lookup in
    let u = c.in-Some-get.ensures.lookup in
    let v : covers (get_or c.args.regions.now c.args.index none) c.args.from ≡ true = ap (λ r. covers r c.args.from) (sym (t.3.1 none)) ∙ sym c.covers.ensures ∙ c.if-not-covers.false in
    let end = ap (λ (r : Region). r.start + r.len) (t.3.1 none) in
    end ∙ sym (apart-gap c.args.regions.now c.args.from c.args.index none c.requires.follows c.requires.found t.3.0 v u.3.0 (λ e. c.if-next-end.false (ap (λ (r : Region). r.start) (u.3.1 none) ∙ e ∙ sym end)))

pub returns-in_default-get : goal.returns-in_default-get
returns-in_default-get c =
    let t = c.in-Some.ensures.lookup in
    let v : covers (get_or c.args.regions.now c.args.index none) c.args.from ≡ true = ap (λ r. covers r c.args.from) (sym (t.3.1 none)) ∙ sym c.covers.ensures ∙ c.if-not-covers.false in
    ap (λ (r : Region). r.start + r.len) (t.3.1 none) ∙ sym (last-gap c.args.regions.now c.args.from c.args.index none c.requires.follows c.requires.found t.3.0 v (ltb-false _ _ (sym c.in_default-get.ensures.lookup.0)))
