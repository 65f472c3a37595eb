use Rattle.std.proofs.Common.{◌≡◌, ◌∙◌, sym, ap, get_or, true}
use Rattle.xe_mem.specs.declared.region.Region.{Region}
use Rattle.xe_mem.specs.Layout.{covers}
use Rattle.xe_mem.proofs.SearchLaws.{found-covered}
use Rattle.xe_mem.proofs.search.index_of.Goals as goal

none : Region
none = record { start = 0; len = 0 }

pub returns-then-covers : goal.returns-then-covers
returns-then-covers c =
    let t = c.in-Some.ensures.lookup in
    let v : covers (get_or c.args.regions.now _ none) c.args.pa ≡ true = ap (λ r. covers r c.args.pa) (sym (t.3.1 none)) ∙ sym c.covers.ensures ∙ c.if-covers.true in
    found-covered c.args.regions.now c.args.pa _ none c.requires t.3.0 v
