use Rattle.std.proofs.Common.{◌≡◌, ◌<◌, ◌+◌, ◌-◌, ◌/◌, arith, length, inl, inr}
use Rattle.std.proofs.lemmas.Bool.{cases_eq}
use Rattle.xe_mem.specs.declared.region.Region.{Region}
use Rattle.xe_mem.proofs.SearchLaws.{begins-above, ends-below, follow-none, end-none}
use Rattle.xe_mem.proofs.search.find.Goals as goal
use Rattle.xe_mem.proofs.search.find.Goals.{then-regions-first, else-regions-first}

none : Region
none = record { start = 0; len = 0 }

pub loop-count-init : goal.loop-count-init
loop-count-init c = record {
  within = omega arith;
  none = λ e. e;
  front = omega (arith, end-none 0);
  behind = follow-none c.args.regions.now (c.args.pa + 1) _ (omega arith);
}

pub loop-count-preserved : goal.loop-count-preserved
unfolding none
loop-count-preserved c =
    let i = c.loop-count.invariant in
    let more = c.loop-count-test.true in
    let middle : c.loop-count.first + c.loop-count.count / 2 < length c.args.regions.now = omega (arith, i.within, more) in
    elim c.if-regions-first.branch [
      | then-regions-first w ↦
          let e = w.first-is in
          let g : c.loop-count.first + c.loop-count.count / 2 + (c.loop-count.count - c.loop-count.count / 2) ≡ c.loop-count.first + c.loop-count.count = omega arith in
          let b = ends-below c.args.regions.now 0 (c.loop-count.first + c.loop-count.count / 2) none c.requires middle in
          record {
            within = omega (arith, e, i.within);
            none = λ z. absurd (omega arith);
            front = rw e (omega (arith, b, w.if-regions-first.true));
            behind = rw (e, g) i.behind;
          }
      | else-regions-first w ↦
          let e = w.first-is in
          record {
            within = omega (arith, e, i.within);
            none = λ z. absurd (omega arith);
            front = rw e i.front;
            behind = rw e (begins-above c.args.regions.now 0 (c.loop-count.first + c.loop-count.count / 2) (c.loop-count.first + (c.loop-count.count - c.loop-count.count / 2)) c.args.pa none c.requires middle (omega arith) w.if-regions-first.false);
          }
    ]

pub returns : goal.returns
returns c =
    let i = c.loop-count.invariant in
    record {
      within = omega (arith, i.within);
      front = i.front;
      behind = elim (cases_eq c.loop-count.count 0) [
        | inl z ↦ follow-none c.args.regions.now (c.args.pa + 1) (c.loop-count.first + 1) (omega (arith, i.none z))
        | inr ne ↦
            let e : c.loop-count.first + 1 ≡ c.loop-count.first + c.loop-count.count = omega (arith, c.loop-count-test.false, ne) in
            rw e i.behind
      ];
    }
