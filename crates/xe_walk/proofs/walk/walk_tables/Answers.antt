use Rattle.std.proofs.Common.{◌≡◌, ◌∙◌, ◌≤◌, ◌+◌, get_or, sym, ap, refl, rules, arith, length, Some, None, true, false, Err}
use Rattle.xe_base.specs.Bits.{bit}
use Rattle.xe_walk.proofs.FormatLaws.{no_level, level-at, levels_length, large-below}
use Rattle.xe_walk.proofs.Descents.{exit-outside, exit-absent, exit-reserved, exit-large, next, done, walk-top, counted-up, counted-by_one}
use Rattle.xe_walk.specs.Entry.{entry_of}
use Rattle.xe_walk.specs.Format.{has_reserved, is_large}
use Rattle.xe_walk.specs.declared.walk.WalkStop.TheVariants.{Page}
use Rattle.xe_walk.proofs.walk.walk_tables.Goals as goal

pub loop-level-init : goal.loop-level-init
loop-level-init g c = record {
  table = c.root-table.ensures.below;
  used = ap length c.new-used.ensures;
  same = refl;
  grows = omega arith;
  reads = omega arith;
  walk = rw c.new-used.ensures (walk-top (g.P.Phys.ram c.args.ram.now) c.args.cpu.now c.args.la c.args.kind _ _ c.requires c.levels-level-items.ensures.value c.root-table.ensures.value);
}

pub place-pa-requires-clause-level : goal.place-pa-requires-clause-level
place-pa-requires-clause-level g c = level-at c.args.cpu.now _ _ no_level c.levels-level-items.ensures.value c.loop-level-test.true

pub entry-requires : goal.entry-requires
entry-requires g c = (level-at c.args.cpu.now _ _ no_level c.levels-level-items.ensures.value c.loop-level-test.true).size

pub frame-requires-clause-level : goal.frame-requires-clause-level
frame-requires-clause-level g c = level-at c.args.cpu.now _ _ no_level c.levels-level-items.ensures.value c.loop-level-test.true

pub frame-table-requires-clause-level : goal.frame-table-requires-clause-level
frame-table-requires-clause-level g c = level-at c.args.cpu.now _ _ no_level c.levels-level-items.ensures.value c.loop-level-test.true

pub frame-requires-clause-low : goal.frame-requires-clause-low
frame-requires-clause-low g c =
    let level = level-at c.args.cpu.now _ _ no_level c.levels-level-items.ensures.value c.loop-level-test.true in
    omega (arith, level.shift)

pub push-requires : goal.push-requires
push-requires g c = omega (arith, levels_length c.args.cpu.now, ap length c.levels-level-items.ensures.value)

pub returns-in_default-clause-is : goal.returns-in_default-clause-is
returns-in_default-clause-is g c =
    let e : entry_of (g.P.Phys.ram c.args.ram.now) _ _ ≡ None = rw (c.loop-level.invariant.same) at (sym c.entry.ensures.value ∙ c.in_default.is) in
    exit-outside _ _ _ _ _ _ no_level c.loop-level-test.true _ _ _ _ c.place-pa.ensures refl e ∙ c.loop-level.invariant.walk

pub returns-then-not-bit-clause-is : goal.returns-then-not-bit-clause-is
returns-then-not-bit-clause-is g c =
    let e : entry_of (g.P.Phys.ram c.args.ram.now) _ _ ≡ Some c.in-Some.value = rw (c.loop-level.invariant.same) at (sym c.entry.ensures.value ∙ c.in-Some.is) in
    let b : bit c.in-Some.value 0 ≡ false = search rules in
    ap (λ x. Err (Page x)) c.fault_at.ensures ∙ exit-absent _ _ _ _ _ _ no_level c.loop-level-test.true _ _ _ _ c.place-pa.ensures refl _ e b ∙ c.loop-level.invariant.walk

pub returns-then-has_reserved-clause-is : goal.returns-then-has_reserved-clause-is
returns-then-has_reserved-clause-is g c =
    let e : entry_of (g.P.Phys.ram c.args.ram.now) _ _ ≡ Some c.in-Some.value = rw (c.loop-level.invariant.same) at (sym c.entry.ensures.value ∙ c.in-Some.is) in
    let b : bit c.in-Some.value 0 ≡ true = search rules in
    let r : has_reserved c.args.cpu.now (get_or c.levels-level-items.result.now c.loop-level.level-index no_level) c.in-Some.value ≡ true = search rules in
    ap (λ x. Err (Page x)) c.fault_at-then-has_reserved.ensures ∙ exit-reserved _ _ _ _ _ _ no_level c.loop-level-test.true _ _ _ _ c.place-pa.ensures refl _ e b r ∙ c.loop-level.invariant.walk

pub land-requires-clause-low : goal.land-requires-clause-low
land-requires-clause-low g c =
    let level = level-at c.args.cpu.now _ _ no_level c.levels-level-items.ensures.value c.loop-level-test.true in
    let l : is_large (get_or c.levels-level-items.result.now c.loop-level.level-index no_level) c.in-Some.value ≡ true = search rules in
    large-below _ _ level l

pub returns-then-is_large-clause-is : goal.returns-then-is_large-clause-is
returns-then-is_large-clause-is g c =
    let e : entry_of (g.P.Phys.ram c.args.ram.now) _ _ ≡ Some c.in-Some.value = rw (c.loop-level.invariant.same) at (sym c.entry.ensures.value ∙ c.in-Some.is) in
    let b : bit c.in-Some.value 0 ≡ true = search rules in
    let r : has_reserved c.args.cpu.now (get_or c.levels-level-items.result.now c.loop-level.level-index no_level) c.in-Some.value ≡ false = search rules in
    let l : is_large (get_or c.levels-level-items.result.now c.loop-level.level-index no_level) c.in-Some.value ≡ true = search rules in
    rw (c.push.ensures.items, c.frame.ensures.value) at c.land.ensures ∙ exit-large _ _ _ _ _ _ no_level c.loop-level-test.true _ _ _ _ c.place-pa.ensures refl _ e b r l ∙ c.loop-level.invariant.walk

pub loop-level-preserved : goal.loop-level-preserved
loop-level-preserved g c =
    let e : entry_of (g.P.Phys.ram c.args.ram.now) _ _ ≡ Some c.in-Some.value = rw (c.loop-level.invariant.same) at (sym c.entry.ensures.value ∙ c.in-Some.is) in
    let b : bit c.in-Some.value 0 ≡ true = search rules in
    let r : has_reserved c.args.cpu.now (get_or c.levels-level-items.result.now c.loop-level.level-index no_level) c.in-Some.value ≡ false = search rules in
    let l : is_large (get_or c.levels-level-items.result.now c.loop-level.level-index no_level) c.in-Some.value ≡ false = search rules in
    let up : g.P.Phys.reads c.loop-level.ram ≤ g.P.Phys.reads c.entry.new.self = counted-up (g.P.Phys.reads c.loop-level.ram) (g.P.Phys.reads c.entry.new.self) c.entry.ensures.counted in
    let by_one : g.P.Phys.reads c.entry.new.self ≤ g.P.Phys.reads c.loop-level.ram + 1 = counted-by_one (g.P.Phys.reads c.loop-level.ram) (g.P.Phys.reads c.entry.new.self) c.entry.ensures.counted in
    record {
      table = c.frame-table.ensures.below;
      used = omega (arith, c.push.ensures.len);
      same = c.entry.ensures.same ∙ c.loop-level.invariant.same;
      grows = omega arith;
      reads = omega arith;
      walk = rw (c.push.ensures.items, c.frame-table.ensures.value) (sym (next _ _ _ _ _ _ no_level c.loop-level-test.true _ _ _ _ c.place-pa.ensures refl _ e b r l) ∙ c.loop-level.invariant.walk);
    }

pub returns-clause-is : goal.returns-clause-is
returns-clause-is g c = c.land-2.ensures ∙ done _ _ _ _ _ _ _ _ c.loop-level-test.false ∙ c.loop-level.invariant.walk
