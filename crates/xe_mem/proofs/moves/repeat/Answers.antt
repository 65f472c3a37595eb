use Rattle.std.proofs.Common.{◌≡◌, ◌≤◌, ◌+◌, ◌*◌, ◌-◌, ◌∙◌, sym, ap, refl, arith, length}
use Rattle.std.proofs.Common.{rules, length-append, length-drop, drop, ℕ, zero, suc}
use Rattle.std.proofs.Math.Nat.{mul-suc}
use Rattle.std.proofs.lemmas.List.{take_at, nil_from_length}
use Rattle.xe_mem.proofs.MoveLaws.{repeat-in, repeat-step, repeated-none, repeated-one}
use Rattle.xe_mem.proofs.moves.repeat.Goals as goal

pub returns-then-count-eq0 : goal.returns-then-count-eq0
returns-then-count-eq0 c = let z : length c.args.out.now ≡ 0 = grind arith in nil_from_length c.args.out.now z ∙ sym (repeated-none c.args.unit.now c.args.count c.if-count-eq0.true)

at_least : (n count : ℕ) → (count ≡ 0 → ⊥) → n ≤ n * count
at_least n zero h = absurd (h refl)
at_least n (suc count) h = omega (arith, mul-suc n count)

pub loop-done-init : goal.loop-done-init
loop-done-init c =
    let after = c.copy_from_slice.ensures.after in
    let n : length c.copy_from_slice.new.self ≡ length c.args.unit.now * 1 = ap length after ∙ omega arith in
    let one : length c.args.unit.now ≤ length c.args.unit.now * c.args.count = at_least (length c.args.unit.now) c.args.count c.if-count-eq0.false in
    record {
      size = omega (arith, length-append c.copy_from_slice.new.self (drop (length c.args.unit.now) c.args.out.now), length-drop (length c.args.unit.now) c.args.out.now, ap length after, c.requires.whole);
      some = omega arith;
      few = omega arith;
      filled = take_at c.copy_from_slice.new.self _ (length c.args.unit.now * 1) n ∙ after ∙ sym (repeated-one c.args.unit.now);
    }

pub copy_within-requires-clause-dest_in_bounds : goal.copy_within-requires-clause-dest_in_bounds
copy_within-requires-clause-dest_in_bounds c =
    let few : c.loop-done.done + c.min-more.result ≤ c.args.count = omega arith in
    let r = repeat-in (length c.args.unit.now) c.loop-done.done c.min-more.result c.args.count few in
    let len = c.loop-done.invariant.size in
    let b : c.loop-done.done * length c.args.unit.now + c.min-more.result * length c.args.unit.now ≤ length c.loop-done.out = omega arith in
    search (rules, b)

pub loop-done-preserved : goal.loop-done-preserved
loop-done-preserved c =
    let few : c.loop-done.done + c.min-more.result ≤ c.args.count = omega arith in
    let le : c.min-more.result ≤ c.loop-done.done = omega arith in
    let m : c.min-more.result * length c.args.unit.now - 0 ≡ length c.args.unit.now * c.min-more.result = grind arith in
    record {
      size = c.copy_within.ensures.len ∙ c.loop-done.invariant.size;
      some = omega (arith, c.loop-done.invariant.some);
      few = few;
      filled = rw c.copy_within.ensures.after (repeat-step c.loop-done.out c.args.unit.now c.loop-done.done c.min-more.result c.args.count _ c.loop-done.invariant.size c.loop-done.invariant.filled le few m);
    }
