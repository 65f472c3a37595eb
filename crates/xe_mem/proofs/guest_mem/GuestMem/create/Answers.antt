use Rattle.std.proofs.Common.{◌≡◌, sym, subst, refl, arith, replicate}
use Rattle.xe_mem.specs.Layout.{IsFirstBad}
use Rattle.xe_mem.proofs.LayoutLaws.{bad-follow, bad-layout, large-bad, first-same, total-follow}
use Rattle.xe_mem.proofs.FlatLaws.{areas-zeros}
use Rattle.xe_mem.proofs.guest_mem.GuestMem.create.Goals as goal

the_bad : (c : goal.In-Some) → IsFirstBad c.args.list.now c.in-Some.index
the_bad c = let e = c.in-Some.ensures in record { few = c.if-list-gt-MAX_REGIONS.false; within = e.0; before = e.1; here = e.2 }

pub returns-in-Some-clause-bad : goal.returns-in-Some-clause-bad
returns-in-Some-clause-bad c = λ i. (λ e. let q : c.in-Some.index ≡ i = cc in subst (λ n. IsFirstBad c.args.list.now n) q (the_bad c), λ b. let q = first-same c.args.list.now c.in-Some.index i (the_bad c) b in rw q refl)

pub returns-in-Some-clause-too_large : goal.returns-in-Some-clause-too_large
returns-in-Some-clause-too_large c = (λ e. cc, λ t. absurd (large-bad c.args.list.now c.in-Some.index t (the_bad c)))

pub returns-in-Some-clause-made_but_for_memory : goal.returns-in-Some-clause-made_but_for_memory
returns-in-Some-clause-made_but_for_memory c = λ l. absurd (bad-layout c.args.list.now c.in-Some.index (the_bad c) l)

pub total_len-len-requires : goal.total_len-len-requires
total_len-len-requires c = let t = total-follow c.args.list.now 0 c.in_default.ensures (omega arith) in omega arith

pub returns-then-len-gt-MAX_BYTES-clause-bad : goal.returns-then-len-gt-MAX_BYTES-clause-bad
returns-then-len-gt-MAX_BYTES-clause-bad c = λ i. (λ e. cc, λ b. absurd (bad-follow c.args.list.now i c.in_default.ensures b))

pub returns-in-Ok-clause-made : goal.returns-in-Ok-clause-made
returns-in-Ok-clause-made c =
    let z : c.in-Ok.bytes.items ≡ replicate c.total_len-len.result 0 = c.in-Ok.ensures.items_if_clones_equal (λ y h. h) in
    rw (c.copy_of.ensures, z) (areas-zeros c.args.list.now c.total_len-len.result (sym c.total_len-len.ensures))

pub returns-in-Ok-clause-bad : goal.returns-in-Ok-clause-bad
returns-in-Ok-clause-bad c = λ i. (λ e. cc, λ b. absurd (bad-follow c.args.list.now i c.in_default.ensures b))

pub returns-in-Ok-clause-made_but_for_memory : goal.returns-in-Ok-clause-made_but_for_memory
returns-in-Ok-clause-made_but_for_memory c = λ _. returns-in-Ok-clause-made c

pub returns-in-Err-clause-bad : goal.returns-in-Err-clause-bad
returns-in-Err-clause-bad c = λ i. (λ e. cc, λ b. absurd (bad-follow c.args.list.now i c.in_default.ensures b))
