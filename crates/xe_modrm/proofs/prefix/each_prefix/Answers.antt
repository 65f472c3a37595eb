use Rattle.std.proofs.Common.{refl, arith, subst, sym, get_or}
use Rattle.std.proofs.lemmas.List.Sums.{prefix_len-drop_yes, prefix_len-drop_no, prefix_len-drop_all}
use Rattle.xe_modrm.specs.Prefix.{is_prefix, prefixes_of}
use Rattle.xe_modrm.specs.Valid.{IsPrefixes}
use Rattle.xe_modrm.specs.declared.part.Prefixes.{Prefixes}
use Rattle.xe_modrm.proofs.ValidLaws.{then_valid, start_valid}
use Rattle.xe_modrm.proofs.PrefixLaws.{some_if, none_if, step_found, got_at, more_at}
use Rattle.xe_modrm.proofs.prefix.each_prefix.Goals as goal

pub loop-i-init : goal.loop-i-init
unfolding prefixes_of
loop-i-init c = record { found = refl; passed = omega arith; valid = start_valid c.args.size }

pub loop-i-preserved : goal.loop-i-preserved
loop-i-preserved c =
    let taken = some_if _ _ _ c.in-Some.ensures in
    let one = prefix_len-drop_yes (is_prefix c.args.size) c.args.bytes.now c.loop-i.i 0 (omega arith) taken.0 in
    record { found = step_found c.args.size c.args.bytes.now c.loop-i.i c.loop-i.found c.in-Some.next (omega arith) c.loop-i.invariant.found taken.1; passed = omega arith; valid = subst (λ (p : Prefixes). IsPrefixes c.args.size p) (sym taken.1) (then_valid c.args.size c.loop-i.found (get_or c.args.bytes.now c.loop-i.i 0) c.loop-i.invariant.valid) }

pub returns-in-None-clause-value : goal.returns-in-None-clause-value
returns-in-None-clause-value c =
    let refused = none_if _ _ c.in-None.ensures in
    let none = prefix_len-drop_no (is_prefix c.args.size) c.args.bytes.now c.loop-i.i 0 (omega arith) refused in
    got_at c.args.size c.args.bytes.now c.loop-i.i c.loop-i.found (omega arith) (omega arith) c.loop-i.invariant.found

pub returns-clause-value : goal.returns-clause-value
returns-clause-value c =
    let none = prefix_len-drop_all (is_prefix c.args.size) c.args.bytes.now c.loop-i.i (omega arith) in
    more_at c.args.size c.args.bytes.now c.loop-i.i (omega arith) (omega arith)

pub returns-in-None-clause-valid : goal.returns-in-None-clause-valid
returns-in-None-clause-valid c = c.loop-i.invariant.valid
