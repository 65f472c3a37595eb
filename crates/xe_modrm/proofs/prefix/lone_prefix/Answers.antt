use Rattle.std.proofs.Common.{subst, sym, get_or, arith}
use Rattle.xe_modrm.specs.Valid.{IsPrefixes}
use Rattle.xe_modrm.specs.declared.part.Prefixes.{Prefixes}
use Rattle.xe_modrm.proofs.ValidLaws.{then_valid, start_valid}
use Rattle.xe_modrm.proofs.PrefixLaws.{some_if, none_if, plain_first, lone_first}
use Rattle.xe_modrm.proofs.prefix.lone_prefix.Goals as goal

pub returns-in-Some-clause-value : goal.returns-in-Some-clause-value
returns-in-Some-clause-value c =
    let taken = some_if _ _ _ c.in-Some.ensures in
    lone_first c.args.size c.args.bytes.now c.in-Some.found c.requires.room taken.0 c.requires.plain taken.1

pub returns-in-Some-clause-valid : goal.returns-in-Some-clause-valid
returns-in-Some-clause-valid c =
    let taken = some_if _ _ _ c.in-Some.ensures in
    subst (λ (p : Prefixes). IsPrefixes c.args.size p) (sym taken.1) (then_valid c.args.size _ (get_or c.args.bytes.now 0 0) (start_valid c.args.size))

pub returns-in-None-clause-value : goal.returns-in-None-clause-value
returns-in-None-clause-value c = plain_first c.args.size c.args.bytes.now (omega arith) (none_if _ _ c.in-None.ensures)
