use Rattle.std.proofs.Common.{◌≡◌, false, nat_eq}
use Rattle.std.proofs.lemmas.Bool.{ne_eqb}
use Rattle.xe_flags.proofs.ScanLaws.{none_forward, some_forward}
use Rattle.xe_flags.proofs.scans.lowest_one.Goals as goal

pub returns-then-value-eq0 : goal.returns-then-value-eq0
returns-then-value-eq0 g c = none_forward c.args.a (cc)

pub returns : goal.returns
returns g c =
    let n : nat_eq c.args.a 0 ≡ false = ne_eqb c.args.a 0 (λ e. c.if-value-eq0.false (cc)) in
    some_forward g.row.W c.args.a c.new.result c.get-value.ensures.width n (cc)
