use Rattle.std.proofs.Common.{◌≡◌, false, nat_eq, rules}
use Rattle.std.proofs.lemmas.Bool.{eq-eqb, ne_eqb}
use Rattle.xe_flags.proofs.MulLaws.{divided_is, left_is, exit_zero, exit_none, exit_some}
use Rattle.xe_flags.proofs.quotients.signed_quotient.Goals as goal

pub returns-then-get-eq0 : goal.returns-then-get-eq0
returns-then-get-eq0 g c = exit_zero g.row.W c.args.high c.args.low c.args.by (eq-eqb c.args.by 0 (cc))

pub returns-then-not-has_room : goal.returns-then-not-has_room
returns-then-not-has_room g c =
    let q = divided_is g.row.W c.args.high c.args.low c.args.by c.get.ensures.width (search rules) (search rules) (search rules) in
    let n : nat_eq c.args.by 0 ≡ false = ne_eqb c.args.by 0 (λ e. c.if-get-eq0.false (cc)) in
    exit_none g.row.W c.args.high c.args.low c.args.by _ n q (cc)

pub returns : goal.returns
returns g c =
    let q = divided_is g.row.W c.args.high c.args.low c.args.by c.get.ensures.width (search rules) (search rules) (search rules) in
    let r = left_is g.row.W c.args.high c.args.low c.args.by c.get.ensures.width (search rules) (search rules) (search rules) in
    let n : nat_eq c.args.by 0 ≡ false = ne_eqb c.args.by 0 (λ e. c.if-get-eq0.false (cc)) in
    let e = exit_some g.row.W c.args.high c.args.low c.args.by _ _ n q r (cc) in
    cc
