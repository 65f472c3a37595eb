use Rattle.std.proofs.Common.{◌<◌, ◌^◌, arith, rules, ap, ◌∙◌}
use Rattle.xe_base.specs.Words.{IsWidth}
use Rattle.xe_base.proofs.WidthLaws.{sizes}
use Rattle.xe_flags.specs.Scans.{scan_found}
use Rattle.xe_flags.proofs.ScanLaws.{found_none, found_lowest, found_highest}
use Rattle.xe_flags.proofs.scans.scan.Goals as goal

small : (g : _) (c : goal.After-with_status g) → c.args.a < 2 ^ 64
small g c =
    let width : IsWidth g.row.W = search rules in
    let s = sizes g.row.W width in
    omega (arith, s.fits)

pub returns-clause-none : goal.returns-clause-none
returns-clause-none g c = found_none c.args.op c.args.a c.found.result c.found.ensures

pub returns-clause-lowest : goal.returns-clause-lowest
returns-clause-lowest g c = λ is. found_lowest c.args.a c.found.result (small g c) (c.found.ensures ∙ ap (λ op. scan_found op c.args.a) is)

pub returns-clause-highest : goal.returns-clause-highest
returns-clause-highest g c = λ is. found_highest c.args.a c.found.result (small g c) (c.found.ensures ∙ ap (λ op. scan_found op c.args.a) is)

pub returns-clause-count : goal.returns-clause-count
unfolding scan_found
returns-clause-count g c = λ is. c.found.ensures ∙ ap (λ op. scan_found op c.args.a) is
