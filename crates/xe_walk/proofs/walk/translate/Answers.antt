use Rattle.std.proofs.Common.{◌≡◌, ◌∙◌, sym, rules, false}
use Rattle.xe_base.specs.State.{pg}
use Rattle.xe_walk.proofs.Bounds.{hit-offset, hit-width, hit-few, hit-places, hit-visits, plain-walk, plain-entries}
use Rattle.xe_walk.proofs.walk.translate.Goals as goal

pub returns-then-not-pg-clause-is : goal.returns-then-not-pg-clause-is
returns-then-not-pg-clause-is g c =
    let off : pg c.args.cpu.now ≡ false = search rules in
    rw c.new.ensures (sym (plain-walk (g.P.Phys.ram c.args.ram.now) c.args.cpu.now c.args.la c.args.kind off))

pub returns-then-not-pg-clause-visits : goal.returns-then-not-pg-clause-visits
returns-then-not-pg-clause-visits g c =
    let off : pg c.args.cpu.now ≡ false = search rules in
    c.new.ensures ∙ sym (plain-entries (g.P.Phys.ram c.args.ram.now) c.args.cpu.now c.args.la off)

pub returns-clause-offset : goal.returns-clause-offset
returns-clause-offset g c = hit-offset (g.P.Phys.ram c.args.ram.now) c.args.cpu.now c.args.la c.args.kind c.walk_tables.result c.walk_tables.ensures.is

pub returns-clause-width : goal.returns-clause-width
returns-clause-width g c = hit-width (g.P.Phys.ram c.args.ram.now) c.args.cpu.now c.args.la c.args.kind c.walk_tables.result c.walk_tables.ensures.is

pub returns-clause-few : goal.returns-clause-few
returns-clause-few g c = hit-few (g.P.Phys.ram c.args.ram.now) c.args.cpu.now c.args.la c.args.kind c.walk_tables.result c.walk_tables.ensures.is

pub returns-clause-places : goal.returns-clause-places
returns-clause-places g c = hit-places (g.P.Phys.ram c.args.ram.now) c.args.cpu.now c.args.la c.args.kind c.walk_tables.result c.walk_tables.ensures.is

pub returns-clause-visits : goal.returns-clause-visits
returns-clause-visits g c = hit-visits (g.P.Phys.ram c.args.ram.now) c.args.cpu.now c.args.la c.args.kind c.walk_tables.result c.walk_tables.ensures.is
