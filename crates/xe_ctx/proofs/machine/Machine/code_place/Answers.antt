use Rattle.std.proofs.Common.{◌≡◌, sym, rules, false}
use Rattle.xe_base.specs.State.{pg}
use Rattle.xe_ctx.specs.Machine.{state_of}
use Rattle.xe_ctx.proofs.RunLaws.{placed-plain, placed-page}
use Rattle.xe_ctx.proofs.machine.Machine.code_place.Goals as goal

pub returns-then-not-pg-clause-placed : goal.returns-then-not-pg-clause-placed
returns-then-not-pg-clause-placed c =
    let off : pg c.args.self.now.cpu ≡ false = search rules in
    placed-plain (state_of c.args.self.now) c.args.la _ off

pub returns-in-Ok-clause-placed : goal.returns-in-Ok-clause-placed
returns-in-Ok-clause-placed c = placed-page (state_of c.args.self.now) c.args.la _ (rw c.fetch_kind.ensures at (sym c.in-Ok.ensures.is))
