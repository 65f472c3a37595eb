use Rattle.std.proofs.Common.{sym, arith}
use Rattle.xe_ctx.specs.Machine.{state_of}
use Rattle.xe_ctx.proofs.RunLaws.{placed-page, placed-less}
use Rattle.xe_ctx.proofs.machine.Machine.page_of_15.Goals as goal

pub returns-in-Ok : goal.returns-in-Ok
returns-in-Ok c =
    let page = placed-page (state_of c.args.self.now) c.args.la _ (rw c.fetch_kind.ensures at (sym c.in-Ok.ensures.is)) in
    placed-less (state_of c.args.self.now) c.args.la _ _ 15 (omega (arith, c.if-la.false)) page
