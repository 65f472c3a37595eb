use Rattle.std.proofs.Common.{◌≡◌, ◌∙◌, sym, rules, false}
use Rattle.xe_ctx.proofs.Widths.{unpaged_not_long}
use Rattle.xe_ctx.proofs.ctx.Ctx.plain_address.Goals as goal

pub returns-else-n-la-clause-low : goal.returns-else-n-la-clause-low
returns-else-n-la-clause-low g c =
    let off : c.pg.result ≡ false = search rules in
    c.in-Ok.ensures.below (unpaged_not_long _ c.cpu-cpu.ensures.valid (sym c.pg.ensures ∙ off))
