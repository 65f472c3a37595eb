use Rattle.std.proofs.Common.{◌≡◌, ◌∙◌, sym, rules, false}
use Rattle.xe_ctx.proofs.Places.{place-plain, plain-same, plain-below}
use Rattle.xe_ctx.proofs.ctx.Ctx.place.Goals as goal

pub returns-then-not-pg-clause-below : goal.returns-then-not-pg-clause-below
returns-then-not-pg-clause-below g c =
    let f : c.pg.result ≡ false = search rules in
    plain-below _ _ c.args.kind _ c.cpu.ensures.value c.cpu.ensures.valid (sym c.pg.ensures ∙ f) c.requires.within

pub returns-then-not-pg-clause-part : goal.returns-then-not-pg-clause-part
returns-then-not-pg-clause-part g c =
    let f : c.pg.result ≡ false = search rules in
    place-plain _ _ _ (plain-same _ _ c.cpu.ensures.value (sym c.pg.ensures ∙ f))
