use Rattle.xe_ctx.proofs.ctx.Ctx.end.Goals as goal

pub keep-requires-clause-well_made : goal.keep-requires-clause-well_made
keep-requires-clause-well_made g c = rw c.made.ensures.value c.requires.open.well_made
