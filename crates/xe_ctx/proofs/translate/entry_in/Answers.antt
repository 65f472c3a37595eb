use Rattle.std.proofs.Common.{◌∙◌}
use Rattle.xe_ctx.proofs.Walks.{entry-missing, entry-read}
use Rattle.xe_ctx.proofs.translate.entry_in.Goals as goal

pub returns-in_err-entry : goal.returns-in_err-entry
returns-in_err-entry c = c.from_residual.ensures ∙ entry-missing _ _ _ _ c.in_err-entry.ensures.present.1

pub returns : goal.returns
returns c = entry-read _ _ _ _ _ c.in_ok-entry.ensures.present.0 c.in_ok-entry.ensures.is
