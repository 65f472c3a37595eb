use Rattle.xe_ctx.specs.Kept.{Kept}
use Rattle.xe_ctx.specs.declared.record.Record.{Record}

-- what a record keeps
abbrev pub kept_of : Record → Kept
kept_of r = record { answers = r.answers.items; asked = r.asked }
