use Rattle.std.proofs.Common.{◌≡◌, take}
use Rattle.xe_ctx.proofs.report.Report.tell.Given as goal

abbrev pub invariant-loop-made : goal.invariant-loop-made
invariant-loop-made l = l.self ≡ record l.initial.self { accesses = record { items = take l.made-index l.accesses } }
