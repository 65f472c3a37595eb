use Rattle.std.proofs.Common.{◌+◌, ◌*◌, ◌%◌, List, ℕ, ap, ◌∙◌, arith}
use Rattle.xe_run.specs.declared.event.Event.TheVariants.{Memory}
use Rattle.xe_run.proofs.TextLaws.{memory-piece}
use Rattle.xe_run.proofs.print.memory_line.Goals as goal

pub returns : goal.returns
returns c =
    let ok = rw c.unwrap.ensures at c.try_extend_from_slice.ensures.ok in
    let items = rw c.new-piece.ensures at ok in
    let piece = memory-piece c.args.bytes.now (16 * c.args.line) c.min-end.result (omega arith) c.min-end.ensures in
    ap (λ (xs : List ℕ). Memory ((c.args.pa + 16 * c.args.line) % 18446744073709551616) (record { items = xs })) (items ∙ piece)
