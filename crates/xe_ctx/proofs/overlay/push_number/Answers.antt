use Rattle.std.proofs.Common.{arith}
use Rattle.xe_ctx.proofs.Changes.{size-some, length-push, length-runs, patched-run, push-fit}
use Rattle.xe_ctx.proofs.overlay.push_number.Goals as goal

pub push-requires : goal.push-requires
push-requires c = omega (arith, size-some c.args.n c.requires.size, length-runs c.args.runs.now.items)

pub returns-clause-room : goal.returns-clause-room
returns-clause-room c = rw c.push.ensures.items (length-push _ _)

pub returns-clause-is : goal.returns-clause-is
returns-clause-is c = λ ram. rw c.push.ensures.items (patched-run ram _ _)

pub returns-clause-in_ram : goal.returns-clause-in_ram
returns-clause-in_ram c = λ ram are all. rw c.push.ensures.items (push-fit ram _ _ are all)
