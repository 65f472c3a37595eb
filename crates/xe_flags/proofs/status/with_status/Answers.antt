use Rattle.xe_flags.specs.Status.{with_status}
use Rattle.xe_flags.proofs.FlagLaws.{others_kept}
use Rattle.xe_flags.proofs.status.with_status.Goals as goal

pub returns-clause-kept : goal.returns-clause-kept
unfolding with_status
returns-clause-kept c = let e = others_kept c.args.flags c.args.status in cc
