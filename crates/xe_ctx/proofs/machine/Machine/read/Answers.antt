use Rattle.std.proofs.Common.{ℕ, arith}
use Rattle.std.proofs.lemmas.List.{length-take}
use Rattle.xe_ctx.proofs.Work.{are-from, are-len}
use Rattle.xe_ctx.proofs.machine.Machine.read.Goals as goal

pub load_patched-requires : goal.load_patched-requires
load_patched-requires c = are-len _ _ c.args.n _ (omega (arith, length-take {A = ℕ}, c.requires.small)) (are-from _ _ _ c.requires.ram)
