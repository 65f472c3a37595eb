use Rattle.std.proofs.Common.{subst}
use Rattle.xe_base.proofs.CalmLaws.{calm_keeps_valid}
use Rattle.xe_base.specs.State.{Valid}
use Rattle.xe_ctx.proofs.machine.Machine.install_calm.Goals as goal

pub invariant_of-self : goal.invariant_of-self
invariant_of-self c = record { valid = subst Valid c.requires.calm.rest (calm_keeps_valid c.args.self.now.cpu c.args.cpu.now c.args.self.now.valid c.requires.calm) }
