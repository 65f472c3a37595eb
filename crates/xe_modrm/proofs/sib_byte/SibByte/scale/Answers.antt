use Rattle.std.proofs.Common.{arith, ◌/◌}
use Rattle.xe_modrm.proofs.ValidLaws.{scale_fits}
use Rattle.xe_modrm.proofs.sib_byte.SibByte.scale.Goals as goal

pub returns-clause-range : goal.returns-clause-range
returns-clause-range c = scale_fits (c.args.self.byte / 64) (omega arith)
