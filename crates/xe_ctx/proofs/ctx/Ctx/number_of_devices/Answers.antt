use Rattle.std.proofs.Common.{◌∙◌, ap}
use Rattle.xe_base.specs.Bytes.{num}
use Rattle.xe_ctx.proofs.Numbers.{number_ends}
use Rattle.xe_ctx.proofs.ctx.Ctx.number_of_devices.Goals as goal

pub returns-clause-part : goal.returns-clause-part
returns-clause-part g c = number_ends c.in_ok-bytes.ensures.part (c.number_of.ensures.is ∙ ap num c.as_slice.ensures.value)
