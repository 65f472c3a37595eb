use Rattle.std.proofs.Common.{◌∙◌, refl}
use Rattle.xe_ctx.proofs.Work.{are_ram-patched}
use Rattle.xe_ctx.proofs.Pieces.{piece_ram}
use Rattle.xe_ctx.proofs.Numbers.{number_ends, number_out}
use Rattle.xe_ctx.proofs.ctx.Ctx.read_number.Goals as goal

pub returns-in-Some-clause-part : goal.returns-in-Some-clause-part
returns-in-Some-clause-part g c = λ at. number_ends (piece_ram _ _ _ _ _ (are_ram-patched _ _ _ _ ∙ c.in-Some.ensures.ram) refl) c.in-Some.ensures.is

pub returns-in-None-clause-part : goal.returns-in-None-clause-part
returns-in-None-clause-part g c = λ at. number_out _ _ _ _ _ _ (are_ram-patched _ _ _ _ ∙ c.in-None.ensures.none) c.number_of_devices.ensures.part
