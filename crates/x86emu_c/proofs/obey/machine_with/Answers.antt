use Rattle.std.proofs.Common.{ap}
use Rattle.x86emu_c.proofs.Reset.{reset-valid}
use Rattle.xe_base.specs.State.{broken}
use Rattle.x86emu_c.proofs.obey.machine_with.Goals as goal

pub unreachable-requires : goal.unreachable-requires
unreachable-requires c = let e = c.in-Err.ensures.refused in let v = reset-valid in let same = ap broken c.reset.ensures in cc
