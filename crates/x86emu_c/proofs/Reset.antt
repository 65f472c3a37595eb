-- The registers of a reset are a valid state.
use Rattle.std.proofs.Common.{refl}
use Rattle.xe_base.specs.Reset.{reset_state}
use Rattle.xe_base.specs.State.{Valid, broken}

pub reset-valid : Valid reset_state
unfolding reset_state broken
reset-valid = refl
