use Rattle.std.proofs.Common.{◌≡◌, Result, Ok, Err}
use Rattle.xe_base.specs.declared.access.Fault.{Fault}
use Rattle.xe_ctx.specs.Is.{Sight, Is}
use Rattle.xe_ctx.proofs.Trees.{is_give}
use Rattle.xe_far.specs.CodeSegment.{or_raise}

-- a check that passed goes on
pub raise_passes : (r : Result (Unit {0}) Fault) (v : Sight) → r ≡ Ok tt → Is (or_raise r) v (Ok tt) v
unfolding or_raise
raise_passes (Ok x) v e = is_give
raise_passes (Err f) v e = cc
