use Rattle.std.specs.Prelude.{◌<◌}
use Rattle.xe_base.specs.State.{Valid}
use Rattle.xe_base.specs.declared.access.Answer.{Answer}
use Rattle.xe_ctx.specs.Tree.{Tree, asks, fault, event, handoff, give}
use Rattle.xe_ctx.specs.declared.stop.Finish.{Finish}

-- this holds of each value that a part of an instruction can come to, whatever the answers are
abbrev pub EachGives : {T : Type 0} → (T → Type 0) → Tree T → Type 0
EachGives P (asks r k) = (a : Answer) → EachGives P (k a)
EachGives P (fault e) = Unit {0}
EachGives P (event e) = Unit {0}
EachGives P (handoff h) = Unit {0}
EachGives P (give x) = P x

-- an instruction finishes in a valid state, and with less than the bit that TF adds
pub record IsSound (f : Finish) : Type 0 where
  pub valid : Valid f.cpu
  pub retire : f.retire < 8
