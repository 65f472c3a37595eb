use Rattle.std.proofs.Common.{ℕ, ◌≡◌, Ok, Err, Bool}
use Rattle.xe_base.specs.declared.access.Fault.{Fault}
use Rattle.xe_base.specs.declared.segment.SegName.{SegName}
use Rattle.xe_seg.specs.Accesses.{access}
use Rattle.xe_ctx.specs.Ending.{Raises}
use Rattle.xe_ctx.specs.Is.{Sight, Does}
use Rattle.xe_ctx.specs.Memory.{locate}
use Rattle.xe_ctx.specs.declared.stop.Stop.TheVariants.{Fault as Faults}
use Rattle.xe_ctx.proofs.Binds.{does_then, does_give, does_stopped, does_look}

-- the segment check, by its answer
module _ (seg : SegName) (offset n : ℕ) (write : Bool) (v : Sight) where
  pub locate_gives : (la : ℕ) → Ok la ≡ access v.step.start.cpu seg offset n write → Does (locate seg offset n write) v (Ok la) v
  unfolding locate
  locate_gives la e = does_then _ (does_look _ v) (rw (← e) does_give)

  pub locate_faults : (f : Fault) → Err f ≡ access v.step.start.cpu seg offset n write → Does (locate seg offset n write) v (Err (Faults f)) v
  unfolding locate
  locate_faults f e = does_then _ (does_look _ v) (rw (← e) (does_stopped (Raises f)))

pub ruleset locate_rules = (locate_gives, locate_faults)
