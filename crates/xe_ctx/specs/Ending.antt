use Rattle.std.specs.Prelude.{Result, Ok, Err}
use Rattle.xe_base.specs.declared.access.Fault.{Fault}
use Rattle.xe_icpt.specs.declared.exit.Exit.{Exit}
use Rattle.xe_ctx.specs.declared.stop.Event.{Event}
use Rattle.xe_ctx.specs.declared.stop.Handoff.{Handoff}
use Rattle.xe_ctx.specs.declared.stop.Stop.{Stop}
use Rattle.xe_ctx.specs.declared.stop.Stop.TheVariants as stops

-- How an instruction can end by its definition, other than by finishing. That a device isn't ready, or fails, or that a kept answer
-- belongs to another access, is no such end: it is said of the answers that a step is given.
pub data Ending : Type 0 where
  -- an exception
  Raises : Fault → Ending
  -- what it is about to do is intercepted
  Exits : Exit → Ending
  -- a software interrupt
  Interrupts : Event → Ending
  -- something that the caller is to go on with
  HandsOver : Handoff → Ending

-- how the code tells it
abbrev pub stop_of : Ending → Stop
stop_of (Raises f) = stops.Fault f
stop_of (Exits e) = stops.Intercept e
stop_of (Interrupts e) = stops.Event e
stop_of (HandsOver h) = stops.Handoff h

-- a result as the code tells it
abbrev pub stopped : {T : Type 0} → Result T Ending → Result T Stop
stopped (Ok x) = Ok x
stopped (Err e) = Err (stop_of e)
