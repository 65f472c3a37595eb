use Rattle.std.specs.Prelude.{Result, Ok, Err}
use Rattle.xe_ctx.specs.declared.stop.Finish.{Finish}
use Rattle.xe_ctx.specs.declared.stop.Flow.{Flow}
use Rattle.xe_ctx.specs.declared.stop.Flow.TheVariants.{Finish as Finishes, Stopped}
use Rattle.xe_ctx.specs.declared.stop.Stop.{Stop}

-- what a flow stands for
abbrev pub outcome : Flow → Result Finish Stop
outcome (Finishes cpu more retire) = Ok (record { cpu = cpu; more = more; retire = retire })
outcome (Stopped s) = Err s
