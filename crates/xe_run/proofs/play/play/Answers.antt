use Rattle.xe_run.specs.Driver.{world}
use Rattle.xe_run.proofs.DriveLaws.{drive-start}
use Rattle.xe_run.proofs.play.play.Goals as goal

pub returns-in-Ok-obey_all-clause-writes : goal.returns-in-Ok-obey_all-clause-writes
returns-in-Ok-obey_all-clause-writes g c =
    let from_start = drive-start (world c.in-Ok.driver) c.args.scene.now.regions.items c.args.scene.now.commands c.in-Ok.ensures.start in
    rw (← from_start) c.in-Ok-obey_all.ensures.writes

pub returns-clause-writes : goal.returns-clause-writes
returns-clause-writes g c =
    let from_start = drive-start (world c.in-Ok.driver) c.args.scene.now.regions.items c.args.scene.now.commands c.in-Ok.ensures.start in
    rw (← from_start) c.in-Err-obey_all.ensures.writes
