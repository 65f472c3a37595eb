use Rattle.xe_run.proofs.DriveLaws.{reset-valid}
use Rattle.xe_run.proofs.driver.Driver.new.Goals as goal

pub machine_with-machine-requires : goal.machine_with-machine-requires
machine_with-machine-requires c = rw c.reset-draft.ensures reset-valid
