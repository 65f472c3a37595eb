use Rattle.std.proofs.Common.{refl}
use Rattle.xe_run.specs.Driver.{world}
use Rattle.xe_run.proofs.WorldLaws.{call-told, call-after}
use Rattle.xe_run.proofs.driver.Driver.call_once.Goals as goal

pub returns-clause-called : goal.returns-clause-called
returns-clause-called c = call-told (world c.args.self.now) _ _ _ _ _ _ (c.emulate_into.ensures.told _ refl) c.most.ensures.value c.begin.ensures.tape

pub returns-clause-after : goal.returns-clause-after
returns-clause-after c = call-after (world c.args.self.now) _ _ (returns-clause-called c) refl refl refl
