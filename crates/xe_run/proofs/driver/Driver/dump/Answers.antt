use Rattle.std.proofs.Common.{rules, arith}
use Rattle.std.proofs.lemmas.Grind.{common_steps}
use Rattle.xe_run.specs.Driver.{world}
use Rattle.xe_run.proofs.DriveLaws.{dump-within, dump-outside}
use Rattle.xe_run.proofs.driver.Driver.dump.Goals as goal

pub returns-in-Ok-clause-writes : goal.returns-in-Ok-clause-writes
returns-in-Ok-clause-writes g c =
    rw (dump-within c.args.pa c.args.len _ (world c.args.self.now) c.peek.new.out (first_of (search rules, grind (arith, common_steps))) c.in-Ok.ensures.ok c.in-Ok.ensures.read) c.print_memory.ensures.writes

pub returns-in-Err-clause-writes : goal.returns-in-Err-clause-writes
returns-in-Err-clause-writes g c =
    rw (dump-outside c.args.pa c.args.len _ (world c.args.self.now) c.in-Err.hole.pa (first_of (search rules, grind (arith, common_steps))) c.in-Err.ensures.err) c.print.ensures.writes
