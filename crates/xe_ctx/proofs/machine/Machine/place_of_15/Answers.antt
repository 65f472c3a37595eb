use Rattle.std.proofs.Common.{◌≡◌, rules, false}
use Rattle.xe_base.specs.State.{pg}
use Rattle.xe_ctx.specs.Machine.{state_of}
use Rattle.xe_ctx.proofs.RunLaws.{placed-plain}
use Rattle.xe_ctx.proofs.machine.Machine.place_of_15.Goals as goal

pub returns-then-not-pg : goal.returns-then-not-pg
returns-then-not-pg c =
    let off : pg c.args.self.now.cpu ≡ false = search rules in
    placed-plain (state_of c.args.self.now) c.args.la 15 off
