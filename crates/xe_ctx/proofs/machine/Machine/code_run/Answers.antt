use Rattle.std.proofs.Common.{arith, rules}
use Rattle.xe_ctx.specs.Machine.{state_of}
use Rattle.xe_ctx.proofs.RunLaws.{run-past, run-lost, run-outside, run-is}
use Rattle.xe_ctx.proofs.machine.Machine.code_run.Goals as goal

pub returns-then-room-eq0-clause-err : goal.returns-then-room-eq0-clause-err
returns-then-room-eq0-clause-err c = run-past (state_of c.args.self.now) c.args.i _ (c.code_room-la.ensures.none c.if-room-eq0.true) c.fetch_fault.ensures

pub returns-in_err-pa-clause-err : goal.returns-in_err-pa-clause-err
returns-in_err-pa-clause-err c =
    let h = run-lost (state_of c.args.self.now) c.args.i _ _ c.code_room-la.ensures.room _ (omega (arith, c.if-room-eq0.false)) c.in_err-pa.ensures.err in
    search (rules, h)

pub returns-then-gap-pa-clause-err : goal.returns-then-gap-pa-clause-err
returns-then-gap-pa-clause-err c = run-outside (state_of c.args.self.now) c.args.i _ _ c.code_room-la.ensures.room _ _ c.in_ok-pa.ensures.placed _ (omega (arith, c.if-room-eq0.false)) c.in_ok-pa.ensures.some c.first_gap-gap.ensures.gap c.if-gap-pa.true

pub returns-clause-run : goal.returns-clause-run
returns-clause-run c =
    let a = c.min.ensures in
    let b = c.min-2.ensures in
    let d = c.min-n.ensures in
    let g = c.first_gap-gap.ensures.gap.reached in
    run-is (state_of c.args.self.now) c.args.i _ _ c.code_room-la.ensures.room _ _ c.in_ok-pa.ensures.placed c.first_gap-gap.result _ (omega arith) (omega arith) c.first_gap-gap.ensures.gap (omega arith)
