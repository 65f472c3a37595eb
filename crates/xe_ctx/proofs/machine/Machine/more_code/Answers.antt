use Rattle.std.proofs.Common.{rules, arith}
use Rattle.xe_ctx.specs.Machine.{state_of}
use Rattle.xe_ctx.proofs.FetchLaws.{code-ends, front-loaded, run-read}
use Rattle.xe_ctx.proofs.machine.Machine.more_code.Goals as goal

pub returns-in_err-pa-clause-all : goal.returns-in_err-pa-clause-all
returns-in_err-pa-clause-all c =
    let e = code-ends (state_of c.args.self.now) _ _ _ c.len.ensures.value (omega (arith, c.len.ensures.value, c.requires.room)) c.requires.code c.in_err-pa.ensures.err in
    let h = e.0 in
    search (rules, h)

pub returns-in_err-pa-clause-reason : goal.returns-in_err-pa-clause-reason
returns-in_err-pa-clause-reason c =
    let e = code-ends (state_of c.args.self.now) _ _ _ c.len.ensures.value (omega (arith, c.len.ensures.value, c.requires.room)) c.requires.code c.in_err-pa.ensures.err in
    let h = e.1 in
    search (rules, h)

pub returns-then-n-eq15-clause-code : goal.returns-then-n-eq15-clause-code
returns-then-n-eq15-clause-code c =
    run-read (state_of c.args.self.now) _ _ _ _ _ _ c.len.ensures.value c.in_ok-pa.ensures.few c.requires.code c.in_ok-pa.ensures.run c.append_code.ensures (rw c.if-n-eq15.true c.load.ensures)

pub returns-clause-code : goal.returns-clause-code
returns-clause-code c =
    run-read (state_of c.args.self.now) _ _ _ _ _ _ c.len.ensures.value c.in_ok-pa.ensures.few c.requires.code c.in_ok-pa.ensures.run c.append_code-2.ensures (front-loaded _ _ _ _ _ (omega (arith, c.in_ok-pa.ensures.few)) c.load-2.ensures)
