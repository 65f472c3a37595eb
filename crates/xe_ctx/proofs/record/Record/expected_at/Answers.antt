use Rattle.std.proofs.Common.{sym, arith, ◌≡◌, length}
use Rattle.xe_ctx.proofs.Records.{expected-at, expected-none, expected-asked}
use Rattle.xe_ctx.proofs.record.Record.expected_at.Goals as goal

pub returns-then-at-answers : goal.returns-then-at-answers
returns-then-at-answers c =
    let e : c.as_slice-answers.result.now ≡ c.args.self.now.answers.items = c.as_slice-answers.ensures.value in
    rw e (sym (expected-at c.args.self.now.answers.items c.args.self.now.asked c.args.at _ (rw (← e) c.if-at-answers.true)))

pub returns-then-at-answers-2 : goal.returns-then-at-answers-2
returns-then-at-answers-2 c =
    let e : c.as_slice-answers.result.now ≡ c.args.self.now.answers.items = c.as_slice-answers.ensures.value in
    sym (expected-none c.args.self.now.answers.items c.args.self.now.asked c.args.at (rw (← e) c.if-at-answers-2.true))

pub returns : goal.returns
returns c =
    let e : c.as_slice-answers.result.now ≡ c.args.self.now.answers.items = c.as_slice-answers.ensures.value in
    let n : c.args.at ≡ length c.args.self.now.answers.items = rw (← e) (omega (arith, c.if-at-answers.false, c.if-at-answers-2.false)) in
    rw n (sym (expected-asked c.args.self.now.answers.items c.args.self.now.asked))
