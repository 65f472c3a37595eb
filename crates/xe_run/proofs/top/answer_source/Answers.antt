use Rattle.std.proofs.Common.{arith}
use Rattle.xe_run.proofs.TopLaws.{all_of, left_over, reads_all, reads_enough}
use Rattle.xe_run.specs.Output.{Answers, answer}
use Rattle.xe_run.proofs.top.answer_source.Goals as goal

pub returns-in-Ok-clause-output : goal.returns-in-Ok-clause-output
returns-in-Ok-clause-output g c =
    all_of (λ read. Answers c.answer_text.result (answer c.args.mode read) (g.K.Sink.written c.args.out.now) (g.K.Sink.written c.answer_text.new.out)) _ _ _ c.deref.result.now c.deref.ensures.value c.in-Ok.ensures.taken (omega (arith, c.in-Ok.text.ok.0, c.in-Ok.ensures.bounded)) (λ h. c.in-Ok.ensures.ended (omega (arith, c.in-Ok.text.ok.0))) c.answer_text.ensures.output

pub returns-in-Ok-clause-reads_all : goal.returns-in-Ok-clause-reads_all
returns-in-Ok-clause-reads_all g c =
    reads_all c.args.mode _ _ _ _ _ (left_over _ _ _ c.in-Ok.ensures.taken (omega (arith, c.in-Ok.text.ok.0, c.in-Ok.ensures.bounded)) (λ h. c.in-Ok.ensures.ended (omega (arith, c.in-Ok.text.ok.0)))) (returns-in-Ok-clause-output g c)

pub returns-in-Ok-clause-reads_enough : goal.returns-in-Ok-clause-reads_enough
returns-in-Ok-clause-reads_enough g c =
    reads_enough _ _ _ (left_over _ _ _ c.in-Ok.ensures.taken (omega (arith, c.in-Ok.text.ok.0, c.in-Ok.ensures.bounded)) (λ h. c.in-Ok.ensures.ended (omega (arith, c.in-Ok.text.ok.0))))
