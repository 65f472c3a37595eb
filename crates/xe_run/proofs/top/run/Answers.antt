use Rattle.std.proofs.Common.{sym, map, string_bytes}
use Rattle.xe_run.specs.Output.{output}
use Rattle.xe_run.proofs.TopLaws.{output_in_mode, output_with_none, headline, no_read_fault}
use Rattle.xe_run.proofs.top.run.Goals as goal

pub returns-in-Some-clause-output : goal.returns-in-Some-clause-output
returns-in-Some-clause-output g c = output_in_mode _ c.in-Some.mode _ _ _ _ (sym c.in-Some.ensures) c.answer_source.ensures.output

pub returns-in-Some-clause-headline : goal.returns-in-Some-clause-headline
returns-in-Some-clause-headline g c =
    headline (output (map string_bytes c.args.words.now.items)) _ _ _ _ _ _ _ _ (returns-in-Some-clause-output g c) c.answer_source.ensures.read_fault c.answer_source.ensures.write_fault

pub returns-in-None-clause-output : goal.returns-in-None-clause-output
returns-in-None-clause-output g c = output_with_none _ _ _ _ _ (sym c.in-None.ensures) c.say.ensures.output

pub returns-in-None-clause-headline : goal.returns-in-None-clause-headline
returns-in-None-clause-headline g c =
    headline (output (map string_bytes c.args.words.now.items)) _ _ _ _ _ _ _ _ (returns-in-None-clause-output g c) (λ e. absurd (no_read_fault _ c.say.ensures.answer e)) c.say.ensures.write_fault
