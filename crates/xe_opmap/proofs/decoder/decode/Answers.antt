use Rattle.xe_opmap.proofs.RelationLaws.{answers_of}
use Rattle.xe_opmap.proofs.decoder.decode.Goals as goal

pub returns-clause-answers : goal.returns-clause-answers
returns-clause-answers c = answers_of c.args.size c.args.bytes.now c.answer.new.decoded c.answer.ensures.value
