use Rattle.xe_run.proofs.ReasonLaws.{refused_line}
use Rattle.xe_run.proofs.top.answer_text.Goals as goal

pub refusal_line-requires : goal.refusal_line-requires
refusal_line-requires g c =
    rw c.in-Err-Line.reason-is (refused_line c.in-Err-Line.field-0 c.in-Err-Line.number c.in-Err-Line.reason c.args.text.now c.in-Err-Line.field-0-is c.in-Err-Line.ensures.text)
