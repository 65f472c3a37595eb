use Rattle.std.proofs.Common.{sym, ◌∙◌}
use Rattle.xe_opmap.proofs.OperandLaws.{control_got, control_more, control_md}
use Rattle.xe_opmap.proofs.decoder.control_operand.Goals as goal

pub returns-in-Got-operand-clause-value : goal.returns-in-Got-operand-clause-value
returns-in-Got-operand-clause-value c = control_got c.args.size c.args.pre.now c.args.bytes.now c.in-Got.m c.in-Got.used (sym c.byte.ensures.value ∙ c.in-Got.is) c.in-Got-operand.modrm c.in-Got-operand.field-1 (sym c.in-Got-operand.is ∙ c.operand.ensures.value)

pub returns-in-More-clause-value : goal.returns-in-More-clause-value
returns-in-More-clause-value c = control_more c.args.size c.args.pre.now c.args.bytes.now c.in-Got.m c.in-Got.used (sym c.byte.ensures.value ∙ c.in-Got.is) (sym c.in-More.is ∙ c.operand.ensures.value)

pub returns-in-Got-operand-clause-valid : goal.returns-in-Got-operand-clause-valid
returns-in-Got-operand-clause-valid c = (c.in-Got-operand.ensures.valid, control_md c.args.size c.args.pre.now c.args.bytes.now c.in-Got.m c.in-Got.used (sym c.byte.ensures.value ∙ c.in-Got.is) c.in-Got-operand.modrm c.in-Got-operand.field-1 (sym c.in-Got-operand.is ∙ c.operand.ensures.value))
