use Rattle.std.proofs.Common.{sym, ◌∙◌, ap}
use Rattle.xe_opmap.specs.declared.form.MapConditions.{MapConditions}
use Rattle.xe_opmap.specs.Encoding.{group_cell}
use Rattle.xe_opmap.proofs.GroupLaws.{group_outside, group_invalid, group_plain}
use Rattle.xe_opmap.proofs.decoder.group_part.Goals as goal

pub returns-in-Outside-clause-value : goal.returns-in-Outside-clause-value
returns-in-Outside-clause-value c = group_outside c.args.size c.args.pre.now c.args.op c.args.bytes.now c.in-Got.m c.in-Got.used (sym c.byte.ensures.value ∙ c.in-Got.is) (ap (λ (s : MapConditions). group_cell s c.args.op c.in-Got.m) (sym c.conditions_of.ensures) ∙ sym c.group_cell.ensures.value ∙ c.in-Outside.is)

pub returns-in-Invalid-clause-value : goal.returns-in-Invalid-clause-value
returns-in-Invalid-clause-value c = group_invalid c.args.size c.args.pre.now c.args.op c.args.bytes.now c.in-Got.m c.in-Got.used (sym c.byte.ensures.value ∙ c.in-Got.is) (ap (λ (s : MapConditions). group_cell s c.args.op c.in-Got.m) (sym c.conditions_of.ensures) ∙ sym c.group_cell.ensures.value ∙ c.in-Invalid.is)

pub returns-in-Form-clause-value : goal.returns-in-Form-clause-value
returns-in-Form-clause-value c = c.operand_row.ensures.value ∙ group_plain c.args.size c.args.pre.now c.args.op c.args.bytes.now c.in-Got.m c.in-Got.used (sym c.byte.ensures.value ∙ c.in-Got.is) c.in-Form.form (ap (λ (s : MapConditions). group_cell s c.args.op c.in-Got.m) (sym c.conditions_of.ensures) ∙ sym c.group_cell.ensures.value ∙ c.in-Form.is)
