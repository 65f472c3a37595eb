use Rattle.std.proofs.Common.{sym, ◌∙◌, ap}
use Rattle.xe_opmap.proofs.TableLaws.{group_is, is_group_entry}
use Rattle.xe_opmap.proofs.lookup.needs_reg.Goals as goal

pub returns-in-Group : goal.returns-in-Group
returns-in-Group c = sym (ap is_group_entry (sym c.entry.ensures ∙ c.in-Group.is)) ∙ group_is c.args.op c.requires

pub returns-in-Alone : goal.returns-in-Alone
returns-in-Alone c = sym (ap is_group_entry (sym c.entry.ensures ∙ c.in-Alone.is)) ∙ group_is c.args.op c.requires

pub returns-in-ByCode : goal.returns-in-ByCode
returns-in-ByCode c = sym (ap is_group_entry (sym c.entry.ensures ∙ c.in-ByCode.is)) ∙ group_is c.args.op c.requires

pub returns-in-ByF3 : goal.returns-in-ByF3
returns-in-ByF3 c = sym (ap is_group_entry (sym c.entry.ensures ∙ c.in-ByF3.is)) ∙ group_is c.args.op c.requires

pub returns-in-ByRexB : goal.returns-in-ByRexB
returns-in-ByRexB c = sym (ap is_group_entry (sym c.entry.ensures ∙ c.in-ByRexB.is)) ∙ group_is c.args.op c.requires
