use Rattle.std.proofs.Common.{sym, ◌∙◌, ap}
use Rattle.xe_opmap.proofs.TableLaws.{cell_is, entry_cell, group_below, by_true, by_false, rex_first, rep_second, plain_last}
use Rattle.xe_opmap.proofs.lookup.cell_of.Goals as goal

pub bounds-cell-group : goal.bounds-cell-group
bounds-cell-group c = group_below c.args.op c.in-Group.group c.requires.opcode (sym c.entry.ensures ∙ c.in-Group.is)

pub returns-in-Alone : goal.returns-in-Alone
returns-in-Alone c = sym (ap (entry_cell c.args.conditions c.args.reg) (sym c.entry.ensures ∙ c.in-Alone.is)) ∙ cell_is c.args.conditions c.args.op c.args.reg c.requires.opcode c.requires.reg

pub returns-in-Group : goal.returns-in-Group
returns-in-Group c = sym (ap (entry_cell c.args.conditions c.args.reg) (sym c.entry.ensures ∙ c.in-Group.is)) ∙ cell_is c.args.conditions c.args.op c.args.reg c.requires.opcode c.requires.reg

pub returns-then-conditions : goal.returns-then-conditions
returns-then-conditions c = sym (by_true c.args.conditions.in_64_bit c.in-ByCode.in_64_bit c.in-ByCode.legacy c.if-conditions.true) ∙ sym (ap (entry_cell c.args.conditions c.args.reg) (sym c.entry.ensures ∙ c.in-ByCode.is)) ∙ cell_is c.args.conditions c.args.op c.args.reg c.requires.opcode c.requires.reg

pub returns-else-conditions : goal.returns-else-conditions
returns-else-conditions c = sym (by_false c.args.conditions.in_64_bit c.in-ByCode.in_64_bit c.in-ByCode.legacy c.if-conditions.false) ∙ sym (ap (entry_cell c.args.conditions c.args.reg) (sym c.entry.ensures ∙ c.in-ByCode.is)) ∙ cell_is c.args.conditions c.args.op c.args.reg c.requires.opcode c.requires.reg

pub returns-then-conditions-2 : goal.returns-then-conditions-2
returns-then-conditions-2 c = sym (by_true c.args.conditions.after_f3 c.in-ByF3.after_f3 c.in-ByF3.plain c.if-conditions-2.true) ∙ sym (ap (entry_cell c.args.conditions c.args.reg) (sym c.entry.ensures ∙ c.in-ByF3.is)) ∙ cell_is c.args.conditions c.args.op c.args.reg c.requires.opcode c.requires.reg

pub returns-else-conditions-2 : goal.returns-else-conditions-2
returns-else-conditions-2 c = sym (by_false c.args.conditions.after_f3 c.in-ByF3.after_f3 c.in-ByF3.plain c.if-conditions-2.false) ∙ sym (ap (entry_cell c.args.conditions c.args.reg) (sym c.entry.ensures ∙ c.in-ByF3.is)) ∙ cell_is c.args.conditions c.args.op c.args.reg c.requires.opcode c.requires.reg

pub returns-then-conditions-3 : goal.returns-then-conditions-3
returns-then-conditions-3 c = sym (rex_first c.args.conditions c.in-ByRexB.plain c.in-ByRexB.after_f3 c.in-ByRexB.rex_b c.args.reg c.if-conditions-3.true) ∙ sym (ap (entry_cell c.args.conditions c.args.reg) (sym c.entry.ensures ∙ c.in-ByRexB.is)) ∙ cell_is c.args.conditions c.args.op c.args.reg c.requires.opcode c.requires.reg

pub returns-then-conditions-4 : goal.returns-then-conditions-4
returns-then-conditions-4 c = sym (rep_second c.args.conditions c.in-ByRexB.plain c.in-ByRexB.after_f3 c.in-ByRexB.rex_b c.args.reg c.if-conditions-3.false c.if-conditions-4.true) ∙ sym (ap (entry_cell c.args.conditions c.args.reg) (sym c.entry.ensures ∙ c.in-ByRexB.is)) ∙ cell_is c.args.conditions c.args.op c.args.reg c.requires.opcode c.requires.reg

pub returns-else-conditions-4 : goal.returns-else-conditions-4
returns-else-conditions-4 c = sym (plain_last c.args.conditions c.in-ByRexB.plain c.in-ByRexB.after_f3 c.in-ByRexB.rex_b c.args.reg c.if-conditions-3.false c.if-conditions-4.false) ∙ sym (ap (entry_cell c.args.conditions c.args.reg) (sym c.entry.ensures ∙ c.in-ByRexB.is)) ∙ cell_is c.args.conditions c.args.op c.args.reg c.requires.opcode c.requires.reg
