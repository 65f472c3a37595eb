use Rattle.xe_opmap.proofs.TableLaws.{shape_is}
use Rattle.xe_opmap.proofs.lookup.cell_at.Goals as goal

pub returns-clause-cell : goal.returns-clause-cell
returns-clause-cell c = shape_is c.args.conditions c.args.op c.args.reg c.cell_of.result.now c.requires.opcode c.cell_of.ensures
