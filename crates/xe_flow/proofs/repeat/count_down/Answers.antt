use Rattle.xe_flow.proofs.Cuts.{count_cut}
use Rattle.xe_flow.proofs.repeat.count_down.Goals as goal

pub returns : goal.returns
returns c = let a = c.low_bytes.ensures in let b = c.count.ensures in rw (a, b) (count_cut c.args.insn.now.adsize _ c.requires.parts.adsize)
