use Rattle.std.proofs.Common.{drop, arith, ap, ◌∙◌, length-drop}
use Rattle.std.proofs.lemmas.List.{take_all}
use Rattle.xe_base.specs.Bytes.{num}
use Rattle.xe_opmap.proofs.known.back_of.Goals as goal

pub returns : goal.returns
returns c = c.number_of_8.ensures ∙ ap num (take_all 8 (drop 7 c.args.bytes.now) (omega (arith, length-drop 7 c.args.bytes.now, c.told-bytes)))
