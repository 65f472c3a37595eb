use Rattle.xe_ctx.specs.Definition.{Cpu, Insn, Tree}
use Rattle.xe_string.specs.Compare.{cmps_element, scas_element}
use Rattle.xe_string.specs.Port.{ins_element, outs_element}
use Rattle.xe_string.specs.Transfer.{movs_element, stos_element, lods_element}
use Rattle.xe_string.specs.declared.element.StringOp.{StringOp}
use Rattle.xe_string.specs.declared.element.StringOp.TheVariants.{Movs, Cmps, Stos, Lods, Scas, Ins, Outs}

-- what a string instruction does with one element, from the registers; it leaves the instruction pointer and the count as they are
abbrev pub element : StringOp → Insn → Cpu → Tree Cpu
element Movs = movs_element
element Cmps = cmps_element
element Stos = stos_element
element Lods = lods_element
element Scas = scas_element
element Ins = ins_element
element Outs = outs_element
