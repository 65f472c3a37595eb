use Rattle.std.specs.Prelude.{ℕ}
use Rattle.xe_base.specs.declared.cpu.Cpu.{Cpu}
use Rattle.xe_opmap.specs.declared.insn.Insn.{Insn}
use Rattle.xe_ctx.specs.Tree.{Tree, give}
use Rattle.xe_ctx.specs.Operand.{IsOperand, read_operand}
use Rattle.xe_move.specs.declared.source.Source.{Source}
use Rattle.xe_move.specs.declared.source.Source.TheVariants.{Number, Place}

-- the number that is read from a source of n bytes: an immediate as it stands, or an operand
unfoldable pub read_source : Insn → Cpu → Source → ℕ → Tree ℕ
read_source insn cpu (Number value) n = give value
read_source insn cpu (Place operand) n = read_operand insn cpu operand n

-- a source that there is
abbrev pub IsSource : Source → Type 0
IsSource (Number value) = Unit {0}
IsSource (Place operand) = IsOperand operand
