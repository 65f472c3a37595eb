use Rattle.std.specs.Prelude.{◌*◌, ◌%◌, ◌^◌}
use Rattle.xe_base.specs.declared.segment.SegName.TheVariants.{Es}
use Rattle.xe_flags.specs.Arithmetic.{alu_flags}
use Rattle.xe_flags.specs.declared.arithmetic.AluOp.TheVariants.{Cmp}
use Rattle.xe_ctx.specs.Definition.{ℕ, Cpu, Insn, Tree, ◌>>=◌, give, load, ax, size_by_opcode, reads}
use Rattle.xe_string.specs.Index.{si, di, source_segment, index, moved, both_moved}

-- Elements that are compared (SDM volume 2, "CMPS" and "SCAS"). Nothing is written but the flags.

-- the flags of CMP of the low n bytes of two numbers: those of the first less the second
abbrev pub compared : ℕ → ℕ → ℕ → ℕ → ℕ
compared n a b flags = alu_flags (8 * n) Cmp (a % 2 ^ (8 * n)) (b % 2 ^ (8 * n)) flags

-- the registers with these flags
abbrev pub with_flags : Cpu → ℕ → Cpu
with_flags cpu flags = record cpu { rflags = flags }

-- CMPS: the source with the destination, of which the source is read first
unfoldable pub cmps_element : Insn → Cpu → Tree Cpu
cmps_element insn cpu = do
  let n = size_by_opcode insn
  a ← load (source_segment insn) (index insn cpu si) n
  b ← load Es (index insn cpu di) n
  give (with_flags (both_moved insn cpu n) (compared n a b cpu.rflags))

-- SCAS: the accumulator with the destination
unfoldable pub scas_element : Insn → Cpu → Tree Cpu
scas_element insn cpu = do
  let n = size_by_opcode insn
  b ← load Es (index insn cpu di) n
  give (with_flags (moved insn cpu di n) (compared n (reads insn cpu n ax) b cpu.rflags))
