use Rattle.std.specs.Prelude.{◌*◌, ◌%◌, ◌^◌}
use Rattle.xe_base.specs.declared.segment.SegName.TheVariants.{Es}
use Rattle.xe_ctx.specs.Definition.{Cpu, Insn, Tree, ◌>>=◌, give, load, store, ax, size_by_opcode, reads, writes}
use Rattle.xe_string.specs.Index.{si, di, source_segment, index, moved, both_moved}

-- Elements that are moved (SDM volume 2, "MOVS", "STOS" and "LODS").

-- MOVS: the source to the destination
unfoldable pub movs_element : Insn → Cpu → Tree Cpu
movs_element insn cpu = do
  let n = size_by_opcode insn
  value ← load (source_segment insn) (index insn cpu si) n
  _ ← store Es (index insn cpu di) n value
  give (both_moved insn cpu n)

-- STOS: the accumulator to the destination
unfoldable pub stos_element : Insn → Cpu → Tree Cpu
stos_element insn cpu = do
  let n = size_by_opcode insn
  _ ← store Es (index insn cpu di) n (reads insn cpu n ax % 2 ^ (8 * n))
  give (moved insn cpu di n)

-- LODS: the source to the accumulator
unfoldable pub lods_element : Insn → Cpu → Tree Cpu
lods_element insn cpu = do
  let n = size_by_opcode insn
  value ← load (source_segment insn) (index insn cpu si) n
  give (moved insn (writes insn cpu n ax value) si n)
