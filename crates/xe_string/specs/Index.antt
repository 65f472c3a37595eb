use Rattle.std.specs.Prelude.{◌+◌, ◌-◌, ◌*◌, ◌%◌, ◌^◌, if◌then◌else◌}
use Rattle.xe_base.specs.declared.segment.SegName.{SegName}
use Rattle.xe_base.specs.declared.segment.SegName.TheVariants.{Ds}
use Rattle.xe_flags.specs.Status.{flag}
use Rattle.xe_modrm.specs.Address.{or_segment}
use Rattle.xe_ctx.specs.Definition.{ℕ, Bool, Cpu, Insn, reads, writes}

-- Where the elements of strings lie (SDM volume 1, "String Instructions"). The index registers have the address size.

-- the numbers of RSI, which indexes the source, and of RDI, which indexes the destination
abbrev pub si : ℕ
si = 6

abbrev pub di : ℕ
di = 7

-- the source lies in DS, or in the segment of a prefix; the destination lies in ES always
abbrev pub source_segment : Insn → SegName
source_segment insn = or_segment insn.pre.seg Ds

-- the offset that an index register holds
abbrev pub index : Insn → Cpu → ℕ → ℕ
index insn cpu register = reads insn cpu insn.adsize register

-- the place of DF in the flags: where it is set, strings are gone through downwards
abbrev pub df : ℕ
df = 10

abbrev pub is_down : Cpu → Bool
is_down cpu = flag cpu.rflags df

-- the offset n bytes further in the direction of the string; it wraps in the address size
abbrev pub further : Insn → Cpu → ℕ → ℕ → ℕ
further insn cpu offset n = (if is_down cpu then offset + 2 ^ (8 * insn.adsize) - n else offset + n) % 2 ^ (8 * insn.adsize)

-- the registers after an index register moved behind an element of n bytes
unfoldable pub moved : Insn → Cpu → ℕ → ℕ → Cpu
moved insn cpu register n = writes insn cpu insn.adsize register (further insn cpu (index insn cpu register) n)

-- after both did
abbrev pub both_moved : Insn → Cpu → ℕ → Cpu
both_moved insn cpu n = moved insn (moved insn cpu si n) di n
