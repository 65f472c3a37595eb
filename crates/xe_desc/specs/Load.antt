use Rattle.std.specs.Prelude.{◌+◌, ◌*◌, ◌%◌, ◌^◌, ◌==◌, ◌&&◌, if◌then◌else◌, Result, Ok, Err}
use Rattle.xe_ctx.specs.Definition.{ℕ, Bool, false, not, Option, Some, None, Fault, Cpu, Insn, Tree, ◌>>=◌, give, fault, load, operand_of, reg_of, writes, read_operand, write_operand, ends}
use Rattle.xe_base.specs.Exceptions.{plain_exception, invalid_opcode}
use Rattle.xe_base.specs.Registers.{next_rip, segment}
use Rattle.xe_base.specs.State.{mode_of}
use Rattle.xe_base.specs.declared.segment.Seg.{Seg}
use Rattle.xe_base.specs.declared.segment.SegName.{SegName}
use Rattle.xe_base.specs.declared.segment.SegName.TheVariants.{Es, Cs, Ss, Ds, Fs, Gs}
use Rattle.xe_seg.specs.Loads.{is_null}
use Rattle.xe_seg.specs.Loads.{load as loaded_segment}
use Rattle.xe_seg.specs.declared.descriptor.Descriptor.{Descriptor}
use Rattle.xe_ctx.specs.Privilege.{is_real_mode}
use Rattle.xe_ctx.specs.Stack.{released, stack_load}
use Rattle.xe_ctx.specs.declared.operand.Operand.{Operand}
use Rattle.xe_ctx.specs.declared.operand.Operand.TheVariants.{Register, Memory}
use Rattle.xe_ctx.specs.declared.stop.Finish.{Finish}
use Rattle.xe_desc.specs.DescriptorTable.{read_descriptor, mark_accessed}

-- Loads of segment registers (SDM volume 2, "MOV", "POP" and "LDS/LES/LFS/LGS/LSS"; volume 3, "Segment Registers").

-- ---- the load itself

-- what a check comes to
unfoldable pub or_fault : Result Seg Fault → Tree Seg
or_fault (Ok s) = give s
or_fault (Err f) = fault f

-- the descriptor is read, it is judged, and only then it gets its accessed bit
unfoldable pub load_described : Cpu → SegName → ℕ → Tree Seg
load_described cpu seg sel = do
  d ← read_descriptor cpu sel
  s ← or_fault (loaded_segment cpu seg sel d)
  _ ← mark_accessed cpu sel d
  give s

-- no descriptor is read in real mode, nor for a null selector; then none is looked at
abbrev pub reads_descriptor : Cpu → ℕ → Bool
reads_descriptor cpu sel = not (is_real_mode (mode_of cpu)) && not (is_null sel)

abbrev pub no_descriptor : Descriptor
no_descriptor = record { raw = 0 }

-- what a segment register holds after the load of a selector
unfoldable pub load_segment : Cpu → SegName → ℕ → Tree Seg
load_segment cpu seg sel = if reads_descriptor cpu sel then load_described cpu seg sel else or_fault (loaded_segment cpu seg sel no_descriptor)

-- the registers with another segment. CS isn't loaded so
abbrev pub with_segment : Cpu → SegName → Seg → Cpu
with_segment cpu Es s = record cpu { es = s }
with_segment cpu Cs s = cpu
with_segment cpu Ss s = record cpu { ss = s }
with_segment cpu Ds s = record cpu { ds = s }
with_segment cpu Fs s = record cpu { fs = s }
with_segment cpu Gs s = record cpu { gs = s }

-- the low two bytes of a number: a selector
abbrev pub selector : ℕ → ℕ
selector value = value % 2 ^ 16

-- ---- ends

-- what the retirement of MOV and POP brings with it: behind a load of SS no interrupt is taken (SDM volume 3, "Masking Exceptions and Interrupts When
-- Switching Stacks")
abbrev pub retire_of : SegName → ℕ
retire_of Es = 0
retire_of Cs = 0
retire_of Ss = 2
retire_of Ds = 0
retire_of Fs = 0
retire_of Gs = 0

abbrev pub ends_load : Insn → SegName → Cpu → Tree Finish
ends_load insn seg cpu = give (record { cpu = record cpu { rip = next_rip cpu insn.len }; more = false; retire = retire_of seg })

-- ---- MOV (SDM volume 2, "MOV—Move")

-- the segment register of a number in the encoding, which a load can name where it isn't CS
abbrev pub segment_named : ℕ → Option SegName
segment_named n =
    if n == 0 then Some Es else
    (if n == 1 then Some Cs else
    (if n == 2 then Some Ss else
    (if n == 3 then Some Ds else
    (if n == 4 then Some Fs else
    (if n == 5 then Some Gs else None)))))

abbrev pub not_code : Option SegName → Option SegName
not_code None = None
not_code (Some Es) = Some Es
not_code (Some Cs) = None
not_code (Some Ss) = Some Ss
not_code (Some Ds) = Some Ds
not_code (Some Fs) = Some Fs
not_code (Some Gs) = Some Gs

-- bits 5:3 of the ModRM byte name it, whatever REX.R is
abbrev pub sreg : Insn → Option SegName
sreg insn = segment_named (reg_of insn % 8)

-- a selector that is stored: 2 bytes in memory, and the operand size in a register
abbrev pub selector_size : Insn → Operand → ℕ
selector_size insn (Register r) = insn.opsize
selector_size insn (Memory seg offset) = 2

unfoldable pub store_selector : Insn → Cpu → ℕ → Tree Cpu
store_selector insn cpu sel = write_operand insn cpu (operand_of insn cpu) (selector_size insn (operand_of insn cpu)) sel

-- 8C: no form names another register than the six
abbrev pub from_segment : Insn → Cpu → Option SegName → Tree Finish
from_segment insn cpu None = fault (plain_exception invalid_opcode)
from_segment insn cpu (Some seg) = do
  after ← store_selector insn cpu (segment cpu seg).sel
  ends insn after

-- 8E: no form names CS either
abbrev pub to_segment : Insn → Cpu → Option SegName → Tree Finish
to_segment insn cpu None = fault (plain_exception invalid_opcode)
to_segment insn cpu (Some seg) = do
  value ← read_operand insn cpu (operand_of insn cpu) 2
  s ← load_segment cpu seg (selector value)
  ends_load insn seg (with_segment cpu seg s)

abbrev pub movseg_row : Insn → Cpu → Tree Finish
movseg_row insn cpu = if insn.opcode == 0x8E then to_segment insn cpu (not_code (sreg insn)) else from_segment insn cpu (sreg insn)

-- ---- POP (SDM volume 2, "POP—Pop a Value From the Stack")

-- 07: ES. 17: SS. 0F A1: FS. 0F A9: GS. The other, 1F: DS
abbrev pub popped_segment : ℕ → SegName
popped_segment opcode =
    if opcode == 0x07 then Es else
    (if opcode == 0x17 then Ss else
    (if opcode == 0x0FA1 then Fs else
    (if opcode == 0x0FA9 then Gs else Ds)))

-- the stack pointer rises in the stack size that it had
abbrev pub popseg_row : Insn → Cpu → Tree Finish
popseg_row insn cpu = do
  value ← stack_load cpu 0 insn.opsize
  s ← load_segment cpu (popped_segment insn.opcode) (selector value)
  ends_load insn (popped_segment insn.opcode) (with_segment (released cpu insn.opsize) (popped_segment insn.opcode) s)

-- ---- LES, LDS, LSS, LFS and LGS (SDM volume 2, "LDS/LES/LFS/LGS/LSS—Load Far Pointer")

-- so many bytes behind an offset; it wraps in the address size
abbrev pub offset_behind : Insn → ℕ → ℕ → ℕ
offset_behind insn offset n = (offset + n) % 2 ^ (8 * insn.adsize)

-- the offset of the far pointer lies first, and behind it the selector; no form names a register
abbrev pub far_pointer_at : SegName → Insn → Cpu → Operand → Tree Finish
far_pointer_at seg insn cpu (Register r) = fault (plain_exception invalid_opcode)
far_pointer_at seg insn cpu (Memory place offset) = do
  pointer ← load place offset insn.opsize
  value ← load place (offset_behind insn offset insn.opsize) 2
  s ← load_segment cpu seg (selector value)
  ends insn (with_segment (writes insn cpu insn.opsize (reg_of insn) pointer) seg s)

abbrev pub far_pointer_row : SegName → Insn → Cpu → Tree Finish
far_pointer_row seg insn cpu = far_pointer_at seg insn cpu (operand_of insn cpu)
