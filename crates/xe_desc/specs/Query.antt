use Rattle.std.specs.Prelude.{◌+◌, ◌-◌, ◌/◌, ◌^◌, ◌==◌, ◌&&◌, ◌||◌, nat_le, bit_and, if◌then◌else◌}
use Rattle.xe_ctx.specs.Definition.{ℕ, Bool, true, false, not, nat_lt, Option, Some, None, Cpu, Insn, Tree, ◌>>=◌, give, operand_of, reg_of, reads, writes, read_operand, read_for_write, write_operand, ends}
use Rattle.xe_base.specs.State.{lma}
use Rattle.xe_flags.specs.Status.{with_zero}
use Rattle.xe_seg.specs.Attributes.{is_conforming, is_readable, is_writable}
use Rattle.xe_seg.specs.Descriptors.{limit_of, kind_of, s_of, dpl_of, attr_of}
use Rattle.xe_seg.specs.Loads.{is_null, rpl_of}
use Rattle.xe_seg.specs.declared.descriptor.Descriptor.{Descriptor}
use Rattle.xe_ctx.specs.declared.operand.Operand.{Operand}
use Rattle.xe_ctx.specs.declared.stop.Finish.{Finish}
use Rattle.xe_desc.specs.DescriptorTable.{is_in_table, fetch_descriptor}
use Rattle.xe_desc.specs.Load.{selector}
use Rattle.xe_desc.specs.Task.{outside_real_mode}

-- What a program may ask of selectors and their descriptors (SDM volume 2, "LAR", "LSL", "VERR/VERW" and "ARPL"; volume 3, "Pointer Validation").

-- the registers with this ZF
abbrev pub zero_written : Cpu → Bool → Cpu
zero_written cpu zero = record cpu { rflags = with_zero cpu.rflags zero }

-- ---- the descriptor

-- there is none for a null selector, nor past the table; that is no fault here
abbrev pub has_descriptor : Cpu → ℕ → Bool
has_descriptor cpu sel = not (is_null sel) && is_in_table cpu sel 8

unfoldable pub some_descriptor : Cpu → ℕ → Tree (Option Descriptor)
some_descriptor cpu sel = do
  d ← fetch_descriptor cpu sel
  give (Some d)

unfoldable pub find_descriptor : Cpu → ℕ → Tree (Option Descriptor)
find_descriptor cpu sel = if has_descriptor cpu sel then some_descriptor cpu sel else give None

-- neither RPL nor CPL is above its DPL; conforming code may be asked of by everybody
abbrev pub is_visible : Cpu → ℕ → Descriptor → Bool
is_visible cpu sel d = (s_of d && is_conforming (attr_of d)) || (nat_le (rpl_of sel) (dpl_of d) && nat_le cpu.cpl (dpl_of d))

-- ---- what each may be asked of

-- system segments: an LDT, an available or a busy TSS; outside long mode those of 16 bits too
abbrev pub is_segment_kind : Cpu → ℕ → Bool
is_segment_kind cpu kind = (kind == 2 || kind == 9 || kind == 0xB) || (not (lma cpu) && (kind == 1 || kind == 3))

-- call gates; outside long mode those of 16 bits and task gates too
abbrev pub is_gate_kind : Cpu → ℕ → Bool
is_gate_kind cpu kind = kind == 0xC || (not (lma cpu) && (kind == 4 || kind == 5))

abbrev pub has_limit : Cpu → Descriptor → Bool
has_limit cpu d = s_of d || is_segment_kind cpu (kind_of d)

abbrev pub has_rights : Cpu → Descriptor → Bool
has_rights cpu d = s_of d || (is_segment_kind cpu (kind_of d) || is_gate_kind cpu (kind_of d))

abbrev pub can_be_read : Descriptor → Bool
can_be_read d = s_of d && is_readable (attr_of d)

abbrev pub can_be_written : Descriptor → Bool
can_be_written d = s_of d && is_writable (attr_of d)

-- ---- LAR and LSL

-- bytes 4 to 7 of the descriptor: type, S, DPL and P, and above them AVL, L, DB and G
abbrev pub rights_of : Descriptor → ℕ
rights_of d = bit_and (d.raw / 2 ^ 32) 0xF0FF00

-- what they give, where they give anything
abbrev pub rights_answer : Cpu → ℕ → Option Descriptor → Option ℕ
rights_answer cpu sel None = None
rights_answer cpu sel (Some d) = if has_rights cpu d && is_visible cpu sel d then Some (rights_of d) else None

abbrev pub limit_answer : Cpu → ℕ → Option Descriptor → Option ℕ
limit_answer cpu sel None = None
limit_answer cpu sel (Some d) = if has_limit cpu d && is_visible cpu sel d then Some (limit_of d) else None

-- ZF says whether they do, and only then G is written
abbrev pub answered : Insn → Cpu → Option ℕ → Cpu
answered insn cpu None = zero_written cpu false
answered insn cpu (Some value) = writes insn (zero_written cpu true) insn.opsize (reg_of insn) value

abbrev pub lar_row : Insn → Cpu → Tree Finish
lar_row insn cpu = do
  _ ← outside_real_mode cpu
  value ← read_operand insn cpu (operand_of insn cpu) 2
  found ← find_descriptor cpu (selector value)
  ends insn (answered insn cpu (rights_answer cpu (selector value) found))

abbrev pub lsl_row : Insn → Cpu → Tree Finish
lsl_row insn cpu = do
  _ ← outside_real_mode cpu
  value ← read_operand insn cpu (operand_of insn cpu) 2
  found ← find_descriptor cpu (selector value)
  ends insn (answered insn cpu (limit_answer cpu (selector value) found))

-- ---- VERR and VERW

-- VERW asks whether the segment can be written, VERR whether it can be read
abbrev pub is_verified : Bool → Cpu → ℕ → Option Descriptor → Bool
is_verified write cpu sel None = false
is_verified write cpu sel (Some d) = (if write then can_be_written d else can_be_read d) && is_visible cpu sel d

abbrev pub verify_row : Bool → Insn → Cpu → Tree Finish
verify_row write insn cpu = do
  _ ← outside_real_mode cpu
  value ← read_operand insn cpu (operand_of insn cpu) 2
  found ← find_descriptor cpu (selector value)
  ends insn (zero_written cpu (is_verified write cpu (selector value) found))

-- ---- ARPL

-- RPL of E is raised to that of G, which ZF tells; else nothing is stored
unfoldable pub raised : Insn → Cpu → Operand → ℕ → ℕ → Tree Cpu
raised insn cpu operand sel asker =
    if nat_lt (rpl_of sel) (rpl_of asker) then write_operand insn (zero_written cpu true) operand 2 (sel - rpl_of sel + rpl_of asker)
    else give (zero_written cpu false)

-- E has to be writable in both cases
abbrev pub arpl_row : Insn → Cpu → Tree Finish
arpl_row insn cpu = do
  _ ← outside_real_mode cpu
  sel ← read_for_write insn cpu (operand_of insn cpu) 2
  after ← raised insn cpu (operand_of insn cpu) sel (reads insn cpu 2 (reg_of insn))
  ends insn after
