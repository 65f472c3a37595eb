use Rattle.std.specs.Prelude.{ℕ, Bool, not, ◌+◌, ◌-◌, ◌%◌, ◌==◌, ◌&&◌, ◌||◌, nat_lt, nat_le, Result, Ok, Err, if◌then◌else◌}
use Rattle.xe_base.specs.Exceptions.{general_protection, segment_not_present}
use Rattle.xe_base.specs.State.{lma}
use Rattle.xe_base.specs.declared.access.Fault.{Fault}
use Rattle.xe_base.specs.declared.cpu.Cpu.{Cpu}
use Rattle.xe_base.specs.declared.segment.Seg.{Seg}
use Rattle.xe_seg.specs.Accesses.{protection_fault}
use Rattle.xe_seg.specs.Attributes.{is_code, is_conforming}
use Rattle.xe_seg.specs.Descriptors.{attr_of, kind_of, s_of, dpl_of, present_of, l_of, db_of}
use Rattle.xe_seg.specs.Loads.{rpl_of, is_null, selector_fault, loaded}
use Rattle.xe_seg.specs.Targets.{target}
use Rattle.xe_seg.specs.declared.descriptor.Descriptor.{Descriptor}
use Rattle.xe_ctx.specs.Tree.{Tree, ◌>>=◌, give, fault, handoff}
use Rattle.xe_ctx.specs.declared.stop.Handoff.TheVariants.{CallGate, TaskGate, Tss}
use Rattle.xe_desc.specs.DescriptorTable.{read_descriptor}
use Rattle.xe_far.specs.declared.pointer.FarPointer.{FarPointer}

-- The code segment that a far transfer leads to (SDM volume 3, "Privilege Level Checking When Transferring Program Control Between Code
-- Segments"; volume 2, "CALL", "JMP", "RET" and "IRET"). The order of the checks, and the exception of each, are this project's choice.

-- goes on with what a check found; or raises its exception
unfoldable pub or_raise : {T : Type 0} → Result T Fault → Tree T
or_raise (Ok x) = give x
or_raise (Err f) = fault f

-- #GP(selector)
abbrev pub refused : Cpu → ℕ → Fault
refused cpu sel = selector_fault cpu general_protection sel

-- a null selector is #GP(0); past its table the descriptor is #GP(selector)
unfoldable pub code_descriptor : Cpu → ℕ → Tree Descriptor
code_descriptor cpu sel = if is_null sel then fault (protection_fault cpu) else read_descriptor cpu sel

-- ---- gates and task states, which are handed to the caller (SDM volume 3, "System Descriptor Types")

-- a call gate: type 12; where long mode isn't active 4 too, the gate of 16 bits
abbrev pub is_call_gate : Cpu → Descriptor → Bool
is_call_gate cpu d = kind_of d == 12 || (not (lma cpu) && kind_of d == 4)

-- a task gate: type 5, where long mode isn't active
abbrev pub is_task_gate : Cpu → Descriptor → Bool
is_task_gate cpu d = not (lma cpu) && kind_of d == 5

-- a TSS that isn't busy: types 1 and 9, where long mode isn't active
abbrev pub is_free_tss : Cpu → Descriptor → Bool
is_free_tss cpu d = not (lma cpu) && (kind_of d == 1 || kind_of d == 9)

-- code and data go on; of the others the three go to the caller with the whole selector, and the rest is #GP(selector)
unfoldable pub or_hand_over : Cpu → ℕ → Descriptor → Tree (Unit {0})
or_hand_over cpu sel d =
    if s_of d then give tt else
    (if is_call_gate cpu d then handoff (CallGate sel) else
    (if is_task_gate cpu d then handoff (TaskGate sel) else
    (if is_free_tss cpu d then handoff (Tss sel) else
    fault (refused cpu sel))))

-- ---- far calls and jumps

-- conforming code is called from its own level and from levels of less privilege; other code from its own alone, with an RPL of no less privilege
abbrev pub may_call : Cpu → ℕ → Descriptor → Bool
may_call cpu sel d =
    if is_conforming (attr_of d) then nat_le (dpl_of d) cpu.cpl
    else nat_le (rpl_of sel) cpu.cpl && dpl_of d == cpu.cpl

-- in long mode code can't be of 64 and of 32 bits at once
abbrev pub mixes_sizes : Cpu → Descriptor → Bool
mixes_sizes cpu d = lma cpu && (l_of d && db_of d)

-- the segment is code; it may be called; it is present; its size is one
abbrev pub check_called : Cpu → ℕ → Descriptor → Result (Unit {0}) Fault
check_called cpu sel d =
    if not (is_code (attr_of d)) then Err (refused cpu sel) else
    (if not (may_call cpu sel d) then Err (refused cpu sel) else
    (if not (present_of d) then Err (selector_fault cpu segment_not_present sel) else
    (if mixes_sizes cpu d then Err (refused cpu sel) else
    Ok tt)))

-- CS after a far call or jump, which keeps the level: RPL is CPL, of two bits
abbrev pub called_segment : Cpu → ℕ → Descriptor → Seg
called_segment cpu sel d = loaded (sel - rpl_of sel + cpu.cpl % 4) d

-- the descriptor of the code that a far pointer leads to, after all checks of a far call or jump outside real mode
unfoldable pub code_to_call : Cpu → FarPointer → Tree Descriptor
code_to_call cpu p = do
  d ← code_descriptor cpu p.sel
  _ ← or_hand_over cpu p.sel d
  _ ← or_raise (check_called cpu p.sel d)
  _ ← or_raise (target cpu (called_segment cpu p.sel d) p.offset)
  give d

-- ---- far returns

-- the RPL is the level to go on at: conforming code runs at its own level and at levels of less privilege, other code at its own alone
abbrev pub may_run_at : ℕ → Descriptor → Bool
may_run_at level d = if is_conforming (attr_of d) then nat_le (dpl_of d) level else dpl_of d == level

-- the segment is code; the return doesn't go to more privilege; the code may run at the RPL; it is present; its size is one
abbrev pub check_returned : Cpu → ℕ → Descriptor → Result (Unit {0}) Fault
check_returned cpu sel d =
    if not (s_of d) || not (is_code (attr_of d)) then Err (refused cpu sel) else
    (if nat_lt (rpl_of sel) cpu.cpl then Err (refused cpu sel) else
    (if not (may_run_at (rpl_of sel) d) then Err (refused cpu sel) else
    (if not (present_of d) then Err (selector_fault cpu segment_not_present sel) else
    (if mixes_sizes cpu d then Err (refused cpu sel) else
    Ok tt))))

-- the descriptor of the code to return to, which passes all checks but that of the target
unfoldable pub code_to_return_to : Cpu → ℕ → Tree Descriptor
code_to_return_to cpu sel = do
  d ← code_descriptor cpu sel
  _ ← or_raise (check_returned cpu sel d)
  give d
