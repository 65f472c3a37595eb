use Rattle.std.specs.Prelude.{◌+◌, ◌*◌, ◌%◌, ◌^◌, ◌==◌, ◌&&◌, ◌||◌, if◌then◌else◌}
use Rattle.xe_ctx.specs.Definition.{ℕ, Bool, false, not, nat_lt, Cpu, Insn, Tree, ◌>>=◌, give, fault, point}
use Rattle.xe_base.specs.Bits.{bit}
use Rattle.xe_base.specs.State.{mode_of, lma, is_long}
use Rattle.xe_icpt.specs.declared.point.Point.TheVariants.{Iret}
use Rattle.xe_seg.specs.Accesses.{protection_fault}
use Rattle.xe_seg.specs.Loads.{rpl_of, real_segment, loaded}
use Rattle.xe_seg.specs.Targets.{target}
use Rattle.xe_seg.specs.declared.descriptor.Descriptor.{Descriptor}
use Rattle.xe_ctx.specs.Privilege.{is_real_mode}
use Rattle.xe_ctx.specs.Stack.{released, stack_load}
use Rattle.xe_ctx.specs.Tree.{handoff}
use Rattle.xe_ctx.specs.declared.stop.Finish.{Finish}
use Rattle.xe_ctx.specs.declared.stop.Handoff.TheVariants.{TaskReturn, Vm86}
use Rattle.xe_flow.specs.Flags.{flags_by_popf}
use Rattle.xe_desc.specs.DescriptorTable.{mark_accessed}
use Rattle.xe_far.specs.CodeSegment.{or_raise, code_to_return_to}
use Rattle.xe_far.specs.Outer.{return_with_stack}
use Rattle.xe_far.specs.Pointer.{pop_pointer}
use Rattle.xe_far.specs.Transfer.{goes_to, ends_at}
use Rattle.xe_far.specs.declared.pointer.FarPointer.{FarPointer}

-- Far returns (SDM volume 2, "RET" and "IRET/IRETD/IRETQ").

-- in real mode the target lies within the limit that CS has, and keeps; so many bytes of the stack are released
unfoldable pub real_return : Cpu → FarPointer → ℕ → Tree Cpu
real_return cpu p taken = do
  _ ← or_raise (target cpu cpu.cs p.offset)
  give (goes_to (released cpu taken) (real_segment cpu.cs p.sel) p.offset)

-- a return on the stack as it is, at the level of the code's RPL
unfoldable pub return_on_stack : Cpu → FarPointer → Descriptor → ℕ → Tree Cpu
return_on_stack cpu p d taken = do
  _ ← or_raise (target cpu (loaded p.sel d) p.offset)
  _ ← mark_accessed cpu p.sel d
  give (record (released cpu taken) { cs = loaded p.sel d; rip = p.offset; cpl = rpl_of p.sel })

-- outside real mode, with the bytes that were taken from the stack so far and how many further ones are released: the code segment is judged; the
-- stack is loaded on the way to less privilege, or always
unfoldable pub protected_return : Insn → Cpu → Bool → FarPointer → ℕ → ℕ → Tree Cpu
protected_return insn cpu always p taken extra = do
  d ← code_to_return_to cpu p.sel
  if always || nat_lt cpu.cpl (rpl_of p.sel) then return_with_stack insn cpu p d taken extra else return_on_stack cpu p d (taken + extra)

-- ---- RET

-- the immediate word: bytes of the stack to release besides
abbrev pub extra_bytes : Insn → ℕ
extra_bytes insn = insn.imm % 2 ^ 16

unfoldable pub far_return : Insn → Cpu → FarPointer → Tree Cpu
far_return insn cpu p =
    if is_real_mode (mode_of cpu) then real_return cpu p (2 * insn.opsize + extra_bytes insn)
    else protected_return insn cpu false p (2 * insn.opsize) (extra_bytes insn)

abbrev pub retf_row : Insn → Cpu → Tree Finish
retf_row insn cpu = do
  p ← pop_pointer insn cpu 0
  after ← far_return insn cpu p
  give (ends_at after)

-- ---- IRET

-- NT, outside real mode: the task was called from another
abbrev pub is_nested_task : Cpu → Bool
is_nested_task cpu = not (is_real_mode (mode_of cpu)) && bit cpu.rflags 14

-- the return to that task is #GP(0) where long mode is active, and else handed to the caller
unfoldable pub or_task_return : Cpu → Tree (Unit {0})
or_task_return cpu =
    if not (is_nested_task cpu) then give tt else
    (if lma cpu then fault (protection_fault cpu) else handoff TaskReturn)

-- VM in the flags that were loaded: four bytes of them, at level 0, where long mode isn't active
abbrev pub is_to_vm86 : Insn → Cpu → ℕ → Bool
is_to_vm86 insn cpu flags = insn.opsize == 4 && (not (lma cpu) && (cpu.cpl == 0 && bit flags 17))

unfoldable pub interrupt_return : Insn → Cpu → FarPointer → ℕ → Tree Cpu
interrupt_return insn cpu p flags =
    if is_real_mode (mode_of cpu) then real_return cpu p (3 * insn.opsize) else
    (if is_to_vm86 insn cpu flags then handoff (Vm86 p.sel) else
    protected_return insn cpu (is_long cpu) p (3 * insn.opsize) 0)

abbrev pub iret_row : Insn → Cpu → Tree Finish
iret_row insn cpu = do
  _ ← point Iret
  _ ← or_task_return cpu
  p ← pop_pointer insn cpu 0
  flags ← stack_load cpu (2 * insn.opsize) insn.opsize
  after ← interrupt_return insn cpu p flags
  give (ends_at (record after { rflags = flags_by_popf cpu insn.opsize flags }))
