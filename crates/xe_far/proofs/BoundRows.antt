use Rattle.std.proofs.Common.{ℕ, ◌||◌, Bool, false, not, nat_lt, Result, Ok, Err, Option, Some, None, lit≤}
use Rattle.xe_base.specs.State.{mode_of, is_long, lma}
use Rattle.xe_base.specs.declared.access.Fault.{Fault}
use Rattle.xe_base.specs.declared.cpu.Cpu.{Cpu}
use Rattle.xe_base.specs.declared.segment.SegName.{SegName}
use Rattle.xe_icpt.specs.declared.point.Point.{Point}
use Rattle.xe_modrm.specs.declared.part.ModRm.{ModRm}
use Rattle.xe_opmap.specs.declared.insn.Insn.{Insn}
use Rattle.xe_opmap.specs.declared.row.Row.{Row}
use Rattle.xe_opmap.specs.declared.row.Row.TheVariants as row
use Rattle.xe_seg.specs.Loads.{rpl_of, is_null}
use Rattle.xe_seg.specs.Descriptors.{s_of}
use Rattle.xe_seg.specs.declared.descriptor.Descriptor.{Descriptor}
use Rattle.xe_ctx.specs.Bounds.{TakesAtMost}
use Rattle.xe_ctx.specs.Operand.{IsOf, operand_of}
use Rattle.xe_ctx.specs.Privilege.{is_real_mode}
use Rattle.xe_ctx.specs.Tree.{load, point}
use Rattle.xe_ctx.specs.declared.operand.Operand.{Operand}
use Rattle.xe_ctx.specs.declared.operand.Operand.TheVariants.{Register, Memory}
use Rattle.xe_ctx.proofs.BoundLaws.{takes_then, takes_if}
use Rattle.xe_ctx.proofs.RowBounds.{Small, small-of, takes_stack_load, takes_push}
use Rattle.xe_desc.proofs.TableBounds.{takes_read, takes_mark}
use Rattle.xe_far.specs.CodeSegment.{or_raise, code_descriptor, is_call_gate, is_task_gate, is_free_tss, or_hand_over, code_to_call, code_to_return_to}
use Rattle.xe_far.specs.Outer.{stack_descriptor, return_with_stack}
use Rattle.xe_far.specs.Pointer.{load_pointer, pointer_at, pointer_or, far_pointer, pop_pointer}
use Rattle.xe_far.specs.Return.{real_return, return_on_stack, protected_return, far_return, retf_row, is_nested_task, or_task_return, is_to_vm86, interrupt_return, iret_row}
use Rattle.xe_far.specs.Rows.{row_at, or_undefined, row_of}
use Rattle.xe_far.specs.Transfer.{push_return, real_jump, protected_jump, jump, jmpf_row, real_call, protected_call, call, callf_row}
use Rattle.xe_far.specs.declared.pointer.FarPointer.{FarPointer}

-- What far transfers take at most: requests, accesses and bytes of RAM touched.

-- ---- checks

takes_raise : {T : Type 0} (r : Result T Fault) → TakesAtMost 0 0 0 (or_raise r)
unfolding or_raise
takes_raise (Ok x) = tt
takes_raise (Err f) = tt

takes_hand_over : (cpu : Cpu) (sel : ℕ) (d : Descriptor) → TakesAtMost 0 0 0 (or_hand_over cpu sel d)
unfolding or_hand_over
takes_hand_over cpu sel d = takes_if 0 0 0 (s_of d) _ _ tt (takes_if 0 0 0 (is_call_gate cpu d) _ _ tt (takes_if 0 0 0 (is_task_gate cpu d) _ _ tt (takes_if 0 0 0 (is_free_tss cpu d) _ _ tt tt)))

takes_point : (p : Point) → TakesAtMost 1 0 0 (point p)
unfolding point
takes_point p = (record { one = lit≤ tt; accesses_ = lit≤ tt; bytes_ = lit≤ tt }, λ a. tt)

-- ---- descriptors

takes_code_descriptor : (cpu : Cpu) (sel : ℕ) → TakesAtMost 1 4 10 (code_descriptor cpu sel)
unfolding code_descriptor
takes_code_descriptor cpu sel = takes_if 1 4 10 (is_null sel) _ _ tt (takes_read cpu sel)

takes_stack_descriptor : (cpu : Cpu) (sel : ℕ) → TakesAtMost 1 4 10 (stack_descriptor cpu sel)
unfolding stack_descriptor
takes_stack_descriptor cpu sel = takes_if 1 4 10 (is_null sel) _ _ tt (takes_read cpu sel)

takes_code_to_call : (cpu : Cpu) (p : FarPointer) → TakesAtMost 1 4 10 (code_to_call cpu p)
unfolding code_to_call
takes_code_to_call cpu p =
    takes_then _ 0 0 0 (λ d.
    takes_then _ 0 0 0 (λ u.
    takes_then _ 0 0 0 (λ v.
    takes_then _ 0 0 0 (λ w. tt) 0 0 0 _ (takes_raise _))
    0 0 0 _ (takes_raise _))
    0 0 0 _ (takes_hand_over cpu p.sel d))
    1 4 10 _ (takes_code_descriptor cpu p.sel)

takes_code_to_return_to : (cpu : Cpu) (sel : ℕ) → TakesAtMost 1 4 10 (code_to_return_to cpu sel)
unfolding code_to_return_to
takes_code_to_return_to cpu sel = takes_then _ 0 0 0 (λ d. takes_then _ 0 0 0 (λ u. tt) 0 0 0 _ (takes_raise _)) 1 4 10 _ (takes_code_descriptor cpu sel)

-- ---- pointers

takes_load : (seg : SegName) (offset n : ℕ) → Small n → TakesAtMost 1 4 10 (load seg offset n)
unfolding load
takes_load seg offset n s = (record { one = lit≤ tt; accesses_ = s.chunks; bytes_ = lit≤ tt }, λ a. tt)

takes_selector : (seg : SegName) (offset : ℕ) → TakesAtMost 1 2 10 (load seg offset 2)
unfolding load
takes_selector seg offset = (record { one = lit≤ tt; accesses_ = lit≤ tt; bytes_ = lit≤ tt }, λ a. tt)

takes_load_pointer : (insn : Insn) (seg : SegName) (offset : ℕ) → Small insn.opsize → TakesAtMost 2 6 20 (load_pointer insn seg offset)
unfolding load_pointer
takes_load_pointer insn seg offset s = takes_then _ 1 2 10 (λ target. takes_then _ 0 0 0 (λ sel. tt) 1 2 10 _ (takes_selector seg _)) 1 4 10 _ (takes_load seg offset insn.opsize s)

takes_pointer_at : (insn : Insn) (operand : Operand) → Small insn.opsize → TakesAtMost 2 6 20 (pointer_at insn operand)
takes_pointer_at insn (Register r) s = tt
takes_pointer_at insn (Memory seg offset) s = takes_load_pointer insn seg offset s

takes_pointer_or : (insn : Insn) (cpu : Cpu) (o : Option ModRm) → Small insn.opsize → TakesAtMost 2 6 20 (pointer_or insn cpu o)
takes_pointer_or insn cpu None s = tt
takes_pointer_or insn cpu (Some m) s = takes_pointer_at insn (operand_of insn cpu) s

takes_far_pointer : (insn : Insn) (cpu : Cpu) → Small insn.opsize → TakesAtMost 2 6 20 (far_pointer insn cpu)
unfolding far_pointer
takes_far_pointer insn cpu s = takes_pointer_or insn cpu insn.modrm s

takes_pop_pointer : (insn : Insn) (cpu : Cpu) (above : ℕ) → Small insn.opsize → TakesAtMost 2 8 20 (pop_pointer insn cpu above)
unfolding pop_pointer
takes_pop_pointer insn cpu above s = takes_then _ 1 4 10 (λ offset. takes_then _ 0 0 0 (λ sel. tt) 1 4 10 _ (takes_stack_load cpu _ _ s)) 1 4 10 _ (takes_stack_load cpu above _ s)

-- ---- calls and jumps

takes_push_return : (insn : Insn) (cpu : Cpu) → Small insn.opsize → TakesAtMost 2 8 36 (push_return insn cpu)
unfolding push_return
takes_push_return insn cpu s = takes_then _ 1 4 18 (λ pushed. takes_push pushed _ _ s) 1 4 18 _ (takes_push cpu _ _ s)

takes_real_jump : (cpu : Cpu) (p : FarPointer) → TakesAtMost 2 5 21 (real_jump cpu p)
unfolding real_jump
takes_real_jump cpu p = takes_then _ 2 5 21 (λ u. tt) 0 0 0 _ (takes_raise _)

takes_protected_jump : (cpu : Cpu) (p : FarPointer) → TakesAtMost 2 5 21 (protected_jump cpu p)
unfolding protected_jump
takes_protected_jump cpu p = takes_then _ 1 1 11 (λ d. takes_then _ 0 0 0 (λ u. tt) 1 1 11 _ (takes_mark cpu p.sel d)) 1 4 10 _ (takes_code_to_call cpu p)

takes_jump : (cpu : Cpu) (p : FarPointer) → TakesAtMost 2 5 21 (jump cpu p)
unfolding jump
takes_jump cpu p = takes_if 2 5 21 (is_real_mode (mode_of cpu)) _ _ (takes_real_jump cpu p) (takes_protected_jump cpu p)

takes_real_call : (insn : Insn) (cpu : Cpu) (p : FarPointer) → Small insn.opsize → TakesAtMost 4 13 57 (real_call insn cpu p)
unfolding real_call
takes_real_call insn cpu p s = takes_then _ 4 13 57 (λ u. takes_then _ 2 5 21 (λ pushed. tt) 2 8 36 _ (takes_push_return insn cpu s)) 0 0 0 _ (takes_raise _)

takes_protected_call : (insn : Insn) (cpu : Cpu) (p : FarPointer) → Small insn.opsize → TakesAtMost 4 13 57 (protected_call insn cpu p)
unfolding protected_call
takes_protected_call insn cpu p s =
    takes_then _ 3 9 47 (λ d. takes_then _ 1 1 11 (λ pushed. takes_then _ 0 0 0 (λ u. tt) 1 1 11 _ (takes_mark cpu p.sel d)) 2 8 36 _ (takes_push_return insn cpu s))
    1 4 10 _ (takes_code_to_call cpu p)

takes_call : (insn : Insn) (cpu : Cpu) (p : FarPointer) → Small insn.opsize → TakesAtMost 4 13 57 (call insn cpu p)
unfolding call
takes_call insn cpu p s = takes_if 4 13 57 (is_real_mode (mode_of cpu)) _ _ (takes_real_call insn cpu p s) (takes_protected_call insn cpu p s)

-- ---- returns

takes_real_return : (cpu : Cpu) (p : FarPointer) (taken : ℕ) → TakesAtMost 6 18 62 (real_return cpu p taken)
unfolding real_return
takes_real_return cpu p taken = takes_then _ 6 18 62 (λ u. tt) 0 0 0 _ (takes_raise _)

takes_return_on_stack : (cpu : Cpu) (p : FarPointer) (d : Descriptor) (taken : ℕ) → TakesAtMost 5 14 52 (return_on_stack cpu p d taken)
unfolding return_on_stack
takes_return_on_stack cpu p d taken = takes_then _ 5 14 52 (λ u. takes_then _ 4 13 41 (λ v. tt) 1 1 11 _ (takes_mark cpu p.sel d)) 0 0 0 _ (takes_raise _)

takes_return_with_stack : (insn : Insn) (cpu : Cpu) (p : FarPointer) (d : Descriptor) (taken extra : ℕ) → Small insn.opsize → TakesAtMost 5 14 52 (return_with_stack insn cpu p d taken extra)
unfolding return_with_stack
takes_return_with_stack insn cpu p d taken extra s =
    takes_then _ 3 6 32 (λ stack.
    takes_then _ 2 2 22 (λ e.
    takes_then _ 2 2 22 (λ ss.
    takes_then _ 2 2 22 (λ u.
    takes_then _ 1 1 11 (λ v. takes_then _ 0 0 0 (λ w. tt) 1 1 11 _ (takes_mark cpu stack.sel e)) 1 1 11 _ (takes_mark cpu p.sel d))
    0 0 0 _ (takes_raise _))
    0 0 0 _ (takes_raise _))
    1 4 10 _ (takes_stack_descriptor cpu stack.sel))
    2 8 20 _ (takes_pop_pointer insn cpu _ s)

takes_protected_return : (insn : Insn) (cpu : Cpu) (always : Bool) (p : FarPointer) (taken extra : ℕ) → Small insn.opsize → TakesAtMost 6 18 62 (protected_return insn cpu always p taken extra)
unfolding protected_return
takes_protected_return insn cpu always p taken extra s =
    takes_then _ 5 14 52 (λ d. takes_if 5 14 52 (always || nat_lt cpu.cpl (rpl_of p.sel)) _ _ (takes_return_with_stack insn cpu p d taken extra s) (takes_return_on_stack cpu p d _))
    1 4 10 _ (takes_code_to_return_to cpu p.sel)

takes_far_return : (insn : Insn) (cpu : Cpu) (p : FarPointer) → Small insn.opsize → TakesAtMost 6 18 62 (far_return insn cpu p)
unfolding far_return
takes_far_return insn cpu p s = takes_if 6 18 62 (is_real_mode (mode_of cpu)) _ _ (takes_real_return cpu p _) (takes_protected_return insn cpu false p _ _ s)

takes_task_return : (cpu : Cpu) → TakesAtMost 0 0 0 (or_task_return cpu)
unfolding or_task_return
takes_task_return cpu = takes_if 0 0 0 (not (is_nested_task cpu)) _ _ tt (takes_if 0 0 0 (lma cpu) _ _ tt tt)

takes_interrupt_return : (insn : Insn) (cpu : Cpu) (p : FarPointer) (flags : ℕ) → Small insn.opsize → TakesAtMost 6 18 62 (interrupt_return insn cpu p flags)
unfolding interrupt_return
takes_interrupt_return insn cpu p flags s =
    takes_if 6 18 62 (is_real_mode (mode_of cpu)) _ _ (takes_real_return cpu p _)
    (takes_if 6 18 62 (is_to_vm86 insn cpu flags) _ _ tt (takes_protected_return insn cpu (is_long cpu) p _ 0 s))

-- ---- the rows

module _ (insn : Insn) (cpu : Cpu) (of_ : IsOf cpu insn) where
  small : Small insn.opsize
  small = small-of insn.opsize of_.parts.opsize

  most_callf : TakesAtMost 64 30 92 (callf_row insn cpu)
  most_callf = takes_then _ 62 24 72 (λ p. takes_then _ 58 11 15 (λ after. tt) 4 13 57 _ (takes_call insn cpu p small)) 2 6 20 _ (takes_far_pointer insn cpu small)

  most_jmpf : TakesAtMost 64 30 92 (jmpf_row insn cpu)
  most_jmpf = takes_then _ 62 24 72 (λ p. takes_then _ 60 19 51 (λ after. tt) 2 5 21 _ (takes_jump cpu p)) 2 6 20 _ (takes_far_pointer insn cpu small)

  most_retf : TakesAtMost 64 30 92 (retf_row insn cpu)
  most_retf = takes_then _ 62 22 72 (λ p. takes_then _ 56 4 10 (λ after. tt) 6 18 62 _ (takes_far_return insn cpu p small)) 2 8 20 _ (takes_pop_pointer insn cpu 0 small)

  most_iret : TakesAtMost 64 30 92 (iret_row insn cpu)
  most_iret =
      takes_then _ 63 30 92 (λ u.
      takes_then _ 63 30 92 (λ v.
      takes_then _ 61 22 72 (λ p.
      takes_then _ 60 18 62 (λ flags. takes_then _ 54 0 0 (λ after. tt) 6 18 62 _ (takes_interrupt_return insn cpu p flags small))
      1 4 10 _ (takes_stack_load cpu _ _ small))
      2 8 20 _ (takes_pop_pointer insn cpu 0 small))
      0 0 0 _ (takes_task_return cpu))
      1 0 0 _ (takes_point _)

  taken_at : (r : Row) → TakesAtMost 64 30 92 (or_undefined (row_at r) insn cpu)
  taken_at row.Callf = most_callf
  taken_at row.Jmpf = most_jmpf
  taken_at row.Retf = most_retf
  taken_at row.Iret = most_iret
  taken_at other = tt

-- the law of the whole crate
pub rows_take_little : (insn : Insn) (cpu : Cpu) → IsOf cpu insn → TakesAtMost 64 30 92 (row_of insn cpu)
rows_take_little insn cpu of_ = taken_at insn cpu of_ insn.row
