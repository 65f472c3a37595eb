use Rattle.std.proofs.Common.{ℕ, ◌<◌, ◌+◌, ◌-◌, ◌*◌, ◌==◌, Bool, zero, suc, Result, Ok, Err, arith, lit≤}
use Rattle.xe_base.specs.declared.access.Fault.{Fault}
use Rattle.xe_base.specs.declared.cpu.Cpu.{Cpu}
use Rattle.xe_opmap.specs.declared.insn.Insn.{Insn}
use Rattle.xe_opmap.specs.declared.row.Row.{Row}
use Rattle.xe_opmap.specs.declared.row.Row.TheVariants as row
use Rattle.xe_seg.specs.Targets.{target}
use Rattle.xe_icpt.specs.declared.point.Point.{Point}
use Rattle.xe_flags.specs.Status.{status_of}
use Rattle.xe_ctx.specs.declared.stop.EventKind.TheVariants.{Into}
use Rattle.xe_ctx.specs.Bounds.{TakesAtMost}
use Rattle.xe_ctx.specs.Operand.{IsOf, is_some, ends, operand_of, read_operand}
use Rattle.xe_ctx.specs.Tree.{give, load, probe, point}
use Rattle.xe_base.specs.declared.segment.SegName.TheVariants.{Ss}
use Rattle.xe_ctx.proofs.BoundLaws.{takes_more, takes_then, takes_if}
use Rattle.xe_ctx.proofs.RowBounds.{Small, small-of, read, write, takes_protection, takes_stack_load, takes_push}
use Rattle.xe_flow.specs.Branch.{or_fault, can_go_to, near_target, destination, jump_if, jmp_row, call_row, ret_row}
use Rattle.xe_flow.specs.Flags.{pushf_row, popf_row, cli_row, sti_row}
use Rattle.xe_flow.specs.Frame.{nesting, copy_pointer, copy_pointers, nest, enter_row, leave_row}
use Rattle.xe_flow.specs.Interrupt.{interrupts, overflow, int_row, into_row}
use Rattle.xe_flow.specs.Rows.{row_at, or_undefined, row_of}
use Rattle.xe_flow.specs.Stack.{is_immediate, stack_operand, pushed_value, push_row, pop_row, pushseg_row, push_pair, pusha_row, pop_to, pop_pair, popa_row}

-- ---- parts

takes-point : (p : Point) → TakesAtMost 1 0 0 (point p)
unfolding point
takes-point p = (record { one = lit≤ tt; accesses_ = lit≤ tt; bytes_ = lit≤ tt }, λ a. tt)

takes-probe : (offset : ℕ) → TakesAtMost 1 0 10 (probe Ss offset 1)
unfolding probe
takes-probe offset = (record { one = lit≤ tt; accesses_ = lit≤ tt; bytes_ = lit≤ tt }, λ a. tt)

takes-load : (offset n : ℕ) → Small n → TakesAtMost 1 4 10 (load Ss offset n)
unfolding load
takes-load offset n s = (record { one = lit≤ tt; accesses_ = s.chunks; bytes_ = lit≤ tt }, λ a. tt)

takes-check : (r : Result (Unit {0}) Fault) → TakesAtMost 0 0 0 (or_fault r)
takes-check (Ok u) = tt
takes-check (Err f) = tt

takes-target : (cpu : Cpu) (offset : ℕ) → TakesAtMost 0 0 0 (can_go_to cpu offset)
unfolding can_go_to
takes-target cpu offset = takes-check (target cpu cpu.cs offset)

takes-pushes : (cpu : Cpu) (n a b : ℕ) → Small n → TakesAtMost 2 8 36 (push_pair cpu n a b)
unfolding push_pair
takes-pushes cpu n a b s = takes_then _ 1 4 18 (λ after. takes_push after n b s) 1 4 18 _ (takes_push cpu n a s)

takes-pop : (insn : Insn) (cpu : Cpu) (register : ℕ) → Small insn.opsize → TakesAtMost 1 4 10 (pop_to insn cpu register)
unfolding pop_to
takes-pop insn cpu register s = takes_then _ 0 0 0 (λ value. tt) 1 4 10 _ (takes_stack_load cpu 0 insn.opsize s)

takes-pops : (insn : Insn) (cpu : Cpu) (a b : ℕ) → Small insn.opsize → TakesAtMost 2 8 20 (pop_pair insn cpu a b)
unfolding pop_pair
takes-pops insn cpu a b s = takes_then _ 1 4 10 (λ after. takes-pop insn after b s) 1 4 10 _ (takes-pop insn cpu a s)

takes-pointer : (cpu : Cpu) (n : ℕ) → Small n → TakesAtMost 2 8 28 (copy_pointer cpu n)
unfolding copy_pointer
takes-pointer cpu n s = takes_then _ 1 4 18 (λ value. takes_push _ n value s) 1 4 10 _ (takes-load _ n s)

takes-pointers : (n count : ℕ) (cpu : Cpu) → Small n → TakesAtMost (2 * count) (8 * count) (28 * count) (copy_pointers n count cpu)
unfolding copy_pointers
takes-pointers n zero cpu s = tt
takes-pointers n (suc count) cpu s =
    takes_more (2 + 2 * count) (2 * suc count) (8 + 8 * count) (8 * suc count) (28 + 28 * count) (28 * suc count) (omega arith) (omega arith) (omega arith) _
    (takes_then _ (2 * count) (8 * count) (28 * count) (λ after. takes-pointers n count after s) 2 8 28 (copy_pointer cpu n) (takes-pointer cpu n s))

-- ENTER copies at most 30 pointers, and pushes one more
takes-nest : (cpu : Cpu) (n level frame : ℕ) → level < 32 → Small n → TakesAtMost 61 244 858 (nest cpu n level frame)
unfolding nest
takes-nest cpu n level frame h s =
    takes_if 61 244 858 (level == 0) _ _ tt
    (takes_then _ 1 4 18 (λ after. takes_push after n frame s) 60 240 840 (copy_pointers n (level - 1) cpu)
    (takes_more (2 * (level - 1)) 60 (8 * (level - 1)) 240 (28 * (level - 1)) 840 (omega arith) (omega arith) (omega arith) _ (takes-pointers n (level - 1) cpu s)))

-- ---- rows

module _ (insn : Insn) (cpu : Cpu) where
  value_of : Small insn.opsize → TakesAtMost 1 4 10 (pushed_value insn cpu)
  unfolding pushed_value
  value_of s = takes_if 1 4 10 (is_immediate insn.opcode) (give insn.imm) (read_operand insn cpu (stack_operand insn cpu) insn.opsize) tt (read insn cpu (stack_operand insn cpu) insn.opsize s)

  offset_of : Small insn.opsize → TakesAtMost 1 4 10 (destination insn cpu)
  unfolding destination
  offset_of s = takes_if 1 4 10 (is_some insn.modrm) (read_operand insn cpu (operand_of insn cpu) insn.opsize) (give (near_target insn cpu)) (read insn cpu (operand_of insn cpu) insn.opsize s) tt

  most_jump : (taken : Bool) (after : Cpu) → TakesAtMost 64 256 1014 (jump_if taken insn cpu after)
  most_jump taken after = takes_if 64 256 1014 taken _ _ (takes_then _ 64 256 1014 (λ u. tt) 0 0 0 _ (takes-target cpu _)) tt

  module _ (s : Small insn.opsize) where
    most_push : TakesAtMost 64 256 1014 (push_row insn cpu)
    most_push = takes_then _ 63 252 1004 (λ value. takes_then _ 62 248 986 (λ after. tt) 1 4 18 _ (takes_push cpu insn.opsize value s)) 1 4 10 _ (value_of s)

    most_pop : TakesAtMost 64 256 1014 (pop_row insn cpu)
    most_pop = takes_then _ 63 252 1004 (λ value. takes_then _ 62 248 986 (λ after. tt) 1 4 18 _ (write insn cpu _ _ insn.opsize value s)) 1 4 10 _ (takes_stack_load cpu 0 insn.opsize s)

    most_pushseg : TakesAtMost 64 256 1014 (pushseg_row insn cpu)
    most_pushseg = takes_then _ 63 252 996 (λ after. tt) 1 4 18 _ (takes_push cpu insn.opsize _ s)

    most_pusha : TakesAtMost 64 256 1014 (pusha_row insn cpu)
    most_pusha =
        takes_then _ 62 248 978 (λ a.
        takes_then _ 60 240 942 (λ b.
        takes_then _ 58 232 906 (λ c.
        takes_then _ 56 224 870 (λ after. tt)
        2 8 36 _ (takes-pushes c insn.opsize _ _ s))
        2 8 36 _ (takes-pushes b insn.opsize _ _ s))
        2 8 36 _ (takes-pushes a insn.opsize _ _ s))
        2 8 36 _ (takes-pushes cpu insn.opsize _ _ s)

    most_popa : TakesAtMost 64 256 1014 (popa_row insn cpu)
    most_popa =
        takes_then _ 62 248 994 (λ a.
        takes_then _ 61 244 984 (λ b.
        takes_then _ 59 236 964 (λ c.
        takes_then _ 57 228 944 (λ after. tt)
        2 8 20 _ (takes-pops insn c _ _ s))
        2 8 20 _ (takes-pops insn _ _ _ s))
        1 4 10 _ (takes-pop insn a _ s))
        2 8 20 _ (takes-pops insn cpu _ _ s)

    most_pushf : TakesAtMost 64 256 1014 (pushf_row insn cpu)
    most_pushf = takes_then _ 63 256 1014 (λ u. takes_then _ 62 252 996 (λ after. tt) 1 4 18 _ (takes_push cpu insn.opsize _ s)) 1 0 0 _ (takes-point _)

    most_popf : TakesAtMost 64 256 1014 (popf_row insn cpu)
    most_popf = takes_then _ 63 256 1014 (λ u. takes_then _ 62 252 1004 (λ value. tt) 1 4 10 _ (takes_stack_load cpu 0 insn.opsize s)) 1 0 0 _ (takes-point _)

    most_enter : TakesAtMost 64 256 1014 (enter_row insn cpu)
    most_enter =
        let below : nesting insn < 32 = omega arith in
        takes_then _ 63 252 996 (λ pushed.
        takes_then _ 2 8 138 (λ nested.
        takes_then _ 1 8 128 (λ u. tt)
        1 0 10 _ (takes-probe _))
        61 244 858 _ (takes-nest pushed insn.opsize (nesting insn) _ below s))
        1 4 18 _ (takes_push cpu insn.opsize _ s)

    most_leave : TakesAtMost 64 256 1014 (leave_row insn cpu)
    most_leave = takes_then _ 63 252 1004 (λ value. tt) 1 4 10 _ (takes_stack_load _ 0 insn.opsize s)

    most_call : TakesAtMost 64 256 1014 (call_row insn cpu)
    most_call =
        takes_then _ 63 252 1004 (λ offset.
        takes_then _ 63 252 1004 (λ u.
        takes_then _ 62 248 986 (λ after. tt)
        1 4 18 _ (takes_push cpu insn.opsize _ s))
        0 0 0 _ (takes-target cpu _))
        1 4 10 _ (offset_of s)

    most_jmp : TakesAtMost 64 256 1014 (jmp_row insn cpu)
    most_jmp = takes_then _ 63 252 1004 (λ offset. takes_then _ 63 252 1004 (λ u. tt) 0 0 0 _ (takes-target cpu _)) 1 4 10 _ (offset_of s)

    most_ret : TakesAtMost 64 256 1014 (ret_row insn cpu)
    most_ret = takes_then _ 63 252 1004 (λ offset. takes_then _ 63 252 1004 (λ u. tt) 0 0 0 _ (takes-target cpu _)) 1 4 10 _ (takes_stack_load cpu 0 insn.opsize s)

    most_cli : TakesAtMost 64 256 1014 (cli_row insn cpu)
    most_cli = takes_then _ 64 256 1014 (λ u. tt) 0 0 0 _ (takes_protection cpu _)

    most_sti : TakesAtMost 64 256 1014 (sti_row insn cpu)
    most_sti = takes_then _ 64 256 1014 (λ u. tt) 0 0 0 _ (takes_protection cpu _)

    most_int : TakesAtMost 64 256 1014 (int_row insn cpu)
    most_int = takes_then _ 63 256 1014 (λ u. tt) 1 0 0 _ (takes-point _)

    most_into : TakesAtMost 64 256 1014 (into_row insn cpu)
    most_into = takes_if 64 256 1014 (status_of cpu.rflags).overflow (interrupts Into overflow insn cpu) (ends insn cpu) tt tt

    -- a row of this crate
    taken_at : (r : Row) → TakesAtMost 64 256 1014 (or_undefined (row_at r) insn cpu)
    taken_at row.Push = most_push
    taken_at row.Pop = most_pop
    taken_at row.Pushseg = most_pushseg
    taken_at row.Pusha = most_pusha
    taken_at row.Popa = most_popa
    taken_at row.Pushf = most_pushf
    taken_at row.Popf = most_popf
    taken_at row.Enter = most_enter
    taken_at row.Leave = most_leave
    taken_at row.Call = most_call
    taken_at row.Jmp = most_jmp
    taken_at row.Ret = most_ret
    taken_at row.Jcc = most_jump _ cpu
    taken_at row.Loopne = most_jump _ _
    taken_at row.Loope = most_jump _ _
    taken_at row.Loop = most_jump _ _
    taken_at row.Jcxz = most_jump _ cpu
    taken_at row.Cli = most_cli
    taken_at row.Sti = most_sti
    taken_at row.Int3 = tt
    taken_at row.Int = most_int
    taken_at row.Into = most_into
    taken_at other = tt

-- the law of the whole crate
pub rows_take_little : (insn : Insn) (cpu : Cpu) → IsOf cpu insn → TakesAtMost 64 256 1014 (row_of insn cpu)
rows_take_little insn cpu of_ = taken_at insn cpu (small-of insn.opsize of_.parts.opsize) insn.row
