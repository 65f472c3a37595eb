use Rattle.std.proofs.Common.{ℕ, ◌+◌, ◌-◌, nat_lt, Bool, true, false, Result, Ok, Err, Option, Some, None, lit≤}
use Rattle.xe_base.specs.Exceptions.{plain_exception, invalid_opcode}
use Rattle.xe_base.specs.State.{is_long, mode_of}
use Rattle.xe_base.specs.declared.access.Fault.{Fault}
use Rattle.xe_base.specs.declared.cpu.Cpu.{Cpu}
use Rattle.xe_base.specs.declared.segment.Seg.{Seg}
use Rattle.xe_base.specs.declared.segment.SegName.{SegName}
use Rattle.xe_base.specs.declared.segment.SegName.TheVariants.{Es, Ss, Ds, Fs, Gs}
use Rattle.xe_icpt.specs.declared.point.Point.{Point}
use Rattle.xe_icpt.specs.declared.point.TableName.{TableName}
use Rattle.xe_icpt.specs.declared.point.TableName.TheVariants.{Ldtr, Tr}
use Rattle.xe_seg.specs.Loads.{is_null, rpl_of}
use Rattle.xe_seg.specs.Loads.{load as loaded_segment}
use Rattle.xe_opmap.specs.declared.insn.Insn.{Insn}
use Rattle.xe_opmap.specs.declared.row.Row.{Row}
use Rattle.xe_opmap.specs.declared.row.Row.TheVariants as row
use Rattle.xe_ctx.specs.Bounds.{TakesAtMost}
use Rattle.xe_ctx.specs.Operand.{IsOf, operand_of, write_operand}
use Rattle.xe_ctx.specs.Privilege.{is_real_mode}
use Rattle.xe_ctx.specs.Tree.{give, fault, load, point, load_sys, store_sys}
use Rattle.xe_ctx.specs.declared.operand.Operand.{Operand}
use Rattle.xe_ctx.specs.declared.operand.Operand.TheVariants.{Register, Memory}
use Rattle.xe_ctx.proofs.BoundLaws.{takes_more, takes_then, takes_if}
use Rattle.xe_ctx.proofs.RowBounds.{Small, small-2, small-of, read, fetch, write, takes_protection, takes_stack_load}
use Rattle.xe_desc.specs.DescriptorTable.{is_in_table, descriptor_address}
use Rattle.xe_desc.specs.Load.{or_fault, load_described, reads_descriptor, no_descriptor, load_segment, not_code, sreg, selector_size, store_selector, from_segment, to_segment, movseg_row, popseg_row, far_pointer_at}
use Rattle.xe_desc.specs.Query.{has_descriptor, some_descriptor, find_descriptor, zero_written, lar_row, lsl_row, verify_row, raised, arpl_row}
use Rattle.xe_desc.specs.Rows.{row_at, or_undefined, row_of}
use Rattle.xe_desc.specs.Task.{outside_real_mode, or_selector, stored_row, read_wide, read_narrow, read_system, with_ldtr, load_ldt, load_ldtr, lldt_row, load_tss, ltr_row}
use Rattle.xe_desc.proofs.TableBounds.{takes_fetch, takes_read, takes_mark}

-- What the rows of this crate take at most.

-- ---- the parts of a row

takes_fault : (r : Result Seg Fault) → TakesAtMost 0 0 0 (or_fault r)
unfolding or_fault
takes_fault (Ok s) = tt
takes_fault (Err e) = tt

takes_described : (cpu : Cpu) (seg : SegName) (sel : ℕ) → TakesAtMost 2 5 21 (load_described cpu seg sel)
unfolding load_described
takes_described cpu seg sel = takes_then _ 1 1 11 (λ d. takes_then _ 1 1 11 (λ s. takes_then _ 0 0 0 (λ u. tt) 1 1 11 _ (takes_mark cpu sel d)) 0 0 0 _ (takes_fault _)) 1 4 10 _ (takes_read cpu sel)

takes_segment : (cpu : Cpu) (seg : SegName) (sel : ℕ) → TakesAtMost 2 5 21 (load_segment cpu seg sel)
unfolding load_segment
takes_segment cpu seg sel =
    let judged = or_fault (loaded_segment cpu seg sel no_descriptor) in
    takes_if 2 5 21 (reads_descriptor cpu sel) (load_described cpu seg sel) judged (takes_described cpu seg sel)
    (takes_more 0 2 0 5 0 21 (lit≤ tt) (lit≤ tt) (lit≤ tt) judged (takes_fault _))

takes_real : (cpu : Cpu) → TakesAtMost 0 0 0 (outside_real_mode cpu)
unfolding outside_real_mode
takes_real cpu = takes_if 0 0 0 (is_real_mode (mode_of cpu)) (fault (plain_exception invalid_opcode)) (give tt) tt tt

takes_selector : (cpu : Cpu) (holds : Bool) (vector sel : ℕ) → TakesAtMost 0 0 0 (or_selector cpu holds vector sel)
unfolding or_selector
takes_selector cpu holds vector sel = takes_if 0 0 0 holds _ _ tt tt

takes_point : (p : Point) → TakesAtMost 1 0 0 (point p)
unfolding point
takes_point p = (record { one = lit≤ tt; accesses_ = lit≤ tt; bytes_ = lit≤ tt }, λ a. tt)

takes_load : (seg : SegName) (offset n : ℕ) → Small n → TakesAtMost 1 4 10 (load seg offset n)
unfolding load
takes_load seg offset n s = (record { one = lit≤ tt; accesses_ = s.chunks; bytes_ = lit≤ tt }, λ a. tt)

takes_two : (seg : SegName) (offset : ℕ) → TakesAtMost 1 2 10 (load seg offset 2)
unfolding load
takes_two seg offset = (record { one = lit≤ tt; accesses_ = lit≤ tt; bytes_ = lit≤ tt }, λ a. tt)

takes_byte : (la value : ℕ) → TakesAtMost 1 1 11 (store_sys la 1 value)
unfolding store_sys
takes_byte la value = (record { one = lit≤ tt; accesses_ = lit≤ tt; bytes_ = lit≤ tt }, λ a. tt)

takes_sixteen : (la : ℕ) → TakesAtMost 1 5 10 (load_sys la 16)
unfolding load_sys
takes_sixteen la = (record { one = lit≤ tt; accesses_ = lit≤ tt; bytes_ = lit≤ tt }, λ a. tt)

takes_wide : (cpu : Cpu) (sel : ℕ) → TakesAtMost 1 5 10 (read_wide cpu sel)
unfolding read_wide
takes_wide cpu sel = takes_if 1 5 10 (is_in_table cpu sel 16) (load_sys (descriptor_address cpu sel) 16) _ (takes_sixteen _) tt

takes_narrow : (cpu : Cpu) (sel : ℕ) → TakesAtMost 1 5 10 (read_narrow cpu sel)
unfolding read_narrow
takes_narrow cpu sel = takes_then _ 0 1 0 (λ d. tt) 1 4 10 _ (takes_read cpu sel)

takes_system : (cpu : Cpu) (sel : ℕ) → TakesAtMost 1 5 10 (read_system cpu sel)
unfolding read_system
takes_system cpu sel = takes_then _ 1 5 10 (λ u. takes_if 1 5 10 (is_long cpu) (read_wide cpu sel) (read_narrow cpu sel) (takes_wide cpu sel) (takes_narrow cpu sel)) 0 0 0 _ (takes_selector cpu _ _ sel)

takes_ldt : (cpu : Cpu) (sel : ℕ) → TakesAtMost 1 5 10 (load_ldt cpu sel)
unfolding load_ldt
takes_ldt cpu sel =
    takes_then _ 0 0 0 (λ raw. takes_then _ 0 0 0 (λ u. takes_then _ 0 0 0 (λ v. takes_then _ 0 0 0 (λ w. tt) 0 0 0 _ (takes_selector cpu _ _ sel)) 0 0 0 _ (takes_selector cpu _ _ sel)) 0 0 0 _ (takes_selector cpu _ _ sel)) 1 5 10 _ (takes_system cpu sel)

takes_ldtr : (cpu : Cpu) (sel : ℕ) → TakesAtMost 1 5 10 (load_ldtr cpu sel)
unfolding load_ldtr
takes_ldtr cpu sel = takes_if 1 5 10 (is_null sel) (give (with_ldtr cpu (record cpu.ldtr { sel = sel; attr = 0 }))) (load_ldt cpu sel) tt (takes_ldt cpu sel)

takes_tss : (cpu : Cpu) (sel : ℕ) → TakesAtMost 2 6 21 (load_tss cpu sel)
unfolding load_tss
takes_tss cpu sel =
    takes_then _ 1 1 11 (λ raw. takes_then _ 1 1 11 (λ t. takes_then _ 1 1 11 (λ u. takes_then _ 1 1 11 (λ v. takes_then _ 1 1 11 (λ w. takes_then _ 0 0 0 (λ x. tt) 1 1 11 _ (takes_byte _ _))
    0 0 0 _ (takes_selector cpu _ _ sel)) 0 0 0 _ (takes_selector cpu _ _ sel)) 0 0 0 _ (takes_selector cpu _ _ sel)) 0 0 0 _ (takes_selector cpu _ _ sel)) 1 5 10 _ (takes_system cpu sel)

takes_some : (cpu : Cpu) (sel : ℕ) → TakesAtMost 1 4 10 (some_descriptor cpu sel)
unfolding some_descriptor
takes_some cpu sel = takes_then _ 0 0 0 (λ d. tt) 1 4 10 _ (takes_fetch cpu sel)

takes_find : (cpu : Cpu) (sel : ℕ) → TakesAtMost 1 4 10 (find_descriptor cpu sel)
unfolding find_descriptor
takes_find cpu sel = takes_if 1 4 10 (has_descriptor cpu sel) (some_descriptor cpu sel) (give None) (takes_some cpu sel) tt

-- ---- the rows

module _ (insn : Insn) (cpu : Cpu) (of_ : IsOf cpu insn) where
  small-operand : Small insn.opsize
  small-operand = small-of insn.opsize of_.parts.opsize

  small-stored : (operand : Operand) → Small (selector_size insn operand)
  small-stored (Register r) = small-operand
  small-stored (Memory seg offset) = small-2

  takes_stored : (sel : ℕ) → TakesAtMost 1 4 18 (store_selector insn cpu sel)
  unfolding store_selector
  takes_stored sel = write insn cpu cpu _ _ sel (small-stored _)

  takes_raised : (operand : Operand) (sel asker : ℕ) → TakesAtMost 1 4 18 (raised insn cpu operand sel asker)
  unfolding raised
  takes_raised operand sel asker =
      let raise = write_operand insn (zero_written cpu true) operand 2 (sel - rpl_of sel + rpl_of asker) in
      takes_if 1 4 18 (nat_lt (rpl_of sel) (rpl_of asker)) raise (give (zero_written cpu false)) (write insn cpu (zero_written cpu true) operand 2 _ small-2) tt

  most_from : (named : Option SegName) → TakesAtMost 64 12 42 (from_segment insn cpu named)
  most_from None = tt
  most_from (Some seg) = takes_then _ 63 8 24 (λ after. tt) 1 4 18 _ (takes_stored _)

  most_to : (named : Option SegName) → TakesAtMost 64 12 42 (to_segment insn cpu named)
  most_to None = tt
  most_to (Some seg) = takes_then _ 63 8 32 (λ value. takes_then _ 61 3 11 (λ s. tt) 2 5 21 _ (takes_segment cpu seg _)) 1 4 10 _ (read insn cpu _ 2 small-2)

  most_movseg : TakesAtMost 64 12 42 (movseg_row insn cpu)
  most_movseg = takes_if 64 12 42 _ (to_segment insn cpu (not_code (sreg insn))) (from_segment insn cpu (sreg insn)) (most_to _) (most_from _)

  most_popseg : TakesAtMost 64 12 42 (popseg_row insn cpu)
  most_popseg = takes_then _ 63 8 32 (λ value. takes_then _ 61 3 11 (λ s. tt) 2 5 21 _ (takes_segment cpu _ _)) 1 4 10 _ (takes_stack_load cpu 0 _ small-operand)

  most_pointer : (seg : SegName) (operand : Operand) → TakesAtMost 64 12 42 (far_pointer_at seg insn cpu operand)
  most_pointer seg (Register r) = tt
  most_pointer seg (Memory place offset) =
      takes_then _ 63 8 32 (λ pointer. takes_then _ 62 6 22 (λ value. takes_then _ 60 1 1 (λ s. tt) 2 5 21 _ (takes_segment cpu seg _)) 1 2 10 _ (takes_two place _)) 1 4 10 _ (takes_load place offset _ small-operand)

  most_stored : (t : TableName) (sel : ℕ) → TakesAtMost 64 12 42 (stored_row t sel insn cpu)
  most_stored t sel = takes_then _ 64 12 42 (λ a. takes_then _ 63 12 42 (λ b. takes_then _ 62 8 24 (λ after. tt) 1 4 18 _ (takes_stored sel)) 1 0 0 _ (takes_point _)) 0 0 0 _ (takes_real cpu)

  most_lldt : TakesAtMost 64 12 42 (lldt_row insn cpu)
  most_lldt =
      takes_then _ 64 12 42 (λ a. takes_then _ 64 12 42 (λ b. takes_then _ 63 12 42 (λ c. takes_then _ 62 8 32 (λ value. takes_then _ 61 3 22 (λ after. tt) 1 5 10 _ (takes_ldtr cpu _))
      1 4 10 _ (read insn cpu _ 2 small-2)) 1 0 0 _ (takes_point _)) 0 0 0 _ (takes_protection cpu _)) 0 0 0 _ (takes_real cpu)

  most_ltr : TakesAtMost 64 12 42 (ltr_row insn cpu)
  most_ltr =
      takes_then _ 64 12 42 (λ a. takes_then _ 64 12 42 (λ b. takes_then _ 63 12 42 (λ c. takes_then _ 62 8 32 (λ value. takes_then _ 62 8 32 (λ d. takes_then _ 60 2 11 (λ after. tt) 2 6 21 _ (takes_tss cpu _))
      0 0 0 _ (takes_protection cpu _)) 1 4 10 _ (read insn cpu _ 2 small-2)) 1 0 0 _ (takes_point _)) 0 0 0 _ (takes_protection cpu _)) 0 0 0 _ (takes_real cpu)

  most_lar : TakesAtMost 64 12 42 (lar_row insn cpu)
  most_lar = takes_then _ 64 12 42 (λ a. takes_then _ 63 8 32 (λ value. takes_then _ 62 4 22 (λ found. tt) 1 4 10 _ (takes_find cpu _)) 1 4 10 _ (read insn cpu _ 2 small-2)) 0 0 0 _ (takes_real cpu)

  most_lsl : TakesAtMost 64 12 42 (lsl_row insn cpu)
  most_lsl = takes_then _ 64 12 42 (λ a. takes_then _ 63 8 32 (λ value. takes_then _ 62 4 22 (λ found. tt) 1 4 10 _ (takes_find cpu _)) 1 4 10 _ (read insn cpu _ 2 small-2)) 0 0 0 _ (takes_real cpu)

  most_verify : (write : Bool) → TakesAtMost 64 12 42 (verify_row write insn cpu)
  most_verify write = takes_then _ 64 12 42 (λ a. takes_then _ 63 8 32 (λ value. takes_then _ 62 4 22 (λ found. tt) 1 4 10 _ (takes_find cpu _)) 1 4 10 _ (read insn cpu _ 2 small-2)) 0 0 0 _ (takes_real cpu)

  most_arpl : TakesAtMost 64 12 42 (arpl_row insn cpu)
  most_arpl = takes_then _ 64 12 42 (λ a. takes_then _ 63 8 32 (λ sel. takes_then _ 62 4 14 (λ after. tt) 1 4 18 _ (takes_raised (operand_of insn cpu) sel _)) 1 4 10 _ (fetch insn cpu _ 2 small-2)) 0 0 0 _ (takes_real cpu)

  taken_at : (r : Row) → TakesAtMost 64 12 42 (or_undefined (row_at r) insn cpu)
  taken_at row.Movseg = most_movseg
  taken_at row.Popseg = most_popseg
  taken_at row.Les = most_pointer Es _
  taken_at row.Lds = most_pointer Ds _
  taken_at row.Lss = most_pointer Ss _
  taken_at row.Lfs = most_pointer Fs _
  taken_at row.Lgs = most_pointer Gs _
  taken_at row.Sldt = most_stored Ldtr _
  taken_at row.Str = most_stored Tr _
  taken_at row.Lldt = most_lldt
  taken_at row.Ltr = most_ltr
  taken_at row.Lar = most_lar
  taken_at row.Lsl = most_lsl
  taken_at row.Verr = most_verify false
  taken_at row.Verw = most_verify true
  taken_at row.Arpl = most_arpl
  taken_at other = tt

-- the law of the whole crate
pub rows_take_little : (insn : Insn) (cpu : Cpu) → IsOf cpu insn → TakesAtMost 64 12 42 (row_of insn cpu)
rows_take_little insn cpu of_ = taken_at insn cpu of_ insn.row
