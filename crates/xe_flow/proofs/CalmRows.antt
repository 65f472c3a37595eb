use Rattle.std.proofs.Common.{ℕ, ◌≡◌, ◌≤◌, ◌<◌, ◌+◌, ◌-◌, ◌*◌, ◌%◌, ◌^◌, ◌==◌, Bool, true, false, nat_lt, zero, suc, refl, ap, sym, ◌∙◌, arith, lit≤, bit_and, Option, Some, None, Result, Ok, Err, IfOk, if◌then◌else◌}
use Rattle.std.proofs.lemmas.Nat.{and_or_apart, and_assoc}
use Rattle.std.specs.Int.Bits.{and_zero_r}
use Rattle.xe_base.specs.Calm.{fixed_flags}
use Rattle.xe_base.specs.State.{Valid, is_long, seg_db}
use Rattle.xe_base.specs.declared.cpu.CodeSize.TheVariants.{B16, B32, B64}
use Rattle.xe_base.specs.declared.cpu.Cpu.{Cpu}
use Rattle.xe_base.proofs.CalmLaws.{calm_keeps_valid}
use Rattle.xe_flags.specs.Status.{at_place, status_of}
use Rattle.xe_modrm.specs.Prefix.{is_64_bit}
use Rattle.xe_opmap.specs.Encoding.{IsSize}
use Rattle.xe_opmap.specs.declared.insn.Insn.{Insn}
use Rattle.xe_opmap.specs.declared.row.Row.{Row}
use Rattle.xe_opmap.specs.declared.row.Row.TheVariants as row
use Rattle.xe_ctx.specs.Finishes.{EachGives, IsSound}
use Rattle.xe_ctx.specs.Is.{Sight, Is}
use Rattle.xe_ctx.specs.Operand.{IsOf, ends, ends_with}
use Rattle.xe_ctx.specs.Plain.{EndsPlainly}
use Rattle.xe_ctx.specs.Runs.{finished}
use Rattle.xe_ctx.specs.Stack.{push, released}
use Rattle.xe_ctx.specs.Tree.{◌>>=◌, store}
use Rattle.xe_ctx.specs.declared.stop.End.{End}
use Rattle.xe_ctx.specs.declared.stop.EventKind.TheVariants.{Into}
use Rattle.xe_ctx.specs.declared.stop.Finish.{Finish}
use Rattle.xe_ctx.specs.declared.stop.Stop.{Stop}
use Rattle.xe_ctx.proofs.FinishLaws.{each_then, each_implies, gives_of}
use Rattle.xe_ctx.proofs.Tame.{Tame, tame_same, tame_flags, tame_register, tame_operand, plain_end, asked_then, each_if}
use Rattle.xe_flow.specs.Branch.{near, jumps_to, jump_if, jcc_row, jmp_row, call_row, ret_row}
use Rattle.xe_flow.specs.Calmly.{EndsCalmly}
use Rattle.xe_flow.specs.Flags.{popf_mask, mask_where, is_io_level, common_flags, interrupt_flag, io_privilege, high_flags, flags_by_popf, pushf_row, popf_row, with_interrupts, cli_row, sti_row}
use Rattle.xe_flow.specs.Frame.{copy_pointer, copy_pointers, nest, enter_row, leave_row}
use Rattle.xe_flow.specs.Interrupt.{interrupts, overflow, int_row, into_row}
use Rattle.xe_flow.specs.Repeat.{loop_row, jcxz_row}
use Rattle.xe_flow.specs.Rows.{row_at, or_undefined, row_of, is_row}
use Rattle.xe_flow.specs.Stack.{push_row, pop_row, pushseg_row, push_pair, pusha_row, pop_to, pop_pair, popa_row}
use Rattle.xe_flow.proofs.Cuts.{by-size}
use Rattle.xe_flow.proofs.Moved.{tame_stack}

-- ---- flags

-- IF is none of the bits that no instruction changes
fixed_placed : (on : Bool) → bit_and (at_place on 9) (2 ^ 64 - 1 - 0x247FD5) ≡ 0
fixed_placed true = refl
fixed_placed false = refl

fixed_interrupts : (flags : ℕ) (on : Bool) → fixed_flags (with_interrupts flags on) ≡ fixed_flags flags
fixed_interrupts flags on =
    and_or_apart (2 ^ 64 - 1 - 0x247FD5) (bit_and flags (2 ^ 64 - 1 - 2 ^ 9)) (at_place on 9) (fixed_placed on)
    ∙ and_assoc (2 ^ 64 - 1 - 0x247FD5) flags (2 ^ 64 - 1 - 2 ^ 9)

-- nor are those that POPF writes, whichever they are
abbrev mask_at : Bool → Bool → Bool → ℕ
mask_at a b c = common_flags + mask_where a interrupt_flag + mask_where b io_privilege + mask_where c high_flags

mask_apart : (a b c : Bool) → bit_and (mask_at a b c) (2 ^ 64 - 1 - 0x247FD5) ≡ 0
mask_apart true true true = refl
mask_apart true true false = refl
mask_apart true false true = refl
mask_apart true false false = refl
mask_apart false true true = refl
mask_apart false true false = refl
mask_apart false false true = refl
mask_apart false false false = refl

mask_outside : (a b c : Bool) → bit_and (2 ^ 64 - 1 - mask_at a b c) (2 ^ 64 - 1 - 0x247FD5) ≡ 2 ^ 64 - 1 - 0x247FD5
mask_outside true true true = refl
mask_outside true true false = refl
mask_outside true false true = refl
mask_outside true false false = refl
mask_outside false true true = refl
mask_outside false true false = refl
mask_outside false false true = refl
mask_outside false false false = refl

popped_apart : (a b c : Bool) (value : ℕ) → bit_and (bit_and value (mask_at a b c)) (2 ^ 64 - 1 - 0x247FD5) ≡ 0
popped_apart a b c value =
    and_assoc (2 ^ 64 - 1 - 0x247FD5) value (mask_at a b c)
    ∙ (ap (λ m. bit_and value m) (mask_apart a b c) ∙ and_zero_r value)

pub fixed_popped : (cpu : Cpu) (n value : ℕ) → fixed_flags (flags_by_popf cpu n value) ≡ fixed_flags cpu.rflags
fixed_popped cpu n value =
    and_or_apart (2 ^ 64 - 1 - 0x247FD5) (bit_and cpu.rflags (2 ^ 64 - 1 - popf_mask cpu n)) (bit_and value (popf_mask cpu n)) (popped_apart (is_io_level cpu) (cpu.cpl == 0) (nat_lt 2 n) value)
    ∙ (and_assoc (2 ^ 64 - 1 - 0x247FD5) cpu.rflags (2 ^ 64 - 1 - popf_mask cpu n)
    ∙ ap (λ m. bit_and cpu.rflags m) (mask_outside (is_io_level cpu) (cpu.cpl == 0) (nat_lt 2 n)))

-- ---- ends

-- what ends plainly ends calmly
plainly : (insn : Insn) (cpu : Cpu) (f : Finish) → EndsPlainly insn cpu f → EndsCalmly cpu f
plainly insn cpu f e = let r = e.retire in record { calm = e.calm; more = e.more; retire = omega arith }

calm_end : (insn : Insn) (cpu after : Cpu) → Tame cpu after → EndsCalmly cpu (ends_with insn after)
calm_end insn cpu after t = plainly insn cpu (ends_with insn after) (plain_end insn cpu after t)

-- code goes on elsewhere
jump_end : (cpu after : Cpu) (offset : ℕ) → Tame cpu after → (is_long cpu ≡ false → offset < 2 ^ 32) → EndsCalmly cpu (jumps_to after offset)
jump_end cpu after offset t p = record {
  calm = record { rest = ap (λ (c : Cpu). record c { rip = offset }) t.rest; flags = t.flags; pointer = p };
  more = refl;
  retire = lit≤ tt;
}

-- outside 64-bit code a near offset has 32 bits at most
narrow : (long db : Bool) → long ≡ false → is_64_bit (if long then B64 else (if db then B32 else B16)) ≡ false
narrow true db h = cc
narrow false true h = refl
narrow false false h = refl

cut-below : (n x : ℕ) → IsSize n → n ≤ 4 → x % 2 ^ (8 * n) < 2 ^ 32
cut-below n x h = by-size (λ n. n ≤ 4 → x % 2 ^ (8 * n) < 2 ^ 32) (λ k. omega arith) (λ k. omega arith) (λ k. omega arith) n h

near-below : (insn : Insn) (cpu : Cpu) (offset : ℕ) → IsOf cpu insn → is_long cpu ≡ false → near insn offset < 2 ^ 32
near-below insn cpu offset of_ h = cut-below insn.opsize offset of_.parts.opsize (of_.parts.opsize_below (narrow (is_long cpu) (seg_db cpu.cs) h))

-- ---- parts

tame_push : (old cpu : Cpu) (n value : ℕ) → Tame old cpu → EachGives (Tame old) (push cpu n value)
unfolding push
tame_push old cpu n value t = asked_then (Tame old) (store _ _ n _) _ (λ u. tame_stack _ t)

tame_pair : (old cpu : Cpu) (n a b : ℕ) → Tame old cpu → EachGives (Tame old) (push_pair cpu n a b)
unfolding push_pair
tame_pair old cpu n a b t = each_then (Tame old) (Tame old) (push cpu n a) _ (tame_push old cpu n a t) (λ after s. tame_push old after n b s)

tame_popped : (insn : Insn) (old cpu : Cpu) (register : ℕ) → Tame old cpu → EachGives (Tame old) (pop_to insn cpu register)
unfolding pop_to
tame_popped insn old cpu register t = asked_then (Tame old) _ _ (λ value. tame_register _ _ _ _ (tame_stack _ t))

tame_two : (insn : Insn) (old cpu : Cpu) (a b : ℕ) → Tame old cpu → EachGives (Tame old) (pop_pair insn cpu a b)
unfolding pop_pair
tame_two insn old cpu a b t = each_then (Tame old) (Tame old) (pop_to insn cpu a) _ (tame_popped insn old cpu a t) (λ after s. tame_popped insn old after b s)

tame_pointer : (old cpu : Cpu) (n : ℕ) → Tame old cpu → EachGives (Tame old) (copy_pointer cpu n)
unfolding copy_pointer
tame_pointer old cpu n t = asked_then (Tame old) _ _ (λ value. tame_push old _ n value (tame_register _ _ _ _ t))

tame_pointers : (old : Cpu) (n count : ℕ) (cpu : Cpu) → Tame old cpu → EachGives (Tame old) (copy_pointers n count cpu)
unfolding copy_pointers
tame_pointers old n zero cpu t = t
tame_pointers old n (suc count) cpu t = each_then (Tame old) (Tame old) (copy_pointer cpu n) _ (tame_pointer old cpu n t) (λ after s. tame_pointers old n count after s)

tame_nest : (old cpu : Cpu) (n level frame : ℕ) → Tame old cpu → EachGives (Tame old) (nest cpu n level frame)
unfolding nest
tame_nest old cpu n level frame t =
    each_if (Tame old) (level == 0) _ _ t (each_then (Tame old) (Tame old) (copy_pointers n (level - 1) cpu) _ (tame_pointers old n (level - 1) cpu t) (λ after s. tame_push old after n frame s))

-- ---- rows

module _ (insn : Insn) (cpu : Cpu) where
  pushed_end : (n value : ℕ) → EachGives (EndsCalmly cpu) (push cpu n value >>= (λ after. ends insn after))
  pushed_end n value = each_then (EndsCalmly cpu) (Tame cpu) (push cpu n value) _ (tame_push cpu cpu n value (tame_same cpu)) (λ after t. calm_end insn cpu after t)

  calm_push : EachGives (EndsCalmly cpu) (push_row insn cpu)
  calm_push = asked_then (EndsCalmly cpu) _ _ (λ value. pushed_end _ value)

  calm_pop : EachGives (EndsCalmly cpu) (pop_row insn cpu)
  calm_pop = asked_then (EndsCalmly cpu) _ _ (λ value. each_then (EndsCalmly cpu) (Tame cpu) _ _ (tame_operand insn cpu (released cpu insn.opsize) _ _ value (tame_stack _ (tame_same cpu))) (λ after t. calm_end insn cpu after t))

  calm_pushseg : EachGives (EndsCalmly cpu) (pushseg_row insn cpu)
  calm_pushseg = pushed_end _ _

  calm_pusha : EachGives (EndsCalmly cpu) (pusha_row insn cpu)
  calm_pusha =
      each_then (EndsCalmly cpu) (Tame cpu) _ _ (tame_pair cpu cpu _ _ _ (tame_same cpu)) (λ a t.
      each_then (EndsCalmly cpu) (Tame cpu) _ _ (tame_pair cpu a _ _ _ t) (λ b s.
      each_then (EndsCalmly cpu) (Tame cpu) _ _ (tame_pair cpu b _ _ _ s) (λ c r.
      each_then (EndsCalmly cpu) (Tame cpu) _ _ (tame_pair cpu c _ _ _ r) (λ after q. calm_end insn cpu after q))))

  calm_popa : EachGives (EndsCalmly cpu) (popa_row insn cpu)
  calm_popa =
      each_then (EndsCalmly cpu) (Tame cpu) _ _ (tame_two insn cpu cpu _ _ (tame_same cpu)) (λ a t.
      each_then (EndsCalmly cpu) (Tame cpu) _ _ (tame_popped insn cpu a _ t) (λ b s.
      each_then (EndsCalmly cpu) (Tame cpu) _ _ (tame_two insn cpu (released b insn.opsize) _ _ (tame_stack _ s)) (λ c r.
      each_then (EndsCalmly cpu) (Tame cpu) _ _ (tame_two insn cpu c _ _ r) (λ after q. calm_end insn cpu after q))))

  calm_pushf : EachGives (EndsCalmly cpu) (pushf_row insn cpu)
  calm_pushf = asked_then (EndsCalmly cpu) _ _ (λ u. pushed_end _ _)

  calm_popf : EachGives (EndsCalmly cpu) (popf_row insn cpu)
  calm_popf = asked_then (EndsCalmly cpu) _ _ (λ u. asked_then (EndsCalmly cpu) _ _ (λ value. calm_end insn cpu _ (tame_flags _ (tame_stack _ (tame_same cpu)) (fixed_popped cpu insn.opsize value ∙ sym (tame_stack _ (tame_same cpu)).flags))))

  calm_enter : EachGives (EndsCalmly cpu) (enter_row insn cpu)
  calm_enter =
      each_then (EndsCalmly cpu) (Tame cpu) _ _ (tame_push cpu cpu _ _ (tame_same cpu)) (λ pushed t.
      each_then (EndsCalmly cpu) (Tame cpu) _ _ (tame_nest cpu pushed _ _ _ t) (λ nested s.
      asked_then (EndsCalmly cpu) _ _ (λ u. calm_end insn cpu _ (tame_stack _ (tame_register _ _ _ _ s)))))

  calm_leave : EachGives (EndsCalmly cpu) (leave_row insn cpu)
  calm_leave = asked_then (EndsCalmly cpu) _ _ (λ value. calm_end insn cpu _ (tame_register _ _ _ _ (tame_stack _ (tame_stack _ (tame_same cpu)))))

  calm_cli : EachGives (EndsCalmly cpu) (cli_row insn cpu)
  calm_cli = asked_then (EndsCalmly cpu) _ _ (λ u. calm_end insn cpu _ (tame_flags _ (tame_same cpu) (fixed_interrupts cpu.rflags false)))

  sti-below : (on : Bool) → (if on then 0 else 1) ≤ 1
  sti-below true = lit≤ tt
  sti-below false = lit≤ tt

  calm_sti : EachGives (EndsCalmly cpu) (sti_row insn cpu)
  calm_sti =
      asked_then (EndsCalmly cpu) _ _ (λ u.
      let e = calm_end insn cpu _ (tame_flags _ (tame_same cpu) (fixed_interrupts cpu.rflags true)) in
      record { calm = e.calm; more = refl; retire = sti-below _ })

  calm_into : EachGives (EndsCalmly cpu) (into_row insn cpu)
  calm_into = each_if (EndsCalmly cpu) (status_of cpu.rflags).overflow (interrupts Into overflow insn cpu) (ends insn cpu) tt (calm_end insn cpu cpu (tame_same cpu))

  calm_int : EachGives (EndsCalmly cpu) (int_row insn cpu)
  calm_int = asked_then (EndsCalmly cpu) _ _ (λ u. tt)

  module _ (of_ : IsOf cpu insn) where
    near_end : (after : Cpu) (offset : ℕ) → Tame cpu after → EndsCalmly cpu (jumps_to after (near insn offset))
    near_end after offset t = jump_end cpu after (near insn offset) t (near-below insn cpu offset of_)

    calm_jump : (taken : Bool) (after : Cpu) → Tame cpu after → EachGives (EndsCalmly cpu) (jump_if taken insn cpu after)
    calm_jump taken after t = each_if (EndsCalmly cpu) taken _ _ (asked_then (EndsCalmly cpu) _ _ (λ u. near_end after _ t)) (calm_end insn cpu after t)

    calm_jcc : EachGives (EndsCalmly cpu) (jcc_row insn cpu)
    calm_jcc = calm_jump _ cpu (tame_same cpu)

    calm_loop : (wanted : Option Bool) → EachGives (EndsCalmly cpu) (loop_row wanted insn cpu)
    calm_loop wanted = calm_jump _ _ (tame_register _ _ _ _ (tame_same cpu))

    calm_jcxz : EachGives (EndsCalmly cpu) (jcxz_row insn cpu)
    calm_jcxz = calm_jump _ cpu (tame_same cpu)

    calm_jmp : EachGives (EndsCalmly cpu) (jmp_row insn cpu)
    calm_jmp = asked_then (EndsCalmly cpu) _ _ (λ offset. asked_then (EndsCalmly cpu) _ _ (λ u. near_end cpu offset (tame_same cpu)))

    calm_call : EachGives (EndsCalmly cpu) (call_row insn cpu)
    calm_call =
        asked_then (EndsCalmly cpu) _ _ (λ offset.
        asked_then (EndsCalmly cpu) _ _ (λ u.
        each_then (EndsCalmly cpu) (Tame cpu) _ _ (tame_push cpu cpu _ _ (tame_same cpu)) (λ after t. near_end after offset t)))

    calm_ret : EachGives (EndsCalmly cpu) (ret_row insn cpu)
    calm_ret = asked_then (EndsCalmly cpu) _ _ (λ offset. asked_then (EndsCalmly cpu) _ _ (λ u. near_end _ offset (tame_stack _ (tame_same cpu))))

    -- a row of this crate
    calm_at : (r : Row) → EachGives (EndsCalmly cpu) (or_undefined (row_at r) insn cpu)
    calm_at row.Push = calm_push
    calm_at row.Pop = calm_pop
    calm_at row.Pushseg = calm_pushseg
    calm_at row.Pusha = calm_pusha
    calm_at row.Popa = calm_popa
    calm_at row.Pushf = calm_pushf
    calm_at row.Popf = calm_popf
    calm_at row.Enter = calm_enter
    calm_at row.Leave = calm_leave
    calm_at row.Call = calm_call
    calm_at row.Jmp = calm_jmp
    calm_at row.Ret = calm_ret
    calm_at row.Jcc = calm_jcc
    calm_at row.Loopne = calm_loop (Some false)
    calm_at row.Loope = calm_loop (Some true)
    calm_at row.Loop = calm_loop None
    calm_at row.Jcxz = calm_jcxz
    calm_at row.Cli = calm_cli
    calm_at row.Sti = calm_sti
    calm_at row.Int3 = tt
    calm_at row.Int = calm_int
    calm_at row.Into = calm_into
    calm_at other = tt

-- ---- the laws of the whole crate

pub rows_calm : (insn : Insn) (cpu : Cpu) → is_row insn.row ≡ true → IsOf cpu insn → EachGives (EndsCalmly cpu) (row_of insn cpu)
rows_calm insn cpu built of_ = calm_at insn cpu of_ insn.row

-- from a valid state a calm end leads to a valid one
calm_sound : (cpu : Cpu) → Valid cpu → (f : Finish) → EndsCalmly cpu f → IsSound f
calm_sound cpu valid f e = let r = e.retire in record { valid = calm_keeps_valid cpu f.cpu valid e.calm; retire = omega arith }

pub rows_sound : (insn : Insn) (cpu : Cpu) → is_row insn.row ≡ true → IsOf cpu insn → Valid cpu → EachGives IsSound (row_of insn cpu)
rows_sound insn cpu built of_ valid = each_implies (EndsCalmly cpu) IsSound (calm_sound cpu valid) (row_of insn cpu) (rows_calm insn cpu built of_)

-- an instruction that finishes leaves a valid state
pub finish_sound : (insn : Insn) (cpu after : Cpu) (res : Result End Stop) (old new : Sight) → is_row insn.row ≡ true → IsOf cpu insn → Is (row_of insn cpu) old (finished res after) new → Valid cpu → IfOk (finished res after) IsSound
finish_sound insn cpu after (Ok e) old new built of_ ran valid = gives_of IsSound (row_of insn cpu) _ old new (rows_sound insn cpu built of_ valid) ran
finish_sound insn cpu after (Err s) old new built of_ ran valid = tt
