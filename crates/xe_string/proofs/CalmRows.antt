use Rattle.std.proofs.Common.{ℕ, ◌≡◌, ◌<◌, ◌^◌, Bool, true, false, not, refl, sym, ap, ◌∙◌, arith, if◌then◌else◌, Option, Some, None, Result, Ok, Err, IfOk}
use Rattle.std.proofs.lemmas.Bool.Decides.{nat_tests}
use Rattle.xe_base.specs.State.{Valid, broken, is_long, flags_are_valid, cr0_is_valid, cr4_is_valid, efer_is_valid, paging_is_valid, segments_are_valid, level_is_valid, code_is_valid, pointer_is_valid}
use Rattle.xe_base.specs.declared.cpu.Cpu.{Cpu}
use Rattle.xe_base.proofs.CalmLaws.{calm_keeps_valid}
use Rattle.xe_flags.proofs.FlagSet.{fixed_written}
use Rattle.xe_flags.specs.Status.{with_status}
use Rattle.xe_flags.specs.declared.status.Status.{Status}
use Rattle.xe_opmap.specs.declared.insn.Insn.{Insn}
use Rattle.xe_opmap.specs.declared.row.Row.{Row}
use Rattle.xe_opmap.specs.declared.row.Row.TheVariants as row
use Rattle.xe_ctx.specs.Finishes.{EachGives, IsSound}
use Rattle.xe_ctx.specs.Is.{Sight, Is}
use Rattle.xe_ctx.specs.Operand.{IsOf, ends_with, ends}
use Rattle.xe_ctx.specs.Plain.{EndsPlainly}
use Rattle.xe_ctx.specs.Runs.{finished}
use Rattle.xe_ctx.specs.declared.stop.End.{End}
use Rattle.xe_ctx.specs.declared.stop.Finish.{Finish}
use Rattle.xe_ctx.specs.declared.stop.Stop.{Stop}
use Rattle.xe_ctx.proofs.FinishLaws.{each_then, each_implies, gives_of}
use Rattle.xe_ctx.proofs.Tame.{Tame, tame_same, tame_flags, tame_register, plain_end, each_if}
use Rattle.xe_string.specs.Element.{element}
use Rattle.xe_string.specs.Prefix.{is_repeated}
use Rattle.xe_string.specs.Repeat.{with_count, goes_on, counted, is_over, repeated, EndsElement}
use Rattle.xe_string.specs.Rows.{row_at, or_undefined, row_of, is_row}
use Rattle.xe_string.specs.declared.element.StringOp.{StringOp}
use Rattle.xe_string.proofs.ElementLaws.{element_keeps}

-- ---- the instruction pointer of a valid state

-- the rules as answers
abbrev chain : Bool → Bool → Bool → Bool → Bool → Bool → Bool → Bool → Bool → Option ℕ
chain a b c d e f g h i = if not a then Some 1 else (if not b then Some 2 else (if not c then Some 3 else (if not d then Some 4 else (if not e then Some 5 else (if not f then Some 6 else (if not g then Some 7 else (if not h then Some 8 else (if not i then Some 9 else None))))))))

-- where none is broken, the last isn't
last-rule : (a b c d e f g h i : Bool) → chain a b c d e f g h i ≡ None → i ≡ true
last-rule false b c d e f g h i n = cc
last-rule true false c d e f g h i n = cc
last-rule true true false d e f g h i n = cc
last-rule true true true false e f g h i n = cc
last-rule true true true true false f g h i n = cc
last-rule true true true true true false g h i n = cc
last-rule true true true true true true false h i n = cc
last-rule true true true true true true true false i n = cc
last-rule true true true true true true true true false n = cc
last-rule true true true true true true true true true n = refl

pointer-of : (cpu : Cpu) → Valid cpu → pointer_is_valid cpu ≡ true
unfolding broken
pointer-of cpu h = last-rule (flags_are_valid cpu) (cr0_is_valid cpu) (cr4_is_valid cpu) (efer_is_valid cpu) (paging_is_valid cpu) (segments_are_valid cpu) (level_is_valid cpu) (code_is_valid cpu) (pointer_is_valid cpu) h

-- outside 64-bit code it has 32 bits
pointer-fits : (cpu : Cpu) → Valid cpu → is_long cpu ≡ false → cpu.rip < 2 ^ 32
pointer-fits cpu valid short = let p = rw short at (pointer-of cpu valid) in grind (arith, nat_tests, p)

-- ---- what the elements change

module _ (insn : Insn) (cpu : Cpu) where
  tame-status : (after : Cpu) (s : Status) → Tame cpu after → Tame cpu (record after { rflags = with_status cpu.rflags s })
  tame-status after s t = tame_flags _ t (fixed_written cpu.rflags s ∙ sym t.flags)

  tame-element : (op : StringOp) → EachGives (Tame cpu) (element op insn cpu)
  tame-element op = element_keeps insn cpu (Tame cpu) (tame_same cpu) (λ after n rex r value t. tame_register n rex r value t) tame-status op

  -- ---- how the step ends

  behind : (after : Cpu) → Tame cpu after → EndsElement insn cpu (ends_with insn after)
  behind after t = let e : EndsPlainly insn cpu (ends_with insn after) = plain_end insn cpu after t in record { calm = e.calm; next = e.next; repeats = λ h. cc; retire = refl }

  module _ (valid : Valid cpu) where
    stays : (after : Cpu) → Tame cpu after → is_repeated insn ≡ true → EndsElement insn cpu (record { cpu = after; more = true; retire = 0 })
    stays after t repeats =
        let same : after.rip ≡ cpu.rip = ap (λ (c : Cpu). c.rip) t.rest in
        let rest : after ≡ record cpu { gpr = after.gpr; rip = after.rip; rflags = after.rflags } = t.rest ∙ ap (λ (rip : ℕ). record cpu { gpr = after.gpr; rip = rip; rflags = after.rflags }) (sym same) in
        record { calm = record { rest = rest; flags = t.flags; pointer = λ short. rw same (pointer-fits cpu valid short) }; next = same; repeats = λ h. repeats; retire = refl }

    counted-end : (op : StringOp) (more : Bool) (after : Cpu) → Tame cpu after → is_repeated insn ≡ true → EndsElement insn cpu (if more then record { cpu = after; more = true; retire = 0 } else ends_with insn after)
    counted-end op true after t repeats = stays after t repeats
    counted-end op false after t repeats = behind after t

    after-end : (op : StringOp) (again : Bool) (before : ℕ) (after : Cpu) → is_repeated insn ≡ again → Tame cpu after → EndsElement insn cpu (if again then counted op insn after before else ends_with insn after)
    after-end op true before after repeats t = counted-end op (goes_on op insn before after.rflags) (with_count insn after before) (tame_register _ _ _ _ t) repeats
    after-end op false before after repeats t = behind after t

    calm-repeated : (op : StringOp) → EachGives (EndsElement insn cpu) (repeated op insn cpu)
    calm-repeated op = each_if (EndsElement insn cpu) (is_over insn cpu) (ends insn cpu) _ (behind cpu (tame_same cpu)) (each_then (EndsElement insn cpu) (Tame cpu) (element op insn cpu) _ (tame-element op) (λ after t. after-end op (is_repeated insn) _ after refl t))

    -- a row of this crate
    calm-at : (r : Row) → EachGives (EndsElement insn cpu) (or_undefined (row_at r) insn cpu)
    calm-at row.Movs = calm-repeated StringOp.Movs
    calm-at row.Cmps = calm-repeated StringOp.Cmps
    calm-at row.Stos = calm-repeated StringOp.Stos
    calm-at row.Lods = calm-repeated StringOp.Lods
    calm-at row.Scas = calm-repeated StringOp.Scas
    calm-at row.Ins = calm-repeated StringOp.Ins
    calm-at row.Outs = calm-repeated StringOp.Outs
    calm-at other = tt

-- the laws of the whole crate
pub rows_calm : (insn : Insn) (cpu : Cpu) → is_row insn.row ≡ true → Valid cpu → EachGives (EndsElement insn cpu) (row_of insn cpu)
rows_calm insn cpu built valid = calm-at insn cpu valid insn.row

element-sound : (insn : Insn) (cpu : Cpu) → Valid cpu → (f : Finish) → EndsElement insn cpu f → IsSound f
element-sound insn cpu valid f e = let r = e.retire in record { valid = calm_keeps_valid cpu f.cpu valid e.calm; retire = omega arith }

pub rows_sound : (insn : Insn) (cpu : Cpu) → is_row insn.row ≡ true → IsOf cpu insn → Valid cpu → EachGives IsSound (row_of insn cpu)
rows_sound insn cpu built of_ valid = each_implies (EndsElement insn cpu) IsSound (element-sound insn cpu valid) (row_of insn cpu) (rows_calm insn cpu built valid)

-- an instruction that finishes leaves a valid state
pub finish_sound : (insn : Insn) (cpu after : Cpu) (res : Result End Stop) (old new : Sight) → is_row insn.row ≡ true → IsOf cpu insn → Is (row_of insn cpu) old (finished res after) new → Valid cpu → IfOk (finished res after) IsSound
finish_sound insn cpu after (Ok e) old new built of_ ran valid = gives_of IsSound (row_of insn cpu) _ old new (rows_sound insn cpu built of_ valid) ran
finish_sound insn cpu after (Err s) old new built of_ ran valid = tt
