use Rattle.std.proofs.Common.{ℕ, ◌≡◌, ◌<◌, ◌+◌, ◌*◌, ◌/◌, ◌%◌, ◌^◌, Bool, true, false, nat_lt, List, Option, Some, None, Result, Ok, Err, refl, sym, subst, arith}
use Rattle.std.proofs.lemmas.Bool.Decides.{nat_tests}
use Rattle.xe_base.specs.Calm.{fixed_flags}
use Rattle.xe_base.specs.Registers.{next_rip}
use Rattle.xe_base.specs.State.{Valid, is_base}
use Rattle.xe_base.specs.declared.access.Fault.{Fault}
use Rattle.xe_base.specs.declared.cpu.Cpu.{Cpu}
use Rattle.xe_base.specs.declared.segment.Seg.{Seg}
use Rattle.xe_base.specs.declared.segment.SegName.{SegName}
use Rattle.xe_base.specs.declared.segment.SegName.TheVariants.{Es, Cs, Ss, Ds, Fs, Gs}
use Rattle.xe_seg.specs.Descriptors.{attr_of}
use Rattle.xe_seg.specs.Loads.{is_null}
use Rattle.xe_seg.specs.Loads.{load as loaded_segment}
use Rattle.xe_seg.specs.declared.descriptor.Descriptor.{Descriptor}
use Rattle.xe_seg.proofs.LoadLaws.{loads_keep_rules}
use Rattle.xe_opmap.specs.declared.insn.Insn.{Insn}
use Rattle.xe_ctx.specs.Finishes.{EachGives, IsSound}
use Rattle.xe_ctx.specs.Operand.{ends_with}
use Rattle.xe_ctx.specs.Plain.{EndsPlainly}
use Rattle.xe_ctx.specs.Stack.{released, with_stack_pointer}
use Rattle.xe_ctx.specs.Tree.{give}
use Rattle.xe_ctx.specs.declared.operand.Operand.{Operand}
use Rattle.xe_ctx.specs.declared.operand.Operand.TheVariants.{Register, Memory}
use Rattle.xe_ctx.specs.declared.stop.Finish.{Finish}
use Rattle.xe_ctx.proofs.FinishLaws.{each_then}
use Rattle.xe_ctx.proofs.Tame.{Tame, tame_same, tame_register, tame_operand, plain_end, plain_sound, asked_then, each_if}
use Rattle.xe_desc.specs.DescriptorTable.{read_descriptor, mark_accessed}
use Rattle.xe_desc.specs.Load.{or_fault, load_described, reads_descriptor, no_descriptor, load_segment, with_segment, selector, retire_of, not_code, sreg, store_selector, from_segment, to_segment, movseg_row, popped_segment, popseg_row, far_pointer_at, far_pointer_row}
use Rattle.xe_desc.specs.Loaded.{EndsByLoad}
use Rattle.xe_desc.specs.Task.{or_selector, low_part, system_base, system_segment, with_ldtr, with_tr, busy, load_ldt, load_ldtr, lldt_row, load_tss, ltr_row}
use Rattle.xe_desc.proofs.SegmentRules.{Fits, FitsSystem, segment_valid, ldtr_valid, tr_valid, attr_holds, ldtr_base_holds}

-- The rows that load a segment register, LDTR or TR.

-- an instruction of this crate finishes in a valid state, and has changed nothing but what a load changes
pub record Lands (insn : Insn) (cpu : Cpu) (f : Finish) : Type 0 where
  pub sound : IsSound f
  pub ends : EndsByLoad insn cpu f

abbrev finish_of : Insn → Cpu → ℕ → Finish
finish_of insn after retire = record { cpu = record after { rip = next_rip after insn.len }; more = false; retire = retire }

-- ---- the ends

abbrev Rest : Cpu → Cpu → Type 0
Rest old new = new ≡ record old { gpr = new.gpr; rip = new.rip; rflags = new.rflags; es = new.es; ss = new.ss; ds = new.ds; fs = new.fs; gs = new.gs; ldtr = new.ldtr; tr = new.tr }

-- a calm change is one
pub lands_plainly : (insn : Insn) (cpu : Cpu) → Valid cpu → (f : Finish) → EndsPlainly insn cpu f → Lands insn cpu f
lands_plainly insn cpu valid f e =
    let made : Cpu = record cpu { gpr = f.cpu.gpr; rip = f.cpu.rip; rflags = f.cpu.rflags } in
    let start : Rest cpu made = refl in
    record { sound = plain_sound insn cpu valid f e; ends = record { rest = subst (Rest cpu) (sym e.calm.rest) start; flags = e.calm.flags; next = e.next; more = e.more } }

lands_tame : (insn : Insn) (cpu after : Cpu) → Valid cpu → Tame cpu after → Lands insn cpu (ends_with insn after)
lands_tame insn cpu after valid t = lands_plainly insn cpu valid (ends_with insn after) (plain_end insn cpu after t)

segment_ends : (insn : Insn) (cpu : Cpu) (gpr : List ℕ) (flags : ℕ) (seg : SegName) (s : Seg) (retire : ℕ) → fixed_flags flags ≡ fixed_flags cpu.rflags → EndsByLoad insn cpu (finish_of insn (with_segment (record cpu { gpr = gpr; rflags = flags }) seg s) retire)
segment_ends insn cpu gpr flags Es s retire h = record { rest = refl; flags = h; next = refl; more = refl }
segment_ends insn cpu gpr flags Cs s retire h = record { rest = refl; flags = h; next = refl; more = refl }
segment_ends insn cpu gpr flags Ss s retire h = record { rest = refl; flags = h; next = refl; more = refl }
segment_ends insn cpu gpr flags Ds s retire h = record { rest = refl; flags = h; next = refl; more = refl }
segment_ends insn cpu gpr flags Fs s retire h = record { rest = refl; flags = h; next = refl; more = refl }
segment_ends insn cpu gpr flags Gs s retire h = record { rest = refl; flags = h; next = refl; more = refl }

lands_segment : (insn : Insn) (cpu after : Cpu) (seg : SegName) (s : Seg) (retire : ℕ) → Valid cpu → Tame cpu after → Fits s → retire < 8 → Lands insn cpu (finish_of insn (with_segment after seg s) retire)
lands_segment insn cpu after seg s retire valid t f small =
    let before = plain_sound insn cpu valid (ends_with insn after) (plain_end insn cpu after t) in
    record {
      sound = record { valid = segment_valid after seg s insn.len f before.valid; retire = small };
      ends = subst (λ (c : Cpu). EndsByLoad insn cpu (finish_of insn (with_segment c seg s) retire)) (sym t.rest) (segment_ends insn cpu after.gpr after.rflags seg s retire t.flags);
    }

valid_behind : (insn : Insn) (cpu : Cpu) → Valid cpu → Valid (record cpu { rip = next_rip cpu insn.len })
valid_behind insn cpu valid = let s = plain_sound insn cpu valid (ends_with insn cpu) (plain_end insn cpu cpu (tame_same cpu)) in s.valid

lands_ldtr : (insn : Insn) (cpu : Cpu) (s : Seg) → Valid cpu → FitsSystem cpu s → Lands insn cpu (ends_with insn (with_ldtr cpu s))
lands_ldtr insn cpu s valid f = record {
  sound = record { valid = ldtr_valid (record cpu { rip = next_rip cpu insn.len }) s (record { attr = f.attr; base = f.base }) (valid_behind insn cpu valid); retire = omega arith };
  ends = record { rest = refl; flags = refl; next = refl; more = refl };
}

lands_tr : (insn : Insn) (cpu : Cpu) (s : Seg) → Valid cpu → FitsSystem cpu s → Lands insn cpu (ends_with insn (with_tr cpu s))
lands_tr insn cpu s valid f = record {
  sound = record { valid = tr_valid (record cpu { rip = next_rip cpu insn.len }) s (record { attr = f.attr; base = f.base }) (valid_behind insn cpu valid); retire = omega arith };
  ends = record { rest = refl; flags = refl; next = refl; more = refl };
}

-- ---- the load of a segment register

fits_of : (r : Result Seg Fault) → ((s : Seg) → r ≡ Ok s → Fits s) → EachGives Fits (or_fault r)
unfolding or_fault
fits_of (Ok s) h = h s refl
fits_of (Err e) h = tt

fits_judged : (cpu : Cpu) (seg : SegName) (sel : ℕ) (d : Descriptor) → Valid cpu → sel < 2 ^ 16 → EachGives Fits (or_fault (loaded_segment cpu seg sel d))
fits_judged cpu seg sel d valid small =
    fits_of (loaded_segment cpu seg sel d) (λ s e. let k = loads_keep_rules cpu seg sel d s small e in record { attr = k.attr (attr_holds cpu seg valid); base = k.base })

fits_described : (cpu : Cpu) (seg : SegName) (sel : ℕ) → Valid cpu → sel < 2 ^ 16 → EachGives Fits (load_described cpu seg sel)
unfolding load_described
fits_described cpu seg sel valid small =
    asked_then Fits (read_descriptor cpu sel) _ (λ d. each_then Fits Fits (or_fault (loaded_segment cpu seg sel d)) _ (fits_judged cpu seg sel d valid small) (λ s f. asked_then Fits (mark_accessed cpu sel d) _ (λ u. f)))

fits_load : (cpu : Cpu) (seg : SegName) (sel : ℕ) → Valid cpu → sel < 2 ^ 16 → EachGives Fits (load_segment cpu seg sel)
unfolding load_segment
fits_load cpu seg sel valid small =
    each_if Fits (reads_descriptor cpu sel) (load_described cpu seg sel) (or_fault (loaded_segment cpu seg sel no_descriptor)) (fits_described cpu seg sel valid small) (fits_judged cpu seg sel no_descriptor valid small)

selector_small : (value : ℕ) → selector value < 2 ^ 16
selector_small value = omega arith

retire_small : (seg : SegName) → retire_of seg < 8
retire_small Es = omega arith
retire_small Cs = omega arith
retire_small Ss = omega arith
retire_small Ds = omega arith
retire_small Fs = omega arith
retire_small Gs = omega arith

pub tame_selector : (insn : Insn) (old cpu : Cpu) (sel : ℕ) → Tame old cpu → EachGives (Tame old) (store_selector insn cpu sel)
unfolding store_selector
tame_selector insn old cpu sel t = tame_operand insn old cpu _ _ sel t

tame_released : (cpu : Cpu) (n : ℕ) → Tame cpu (released cpu n)
unfolding with_stack_pointer
tame_released cpu n = tame_register _ _ _ _ (tame_same cpu)

-- ---- system segments

-- behind a check that passed it holds
checked : (cpu : Cpu) (holds : Bool) (vector sel : ℕ) → EachGives (λ u. holds ≡ true) (or_selector cpu holds vector sel)
unfolding or_selector
checked cpu true vector sel = refl
checked cpu false vector sel = tt

attr_small : (x : ℕ) → nat_lt (x / 2 ^ 40 % 2 ^ 8 + x / 2 ^ 52 % 2 ^ 4 * 2 ^ 8) 0x1000 ≡ true
attr_small x = let h : x / 2 ^ 40 % 2 ^ 8 + x / 2 ^ 52 % 2 ^ 4 * 2 ^ 8 < 0x1000 = omega arith in grind (arith, nat_tests, h)

busy-below : (a : ℕ) → a < 0x1000 → busy a < 0x1000
busy-below a h = omega (arith, h)

busy-fits : (a : ℕ) → busy a < 0x1000 → nat_lt (busy a) 0x1000 ≡ true
busy-fits a h = grind (arith, nat_tests, h)

fields-below : (x : ℕ) → x / 2 ^ 40 % 2 ^ 8 + x / 2 ^ 52 % 2 ^ 4 * 2 ^ 8 < 0x1000
fields-below x = omega arith

busy_small : (d : Descriptor) → nat_lt (busy (attr_of d)) 0x1000 ≡ true
busy_small d = busy-fits (attr_of d) (busy-below (attr_of d) (fields-below d.raw))

-- ---- the rows

module _ (insn : Insn) (cpu : Cpu) (valid : Valid cpu) where
  abbrev L : Finish → Type 0
  L f = Lands insn cpu f

  load_from : (named : Option SegName) → EachGives L (from_segment insn cpu named)
  load_from None = tt
  load_from (Some seg) = each_then L (Tame cpu) (store_selector insn cpu _) _ (tame_selector insn cpu cpu _ (tame_same cpu)) (λ after t. lands_tame insn cpu after valid t)

  load_to : (named : Option SegName) → EachGives L (to_segment insn cpu named)
  load_to None = tt
  load_to (Some seg) =
      asked_then L _ _ (λ value. each_then L Fits (load_segment cpu seg (selector value)) _ (fits_load cpu seg (selector value) valid (selector_small value))
      (λ s f. lands_segment insn cpu cpu seg s (retire_of seg) valid (tame_same cpu) f (retire_small seg)))

  pub lands_movseg : EachGives L (movseg_row insn cpu)
  lands_movseg = each_if L _ (to_segment insn cpu (not_code (sreg insn))) (from_segment insn cpu (sreg insn)) (load_to _) (load_from _)

  pub lands_popseg : EachGives L (popseg_row insn cpu)
  lands_popseg =
      let seg = popped_segment insn.opcode in
      asked_then L _ _ (λ value. each_then L Fits (load_segment cpu seg (selector value)) _ (fits_load cpu seg (selector value) valid (selector_small value))
      (λ s f. lands_segment insn cpu (released cpu insn.opsize) seg s (retire_of seg) valid (tame_released cpu insn.opsize) f (retire_small seg)))

  lands_at : (seg : SegName) (operand : Operand) → EachGives L (far_pointer_at seg insn cpu operand)
  lands_at seg (Register r) = tt
  lands_at seg (Memory place offset) =
      asked_then L _ _ (λ pointer. asked_then L _ _ (λ value. each_then L Fits (load_segment cpu seg (selector value)) _ (fits_load cpu seg (selector value) valid (selector_small value))
      (λ s f. lands_segment insn cpu _ seg s 0 valid (tame_register _ _ _ _ (tame_same cpu)) f (omega arith))))

  pub lands_far_pointer : (seg : SegName) → EachGives L (far_pointer_row seg insn cpu)
  lands_far_pointer seg = lands_at seg _

  abbrev Q : Cpu → Type 0
  Q after = Lands insn cpu (ends_with insn after)

  lands_ldt : (sel : ℕ) → EachGives Q (load_ldt cpu sel)
  unfolding load_ldt
  lands_ldt sel =
      asked_then Q _ _ (λ raw. each_then Q (λ u. is_base cpu (system_base raw) ≡ true) (or_selector cpu (is_base cpu (system_base raw)) _ sel) _ (checked cpu (is_base cpu (system_base raw)) _ sel)
      (λ u base. asked_then Q _ _ (λ v. asked_then Q _ _ (λ w. lands_ldtr insn cpu (system_segment sel raw (attr_of (low_part raw))) valid (record { attr = attr_small _; base = base })))))

  lands_ldt_or_none : (sel : ℕ) → EachGives Q (load_ldtr cpu sel)
  unfolding load_ldtr
  lands_ldt_or_none sel =
      let none : Seg = record cpu.ldtr { sel = sel; attr = 0 } in
      each_if Q (is_null sel) (give (with_ldtr cpu none)) (load_ldt cpu sel) (lands_ldtr insn cpu none valid (record { attr = refl; base = ldtr_base_holds cpu valid })) (lands_ldt sel)

  pub lands_lldt : EachGives L (lldt_row insn cpu)
  lands_lldt =
      asked_then L _ _ (λ a. asked_then L _ _ (λ b. asked_then L _ _ (λ c. asked_then L _ _ (λ value.
      each_then L Q (load_ldtr cpu (selector value)) _ (lands_ldt_or_none (selector value)) (λ after h. h)))))

  lands_tss : (sel : ℕ) → EachGives Q (load_tss cpu sel)
  unfolding load_tss
  lands_tss sel =
      asked_then Q _ _ (λ raw. asked_then Q _ _ (λ t. each_then Q (λ u. is_base cpu (system_base raw) ≡ true) (or_selector cpu (is_base cpu (system_base raw)) _ sel) _ (checked cpu (is_base cpu (system_base raw)) _ sel)
      (λ u base. asked_then Q _ _ (λ v. asked_then Q _ _ (λ w. asked_then Q _ _ (λ x. lands_tr insn cpu (system_segment sel raw (busy (attr_of (low_part raw)))) valid (record { attr = busy_small (low_part raw); base = base })))))))

  pub lands_ltr : EachGives L (ltr_row insn cpu)
  lands_ltr =
      asked_then L _ _ (λ a. asked_then L _ _ (λ b. asked_then L _ _ (λ c. asked_then L _ _ (λ value. asked_then L _ _ (λ d.
      each_then L Q (load_tss cpu (selector value)) _ (lands_tss (selector value)) (λ after h. h))))))
