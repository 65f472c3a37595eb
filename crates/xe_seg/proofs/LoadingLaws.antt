use Rattle.std.proofs.Common.{ℕ, ◌≡◌, ◌≢◌, ◌<◌, ◌≤◌, ◌==◌, ◌↔◌, Bool, true, false, not, ◌&&◌, ◌||◌, nat_lt, Result, Ok, Err, refl, sym, ◌∙◌, arith, if◌then◌else◌}
use Rattle.std.proofs.lemmas.Bool.{and_from}
use Rattle.std.proofs.lemmas.Bool.Decides.{nat_tests}
use Rattle.xe_base.specs.Bits.{bit}
use Rattle.xe_base.specs.Exceptions.{stack_fault, general_protection, segment_not_present}
use Rattle.xe_base.specs.State.{mode_of, is_long, lma, seg_l, pe}
use Rattle.xe_base.specs.declared.access.Fault.{Fault}
use Rattle.xe_base.specs.declared.cpu.Cpu.{Cpu}
use Rattle.xe_base.specs.declared.cpu.Mode.{Mode}
use Rattle.xe_base.specs.declared.cpu.Mode.TheVariants.{Real, Protected, Compat, Long}
use Rattle.xe_base.specs.declared.segment.Seg.{Seg}
use Rattle.xe_base.specs.declared.segment.SegName.{SegName}
use Rattle.xe_base.specs.declared.segment.SegName.TheVariants.{Es, Cs, Ss, Ds, Fs, Gs}
use Rattle.xe_seg.specs.Accesses.{protection_fault}
use Rattle.xe_seg.specs.Attributes.{is_conforming, is_readable, is_writable}
use Rattle.xe_seg.specs.Descriptors.{attr_of, s_of, dpl_of, present_of}
use Rattle.xe_seg.specs.Loads.{load, load_in, protected_load, data_load, is_null, is_null_stack, null_segment, loaded, rpl_of, selector_fault}
use Rattle.xe_seg.specs.Loading.{ServesAsData, ServesAsStack, DataLoads, StackLoads, NullLoads, NullStackLoads}
use Rattle.xe_seg.specs.declared.descriptor.Descriptor.{Descriptor}
use Rattle.xe_seg.proofs.LoadLaws.{err_ok}
use Rattle.xe_seg.proofs.PassingLaws.{false_true, true_false, is_long_in}

-- ---- which table a load follows

judged_in : (m : Mode) (cpu : Cpu) (seg : SegName) (sel : ℕ) (d : Descriptor) → m ≢ Real → load_in m cpu seg sel d ≡ protected_load cpu seg sel d
judged_in Real cpu seg sel d h = absurd (h refl)
judged_in Protected cpu seg sel d h = refl
judged_in Compat cpu seg sel d h = refl
judged_in Long cpu seg sel d h = refl

judged : (cpu : Cpu) (seg : SegName) (sel : ℕ) (d : Descriptor) → mode_of cpu ≢ Real → load cpu seg sel d ≡ protected_load cpu seg sel d
unfolding load
judged cpu seg sel d h = judged_in (mode_of cpu) cpu seg sel d h

other : (cpu : Cpu) (seg : SegName) (sel : ℕ) (d : Descriptor) → seg ≢ Ss → protected_load cpu seg sel d ≡ data_load cpu sel d
other cpu Ss sel d h = absurd (h refl)
other cpu Es sel d h = refl
other cpu Cs sel d h = refl
other cpu Ds sel d h = refl
other cpu Fs sel d h = refl
other cpu Gs sel d h = refl

-- ---- chains of checks behind a selector that isn't null

three_pass : (b c k : Bool) (f g h : Fault) (y : Seg) → (if b then Err f else (if c then Err g else (if k then Err h else Ok y))) ≡ Ok y →
    (b ≡ false) × (c ≡ false) × (k ≡ false)
three_pass true c k f g h y e = absurd (err_ok f y e)
three_pass false true k f g h y e = absurd (err_ok g y e)
three_pass false false true f g h y e = absurd (err_ok h y e)
three_pass false false false f g h y e = (refl, refl, refl)

three_hold : (b c k : Bool) (f g h : Fault) (y : Seg) → b ≡ false → c ≡ false → k ≡ false →
    (if b then Err f else (if c then Err g else (if k then Err h else Ok y))) ≡ Ok y
three_hold true c k f g h y p q r = absurd (true_false p)
three_hold false true k f g h y p q r = absurd (true_false q)
three_hold false false true f g h y p q r = absurd (true_false r)
three_hold false false false f g h y p q r = refl

four_pass : (b c k l : Bool) (f g h i : Fault) (y : Seg) → (if b then Err f else (if c then Err g else (if k then Err h else (if l then Err i else Ok y)))) ≡ Ok y →
    (b ≡ false) × (c ≡ false) × (k ≡ false) × (l ≡ false)
four_pass true c k l f g h i y e = absurd (err_ok f y e)
four_pass false true k l f g h i y e = absurd (err_ok g y e)
four_pass false false true l f g h i y e = absurd (err_ok h y e)
four_pass false false false true f g h i y e = absurd (err_ok i y e)
four_pass false false false false f g h i y e = (refl, refl, refl, refl)

four_hold : (b c k l : Bool) (f g h i : Fault) (y : Seg) → b ≡ false → c ≡ false → k ≡ false → l ≡ false →
    (if b then Err f else (if c then Err g else (if k then Err h else (if l then Err i else Ok y)))) ≡ Ok y
four_hold true c k l f g h i y p q r s = absurd (true_false p)
four_hold false true k l f g h i y p q r s = absurd (true_false q)
four_hold false false true l f g h i y p q r s = absurd (true_false r)
four_hold false false false true f g h i y p q r s = absurd (true_false s)
four_hold false false false false f g h i y p q r s = refl

behind : (a : Bool) (x y : Result Seg Fault) → a ≡ false → (if a then x else y) ≡ y
behind true x y h = absurd (true_false h)
behind false x y h = refl

at_null : (a : Bool) (x y : Result Seg Fault) → a ≡ true → (if a then x else y) ≡ x
at_null true x y h = refl
at_null false x y h = absurd (false_true h)

-- ---- what the tests say

not_not : (b : Bool) → not b ≡ false → b ≡ true
not_not true h = refl
not_not false h = absurd (true_false h)

noted : (b : Bool) → b ≡ true → not b ≡ false
noted true h = refl
noted false h = absurd (false_true h)

-- S, and the type tells readable
data_type : (s code one : Bool) → (not s || not (not code || one)) ≡ false → (s ≡ true) × (code ≡ true → one ≡ true)
data_type true true true h = (refl, (λ e. refl))
data_type true true false h = absurd (true_false h)
data_type true false one h = (refl, (λ e. absurd (false_true e)))
data_type false code one h = absurd (true_false h)

data_typed : (s code one : Bool) → s ≡ true → (code ≡ true → one ≡ true) → (not s || not (not code || one)) ≡ false
data_typed true true true p q = refl
data_typed true true false p q = absurd (false_true (q refl))
data_typed true false one p q = refl
data_typed false code one p q = absurd (false_true p)

-- S, and the type tells writable data
stack_type : (s code one : Bool) → (not s || not (not code && one)) ≡ false → (s ≡ true) × (code ≡ false) × (one ≡ true)
stack_type true true one h = absurd (true_false h)
stack_type true false true h = (refl, refl, refl)
stack_type true false false h = absurd (true_false h)
stack_type false code one h = absurd (true_false h)

stack_typed : (s code one : Bool) → s ≡ true → code ≡ false → one ≡ true → (not s || not (not code && one)) ≡ false
stack_typed true true one p q r = absurd (true_false q)
stack_typed true false true p q r = refl
stack_typed true false false p q r = absurd (false_true r)
stack_typed false code one p q r = absurd (false_true p)

levels_tell : (dpl rpl cpl : ℕ) → (nat_lt dpl rpl || nat_lt dpl cpl) ≡ false → (rpl ≤ dpl) × (cpl ≤ dpl)
levels_tell dpl rpl cpl h = grind (arith, nat_tests)

levels_told : (dpl rpl cpl : ℕ) → rpl ≤ dpl → cpl ≤ dpl → (nat_lt dpl rpl || nat_lt dpl cpl) ≡ false
levels_told dpl rpl cpl p q = grind (arith, nat_tests)

level_passes : (conforming : Bool) (dpl rpl cpl : ℕ) → (not conforming && (nat_lt dpl rpl || nat_lt dpl cpl)) ≡ false →
    (conforming ≡ false → rpl ≤ dpl) × (conforming ≡ false → cpl ≤ dpl)
level_passes true dpl rpl cpl h = ((λ e. absurd (true_false e)), (λ e. absurd (true_false e)))
level_passes false dpl rpl cpl h = let l = levels_tell dpl rpl cpl h in ((λ e. l.0), (λ e. l.1))

level_holds : (conforming : Bool) (dpl rpl cpl : ℕ) → (conforming ≡ false → rpl ≤ dpl) → (conforming ≡ false → cpl ≤ dpl) →
    (not conforming && (nat_lt dpl rpl || nat_lt dpl cpl)) ≡ false
level_holds true dpl rpl cpl p q = refl
level_holds false dpl rpl cpl p q = levels_told dpl rpl cpl (p refl) (q refl)

same_tells : (a b : ℕ) → not (a == b) ≡ false → a ≡ b
same_tells a b h = grind (arith, nat_tests)

same_told : (a b : ℕ) → a ≡ b → not (a == b) ≡ false
same_told a b h = grind (arith, nat_tests)

-- ---- DS, ES, FS and GS

data_passes : (cpu : Cpu) (sel : ℕ) (d : Descriptor) → is_null sel ≡ false → (data_load cpu sel d ≡ Ok (loaded sel d)) ↔ ServesAsData cpu sel d
data_passes cpu sel d some =
    let f = selector_fault cpu general_protection sel in
    let n = selector_fault cpu segment_not_present sel in
    let b = not (s_of d) || not (is_readable (attr_of d)) in
    let c = not (is_conforming (attr_of d)) && (nat_lt (dpl_of d) (rpl_of sel) || nat_lt (dpl_of d) cpu.cpl) in
    let k = not (present_of d) in
    let y = loaded sel d in
    let skip = behind (is_null sel) (Ok (null_segment sel)) (if b then Err f else (if c then Err f else (if k then Err n else Ok y))) some in (
      (λ ok.
          let p = three_pass b c k f f n y (sym skip ∙ ok) in
          let t = data_type (s_of d) (bit (attr_of d) 3) (bit (attr_of d) 1) p.0 in
          let l = level_passes (is_conforming (attr_of d)) (dpl_of d) (rpl_of sel) cpu.cpl p.1 in
          record { present = not_not (present_of d) p.2; code_or_data = t.0; readable = t.1; rpl = l.0; cpl = l.1 }),
      (λ p. skip ∙ three_hold b c k f f n y (data_typed (s_of d) (bit (attr_of d) 3) (bit (attr_of d) 1) p.code_or_data p.readable)
          (level_holds (is_conforming (attr_of d)) (dpl_of d) (rpl_of sel) cpu.cpl p.rpl p.cpl) (noted (present_of d) p.present)),
    )

pub data_loads : DataLoads
data_loads cpu seg sel d mode name some =
    let e = judged cpu seg sel d mode ∙ other cpu seg sel d name in
    let w = data_passes cpu sel d some in
    ((λ ok. w.0 (sym e ∙ ok)), (λ p. e ∙ w.1 p))

pub null_loads : NullLoads
null_loads cpu seg sel d mode name null =
    let f = selector_fault cpu general_protection sel in
    let n = selector_fault cpu segment_not_present sel in
    let b = not (s_of d) || not (is_readable (attr_of d)) in
    let c = not (is_conforming (attr_of d)) && (nat_lt (dpl_of d) (rpl_of sel) || nat_lt (dpl_of d) cpu.cpl) in
    let k = not (present_of d) in
    let e = judged cpu seg sel d mode ∙ other cpu seg sel d name in
    e ∙ at_null (is_null sel) (Ok (null_segment sel)) (if b then Err f else (if c then Err f else (if k then Err n else Ok (loaded sel d)))) null

-- ---- SS

-- the checks behind a selector that isn't null
abbrev stack_rest : Cpu → ℕ → Descriptor → Result Seg Fault
stack_rest cpu sel d =
    if not (rpl_of sel == cpu.cpl) then Err (selector_fault cpu general_protection sel) else
    (if not (s_of d) || not (is_writable (attr_of d)) then Err (selector_fault cpu general_protection sel) else
    (if not (dpl_of d == cpu.cpl) then Err (selector_fault cpu general_protection sel) else
    (if not (present_of d) then Err (selector_fault cpu stack_fault sel) else
    Ok (loaded sel d))))

stack_passes : (cpu : Cpu) (sel : ℕ) (d : Descriptor) → (stack_rest cpu sel d ≡ Ok (loaded sel d)) ↔ ServesAsStack cpu sel d
stack_passes cpu sel d =
    let f = selector_fault cpu general_protection sel in
    let n = selector_fault cpu stack_fault sel in
    let a = not (rpl_of sel == cpu.cpl) in
    let b = not (s_of d) || not (is_writable (attr_of d)) in
    let c = not (dpl_of d == cpu.cpl) in
    let k = not (present_of d) in
    let y = loaded sel d in (
      (λ ok.
          let p = four_pass a b c k f f f n y ok in
          let t = stack_type (s_of d) (bit (attr_of d) 3) (bit (attr_of d) 1) p.1 in
          record { present = not_not (present_of d) p.3; code_or_data = t.0; data_segment = t.1; writable = t.2; rpl = same_tells (rpl_of sel) cpu.cpl p.0; dpl = same_tells (dpl_of d) cpu.cpl p.2 }),
      (λ p. four_hold a b c k f f f n y (same_told (rpl_of sel) cpu.cpl p.rpl)
          (stack_typed (s_of d) (bit (attr_of d) 3) (bit (attr_of d) 1) p.code_or_data p.data_segment p.writable)
          (same_told (dpl_of d) cpu.cpl p.dpl) (noted (present_of d) p.present)),
    )

pub stack_loads : StackLoads
stack_loads cpu sel d mode some =
    let e = judged cpu Ss sel d mode ∙ behind (is_null sel) (if is_null_stack cpu sel then Ok (null_segment sel) else Err (protection_fault cpu)) (stack_rest cpu sel d) some in
    let w = stack_passes cpu sel d in
    ((λ ok. w.0 (sym e ∙ ok)), (λ p. e ∙ w.1 p))

-- ---- null selectors in SS

in_long : (a b c : Bool) → (a && b) ≡ true → (if a then (if b then Long else Compat) else (if c then Protected else Real)) ≡ Long
in_long true true c h = refl
in_long true false c h = absurd (false_true h)
in_long false b c h = absurd (false_true h)

lower : (cpl rpl : ℕ) → (nat_lt cpl 3 && (rpl == cpl)) ≡ true → (cpl < 3) × (rpl ≡ cpl)
lower cpl rpl h = grind (arith, nat_tests)

levels_are : (cpl rpl : ℕ) → (nat_lt cpl 3 && (rpl == cpl)) ≡ true → (true ≡ true) × (cpl < 3) × (rpl ≡ cpl)
levels_are cpl rpl h = let t = lower cpl rpl h in (refl, t.0, t.1)

null_stack_tells : (long : Bool) (cpl rpl : ℕ) → (long && (nat_lt cpl 3 && (rpl == cpl))) ≡ true → (long ≡ true) × (cpl < 3) × (rpl ≡ cpl)
null_stack_tells true cpl rpl h = levels_are cpl rpl h
null_stack_tells false cpl rpl h = absurd (false_true h)

null_stack_told : (cpl rpl : ℕ) → cpl < 3 → rpl ≡ cpl → (nat_lt cpl 3 && (rpl == cpl)) ≡ true
null_stack_told cpl rpl p q = grind (arith, nat_tests)

null_passes : (a : Bool) (x : Seg) (f : Fault) → (if a then Ok x else Err f) ≡ Ok x → a ≡ true
null_passes true x f h = refl
null_passes false x f h = absurd (err_ok f x h)

pub null_stack_loads : NullStackLoads
null_stack_loads cpu sel d mode null =
    let x = null_segment sel in
    let f = protection_fault cpu in
    let e = judged cpu Ss sel d mode ∙ at_null (is_null sel) (if is_null_stack cpu sel then Ok x else Err f) (stack_rest cpu sel d) null in (
      (λ ok.
          let t = null_stack_tells (is_long cpu) cpu.cpl (rpl_of sel) (null_passes (is_null_stack cpu sel) x f (sym e ∙ ok)) in
          record { mode = in_long (lma cpu) (seg_l cpu.cs) (pe cpu) t.0; level = t.1; rpl = t.2 }),
      (λ p. e ∙ at_null (is_null_stack cpu sel) (Ok x) (Err f)
          (and_from (is_long cpu) (nat_lt cpu.cpl 3 && (rpl_of sel == cpu.cpl)) (is_long_in cpu p.mode) (null_stack_told cpu.cpl (rpl_of sel) p.level p.rpl))),
    )
