use Rattle.std.proofs.Common.{ℕ, ◌≡◌, ◌<◌, ◌+◌, ◌*◌, ◌/◌, ◌%◌, ◌^◌, ◌==◌, Bool, true, false, not, ◌&&◌, ◌||◌, nat_lt, Ok, Err, refl, subst, arith, if◌then◌else◌}
use Rattle.std.proofs.lemmas.Bool.Decides.{nat_tests}
use Rattle.xe_base.specs.Exceptions.{stack_fault, general_protection, segment_not_present}
use Rattle.xe_base.specs.Registers.{segment}
use Rattle.xe_base.specs.State.{mode_of}
use Rattle.xe_base.specs.declared.access.Fault.{Fault}
use Rattle.xe_base.specs.declared.cpu.Cpu.{Cpu}
use Rattle.xe_base.specs.declared.cpu.Mode.{Mode}
use Rattle.xe_base.specs.declared.cpu.Mode.TheVariants.{Real, Protected, Compat, Long}
use Rattle.xe_base.specs.declared.segment.Seg.{Seg}
use Rattle.xe_base.specs.declared.segment.SegName.{SegName}
use Rattle.xe_base.specs.declared.segment.SegName.TheVariants.{Es, Cs, Ss, Ds, Fs, Gs}
use Rattle.xe_seg.specs.Accesses.{protection_fault}
use Rattle.xe_seg.specs.Attributes.{is_conforming, is_readable, is_writable}
use Rattle.xe_seg.specs.Descriptors.{attr_of, s_of, dpl_of, present_of}
use Rattle.xe_seg.specs.Loads.{load, load_in, protected_load, data_load, stack_load, is_null, is_null_stack, null_segment, loaded, accessed, rpl_of, selector_fault, real_segment}
use Rattle.xe_seg.specs.Loading.{KeepsRules, LoadsKeepRules}
use Rattle.xe_seg.specs.declared.descriptor.Descriptor.{Descriptor}

-- ---- the three segments that a load can leave

null_keeps : (old : Seg) (sel : ℕ) → KeepsRules old (null_segment sel)
null_keeps old sel = record { base = omega arith; attr = λ h. refl }

base_small : (x : ℕ) → x / 2 ^ 16 % 2 ^ 24 + x / 2 ^ 56 % 2 ^ 8 * 2 ^ 24 < 2 ^ 32
base_small x = omega arith

accessed_small : (a : ℕ) → a < 2 ^ 12 → nat_lt (accessed a) 0x1000 ≡ true
accessed_small a h = grind (arith, nat_tests)

fields_small : (x : ℕ) → x / 2 ^ 40 % 2 ^ 8 + x / 2 ^ 52 % 2 ^ 4 * 2 ^ 8 < 2 ^ 12
fields_small x = omega arith

loaded_keeps : (old : Seg) (sel : ℕ) (d : Descriptor) → KeepsRules old (loaded sel d)
loaded_keeps old sel d = record { base = base_small d.raw; attr = λ h. accessed_small (attr_of d) (fields_small d.raw) }

real_keeps : (old : Seg) (sel : ℕ) → sel < 2 ^ 16 → KeepsRules old (real_segment old sel)
real_keeps old sel small = record { base = omega (arith, small); attr = λ h. h }

-- ---- the chains of checks

pub err_ok : (f : Fault) (s : Seg) → Err f ≡ Ok s → ⊥
err_ok f s h = cc

data_ends : (P : Seg → Type 0) (a b c d : Bool) (f g h : Fault) (x y s : Seg) → P x → P y →
    (if a then Ok x else (if b then Err f else (if c then Err g else (if d then Err h else Ok y)))) ≡ Ok s → P s
data_ends P true b c d f g h x y s p q e = let k : x ≡ s = cc in subst P k p
data_ends P false true c d f g h x y s p q e = absurd (err_ok f s e)
data_ends P false false true d f g h x y s p q e = absurd (err_ok g s e)
data_ends P false false false true f g h x y s p q e = absurd (err_ok h s e)
data_ends P false false false false f g h x y s p q e = let k : y ≡ s = cc in subst P k q

stack_ends : (P : Seg → Type 0) (a a' b c d k : Bool) (f' f g h i : Fault) (x y s : Seg) → P x → P y →
    (if a then (if a' then Ok x else Err f') else (if b then Err f else (if c then Err g else (if d then Err h else (if k then Err i else Ok y))))) ≡ Ok s → P s
stack_ends P true true b c d k f' f g h i x y s p q e = let w : x ≡ s = cc in subst P w p
stack_ends P true false b c d k f' f g h i x y s p q e = absurd (err_ok f' s e)
stack_ends P false a' true c d k f' f g h i x y s p q e = absurd (err_ok f s e)
stack_ends P false a' false true d k f' f g h i x y s p q e = absurd (err_ok g s e)
stack_ends P false a' false false true k f' f g h i x y s p q e = absurd (err_ok h s e)
stack_ends P false a' false false false true f' f g h i x y s p q e = absurd (err_ok i s e)
stack_ends P false a' false false false false f' f g h i x y s p q e = let w : y ≡ s = cc in subst P w q

data_keeps : (old : Seg) (cpu : Cpu) (sel : ℕ) (d : Descriptor) (s : Seg) → data_load cpu sel d ≡ Ok s → KeepsRules old s
data_keeps old cpu sel d s h =
    data_ends (KeepsRules old) (is_null sel) (not (s_of d) || not (is_readable (attr_of d)))
    (not (is_conforming (attr_of d)) && (nat_lt (dpl_of d) (rpl_of sel) || nat_lt (dpl_of d) cpu.cpl)) (not (present_of d))
    (selector_fault cpu general_protection sel) (selector_fault cpu general_protection sel) (selector_fault cpu segment_not_present sel)
    (null_segment sel) (loaded sel d) s (null_keeps old sel) (loaded_keeps old sel d) h

stack_keeps : (old : Seg) (cpu : Cpu) (sel : ℕ) (d : Descriptor) (s : Seg) → stack_load cpu sel d ≡ Ok s → KeepsRules old s
stack_keeps old cpu sel d s h =
    stack_ends (KeepsRules old) (is_null sel) (is_null_stack cpu sel) (not (rpl_of sel == cpu.cpl)) (not (s_of d) || not (is_writable (attr_of d)))
    (not (dpl_of d == cpu.cpl)) (not (present_of d))
    (protection_fault cpu) (selector_fault cpu general_protection sel) (selector_fault cpu general_protection sel)
    (selector_fault cpu general_protection sel) (selector_fault cpu stack_fault sel)
    (null_segment sel) (loaded sel d) s (null_keeps old sel) (loaded_keeps old sel d) h

protected_keeps : (old : Seg) (cpu : Cpu) (seg : SegName) (sel : ℕ) (d : Descriptor) (s : Seg) → protected_load cpu seg sel d ≡ Ok s → KeepsRules old s
protected_keeps old cpu Es sel d s h = data_keeps old cpu sel d s h
protected_keeps old cpu Cs sel d s h = data_keeps old cpu sel d s h
protected_keeps old cpu Ss sel d s h = stack_keeps old cpu sel d s h
protected_keeps old cpu Ds sel d s h = data_keeps old cpu sel d s h
protected_keeps old cpu Fs sel d s h = data_keeps old cpu sel d s h
protected_keeps old cpu Gs sel d s h = data_keeps old cpu sel d s h

load_keeps : (m : Mode) (cpu : Cpu) (seg : SegName) (sel : ℕ) (d : Descriptor) (s : Seg) → sel < 2 ^ 16 → load_in m cpu seg sel d ≡ Ok s → KeepsRules (segment cpu seg) s
load_keeps Real cpu seg sel d s small h =
    let e : real_segment (segment cpu seg) sel ≡ s = cc in subst (KeepsRules (segment cpu seg)) e (real_keeps (segment cpu seg) sel small)
load_keeps Protected cpu seg sel d s small h = protected_keeps (segment cpu seg) cpu seg sel d s h
load_keeps Compat cpu seg sel d s small h = protected_keeps (segment cpu seg) cpu seg sel d s h
load_keeps Long cpu seg sel d s small h = protected_keeps (segment cpu seg) cpu seg sel d s h

pub loads_keep_rules : LoadsKeepRules
unfolding load
loads_keep_rules cpu seg sel d s small h = load_keeps (mode_of cpu) cpu seg sel d s small h
