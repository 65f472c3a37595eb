use Rattle.std.proofs.Common.{ℕ, ◌≡◌, ◌<◌, ◌-◌, ◌^◌, Bool, true, false, not, Option, Some, None, bit_and, refl, sym, ap, ◌∙◌, subst, arith, if◌then◌else◌, nat_lt, nat_eq, ◌||◌, ◌&&◌, inl, inr}
use Rattle.std.specs.Int.{bit_at}
use Rattle.std.proofs.lemmas.Nat.{and_assoc}
use Rattle.std.proofs.lemmas.Nat.Bits.{bit_at_and, bit_at-lt}
use Rattle.std.proofs.lemmas.Bool.{cases_Bool}
use Rattle.std.proofs.lemmas.Bool.Decides.{nat_tests}
use Rattle.xe_base.specs.Bits.{bit, only}
use Rattle.xe_base.specs.Calm.{fixed_flags, CalmKeepsValid}
use Rattle.xe_base.specs.State.{is_long}
use Rattle.xe_base.specs.State.{Valid, broken, flags_are_valid, pointer_is_valid, cr0_is_valid, cr4_is_valid, efer_is_valid, paging_is_valid, segments_are_valid, level_is_valid, code_is_valid}
use Rattle.xe_base.specs.declared.cpu.Cpu.{Cpu}

-- the rules with the two that a calm change can touch as answers of their own
abbrev pub chain : Bool → Bool → Cpu → Option ℕ
chain flags pointer cpu =
    if not flags then Some 1 else
    (if not (cr0_is_valid cpu) then Some 2 else
    (if not (cr4_is_valid cpu) then Some 3 else
    (if not (efer_is_valid cpu) then Some 4 else
    (if not (paging_is_valid cpu) then Some 5 else
    (if not (segments_are_valid cpu) then Some 6 else
    (if not (level_is_valid cpu) then Some 7 else
    (if not (code_is_valid cpu) then Some 8 else
    (if not pointer then Some 9 else None))))))))

is_chain : (cpu : Cpu) → broken cpu ≡ chain (flags_are_valid cpu) (pointer_is_valid cpu) cpu
unfolding broken
is_chain cpu = refl

-- a rule that isn't broken leaves the rest to be judged
passed : (a : Bool) (n : ℕ) (x : Option ℕ) → (if not a then Some n else x) ≡ None → a ≡ true
passed true n x h = refl
passed false n x h = cc

onward : (a : Bool) (n : ℕ) (x : Option ℕ) → (if not a then Some n else x) ≡ None → x ≡ None
onward true n x h = h
onward false n x h = cc

pointer_passed : (p : Bool) (cpu : Cpu) → chain true p cpu ≡ None → p ≡ true
pointer_passed p cpu h =
    let rest : Option ℕ = None in
    let at9 = if not p then Some 9 else rest in
    let at8 = if not (code_is_valid cpu) then Some 8 else at9 in
    let at7 = if not (level_is_valid cpu) then Some 7 else at8 in
    let at6 = if not (segments_are_valid cpu) then Some 6 else at7 in
    let at5 = if not (paging_is_valid cpu) then Some 5 else at6 in
    let at4 = if not (efer_is_valid cpu) then Some 4 else at5 in
    let at3 = if not (cr4_is_valid cpu) then Some 3 else at4 in
    passed p 9 rest
    (onward (code_is_valid cpu) 8 at9 (onward (level_is_valid cpu) 7 at8 (onward (segments_are_valid cpu) 6 at7 (onward (paging_is_valid cpu) 5 at6
    (onward (efer_is_valid cpu) 4 at5 (onward (cr4_is_valid cpu) 3 at4 (onward (cr0_is_valid cpu) 2 at3 h)))))))

-- ---- the flags

fixed : ℕ
fixed = 2 ^ 64 - 1 - 0x247FD5

bit_one : (f g : ℕ) → fixed_flags f ≡ fixed_flags g → bit f 1 ≡ bit g 1
bit_one f g h =
    let e : bit_at (fixed_flags f) 1 ≡ bit_at (fixed_flags g) 1 = ap (λ x. bit_at x 1) h in
    let k : bit_at (2 ^ 64 - 1 - 0x247FD5) 1 ≡ 1 = refl in
    let e2 = rw (bit_at_and f (2 ^ 64 - 1 - 0x247FD5) 1, bit_at_and g (2 ^ 64 - 1 - 0x247FD5) 1, k) at e in
    let lf = bit_at-lt f 1 in
    let lg = bit_at-lt g 1 in
    let same : bit_at f 1 ≡ bit_at g 1 = omega (arith, e2, lf, lg) in
    ap (λ (x : ℕ). nat_eq x 1) same

-- the bits that are never set lie among the fixed ones
unset : (f : ℕ) → bit_and f (2 ^ 64 - 1 - 0x247FD7) ≡ bit_and (fixed_flags f) (2 ^ 64 - 1 - 0x247FD7)
unset f = sym (and_assoc (2 ^ 64 - 1 - 0x247FD7) f (2 ^ 64 - 1 - 0x247FD5))

same_only : (f g : ℕ) → fixed_flags f ≡ fixed_flags g → only 0x247FD7 f ≡ only 0x247FD7 g
same_only f g h = ap (λ (x : ℕ). nat_eq x 0) (unset f ∙ ap (λ x. bit_and x (2 ^ 64 - 1 - 0x247FD7)) h ∙ sym (unset g))

-- ---- the law

pointer_stays : (old : Cpu) (rip : ℕ) → (is_long old ≡ false → rip < 2 ^ 32) → (is_long old || nat_lt rip (2 ^ 32)) ≡ true
pointer_stays old rip h = elim (cases_Bool (is_long old)) [
  | inl t ↦ rw t refl
  | inr f ↦ let l = h f in rw f (grind (arith, nat_tests))
]

pub calm_keeps_valid : CalmKeepsValid
calm_keeps_valid old new valid calm =
    let start : chain (flags_are_valid old) (pointer_is_valid old) old ≡ None = sym (is_chain old) ∙ valid in
    let f = passed (flags_are_valid old) 1 _ start in
    let started : chain true (pointer_is_valid old) old ≡ None = rw f at start in
    let p = pointer_passed (pointer_is_valid old) old started in
    let ends : chain true true old ≡ None = rw p at started in
    let f2 : (bit new.rflags 1 && only 0x247FD7 new.rflags) ≡ true = rw (bit_one new.rflags old.rflags calm.flags, same_only new.rflags old.rflags calm.flags) f in
    let p2 : (is_long old || nat_lt new.rip (2 ^ 32)) ≡ true = pointer_stays old new.rip calm.pointer in
    let made : Cpu = record old { gpr = new.gpr; rip = new.rip; rflags = new.rflags } in
    let good : chain (bit new.rflags 1 && only 0x247FD7 new.rflags) (is_long old || nat_lt new.rip (2 ^ 32)) old ≡ None = rw (f2, p2) ends in
    subst Valid (sym calm.rest) (is_chain made ∙ good)
