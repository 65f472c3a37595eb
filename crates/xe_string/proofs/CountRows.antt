use Rattle.std.proofs.Common.{ℕ, ◌≡◌, ◌<◌, ◌+◌, ◌-◌, ◌*◌, ◌%◌, ◌^◌, ◌==◌, ◌&&◌, not, Bool, true, false, refl, sym, ap, ◌∙◌, subst, inl, inr, arith, if◌then◌else◌, length, slice_index, slice_set, List, pow_pos}
use Rattle.std.proofs.lemmas.Bool.{or_cases, eqb-true}
use Rattle.std.proofs.lemmas.Bool.Decides.{nat_tests}
use Rattle.std.proofs.lemmas.Grind.{common_steps}
use Rattle.xe_base.specs.Registers.{is_high_byte, with_high_byte, written, register_value, with_register}
use Rattle.xe_base.specs.State.{is_long}
use Rattle.xe_base.specs.declared.cpu.Cpu.{Cpu}
use Rattle.xe_opmap.specs.Encoding.{IsSize}
use Rattle.xe_opmap.specs.declared.insn.Insn.{Insn}
use Rattle.xe_opmap.specs.declared.row.Row.{Row}
use Rattle.xe_opmap.specs.declared.row.Row.TheVariants as row
use Rattle.xe_ctx.specs.Finishes.{EachGives}
use Rattle.xe_ctx.specs.Operand.{IsOf, ends_with, ends}
use Rattle.xe_ctx.specs.Tree.{◌>>=◌, give}
use Rattle.xe_ctx.specs.declared.stop.Finish.{Finish}
use Rattle.xe_ctx.proofs.FinishLaws.{each_then}
use Rattle.xe_string.specs.Element.{element}
use Rattle.xe_string.specs.Prefix.{is_repeated}
use Rattle.xe_string.specs.Repeat.{count, with_count, goes_on, counted, repeated, CountsDown}
use Rattle.xe_string.specs.Rows.{row_at, or_undefined, row_of, is_row}
use Rattle.xe_string.specs.declared.element.StringOp.{StringOp}
use Rattle.xe_string.proofs.ElementLaws.{element_keeps}

-- ---- the count's register

-- it is none of AH, CH, DH and BH
no-high : (size : ℕ) (rex : Bool) → is_high_byte size rex 1 ≡ false
no-high size rex = both (size == 1) rex where
  both : (a b : Bool) → a && (not b && (false && true)) ≡ false
  both true true = refl
  both true false = refl
  both false b = refl

-- what a write of a number that fits leaves in the low bytes
abbrev Reads : ℕ → Type 0
Reads n = (long : Bool) (old value : ℕ) → value < 2 ^ (8 * n) → written long n old value % 2 ^ (8 * n) ≡ value

reads-2 : Reads 2
reads-2 long old value h = omega arith

reads-4 : Reads 4
reads-4 true old value h = omega arith
reads-4 false old value h = omega arith

reads-8 : Reads 8
reads-8 long old value h = omega arith

reads-of : (n : ℕ) → IsSize n → Reads n
reads-of n h =
    elim (or_cases _ _ h) [
      | inl h ↦ elim (or_cases _ _ h) [
        | inl h ↦ subst Reads (sym (eqb-true n 2 h)) reads-2
        | inr h ↦ subst Reads (sym (eqb-true n 4 h)) reads-4
      ]
      | inr h ↦ subst Reads (sym (eqb-true n 8 h)) reads-8
    ]

set-read : (xs : List ℕ) (v : ℕ) → length xs ≡ 16 → slice_index (slice_set xs 1 v) 1 ≡ v
set-read xs v h = grind (arith, common_steps)

module _ (insn : Insn) (of_ : IsSize insn.adsize) where
  count-read : (cpu : Cpu) (left : ℕ) → length cpu.gpr ≡ 16 → left < 2 ^ (8 * insn.adsize) → count insn (with_count insn cpu left) ≡ left
  unfolding register_value with_register
  count-read cpu left sixteen fits =
      let n = insn.adsize in
      let v : ℕ = written (is_long cpu) n (slice_index cpu.gpr 1) left in
      rw no-high (ap (λ (x : ℕ). x % 2 ^ (8 * n)) (set-read cpu.gpr v sixteen) ∙ reads-of n of_ (is_long cpu) (slice_index cpu.gpr 1) left fits)

  count-below : (cpu : Cpu) → count insn cpu < 2 ^ (8 * insn.adsize)
  unfolding register_value
  count-below cpu = let p = pow_pos (8 * insn.adsize) in rw no-high (omega (arith, p))

-- ---- how the step ends

-- there stay sixteen registers
sixteen-if : (c : Bool) (a b : Cpu) → length a.gpr ≡ 16 → length b.gpr ≡ 16 → length (if c then a else b).gpr ≡ 16
sixteen-if true a b s t = s
sixteen-if false a b s t = t

sixteen-register : (cpu : Cpu) (n : ℕ) (rex : Bool) (r value : ℕ) → length cpu.gpr ≡ 16 → length (with_register cpu n rex r value).gpr ≡ 16
unfolding with_register
sixteen-register cpu n rex r value h =
    let high : List ℕ = slice_set cpu.gpr (r - 4) (with_high_byte (slice_index cpu.gpr (r - 4)) value) in
    let whole : List ℕ = slice_set cpu.gpr r (written (is_long cpu) n (slice_index cpu.gpr r) value) in
    sixteen-if (is_high_byte n rex r) (record cpu { gpr = high }) (record cpu { gpr = whole }) (grind (arith, common_steps)) (grind (arith, common_steps))

-- a step after which it doesn't go on
over : (insn : Insn) (cpu : Cpu) (f : Finish) → f.more ≡ false → CountsDown insn cpu f
over insn cpu f h = record { left = λ more. cc; less = λ more. cc }

module _ (insn : Insn) (cpu : Cpu) (of_ : IsOf cpu insn) (sixteen : length cpu.gpr ≡ 16) where
  stays : (op : StringOp) (after : Cpu) (left : ℕ) → length after.gpr ≡ 16 → left + 1 ≡ count insn cpu → not (left == 0) ≡ true → CountsDown insn cpu (record { cpu = with_count insn after left; more = true; retire = 0 })
  stays op after left h is some =
      let below = count-below insn of_.parts.adsize cpu in
      let e = count-read insn of_.parts.adsize after left h (omega (arith, below, is)) in
      record { left = λ more. rw e (grind (arith, nat_tests, some)); less = λ more. rw e is }

  first : (a b : Bool) → a && b ≡ true → a ≡ true
  first true b h = refl
  first false b h = h

  chosen : (op : StringOp) (more : Bool) (after : Cpu) (left : ℕ) → length after.gpr ≡ 16 → left + 1 ≡ count insn cpu → (more ≡ true → not (left == 0) ≡ true) → CountsDown insn cpu (if more then record { cpu = with_count insn after left; more = true; retire = 0 } else ends_with insn (with_count insn after left))
  chosen op true after left h is some = stays op after left h is (some refl)
  chosen op false after left h is some = over insn cpu _ refl

  counted-end : (op : StringOp) (after : Cpu) (left : ℕ) → length after.gpr ≡ 16 → left + 1 ≡ count insn cpu → CountsDown insn cpu (counted op insn after left)
  counted-end op after left h is = chosen op (goes_on op insn left after.rflags) after left h is (λ more. first _ _ more)

  after-end : (op : StringOp) (again none : Bool) (after : Cpu) → (count insn cpu == 0) ≡ none → again && none ≡ false → length after.gpr ≡ 16 → CountsDown insn cpu (if again then counted op insn after (count insn cpu - 1) else ends_with insn after)
  after-end op true true after is some h = cc
  after-end op true false after is some h = counted-end op after (count insn cpu - 1) h (grind (arith, nat_tests, is))
  after-end op false none after is some h = over insn cpu _ refl

  repeated-end : (op : StringOp) (again none : Bool) → is_repeated insn ≡ again → (count insn cpu == 0) ≡ none → EachGives (CountsDown insn cpu) (if again && none then ends insn cpu else element op insn cpu >>= (λ after. give (if again then counted op insn after (count insn cpu - 1) else ends_with insn after)))
  repeated-end op true true e is = over insn cpu _ refl
  repeated-end op true false e is = each_then (CountsDown insn cpu) (λ (after : Cpu). length after.gpr ≡ 16) (element op insn cpu) _ (element_keeps insn cpu (λ (after : Cpu). length after.gpr ≡ 16) sixteen sixteen-register (λ after s h. h) op) (λ after h. after-end op true false after is refl h)
  repeated-end op false none e is = each_then (CountsDown insn cpu) (λ (after : Cpu). length after.gpr ≡ 16) (element op insn cpu) _ (element_keeps insn cpu (λ (after : Cpu). length after.gpr ≡ 16) sixteen sixteen-register (λ after s h. h) op) (λ after h. after-end op false none after is refl h)

  counts : (op : StringOp) → EachGives (CountsDown insn cpu) (repeated op insn cpu)
  counts op = repeated-end op (is_repeated insn) (count insn cpu == 0) refl refl

  counts-at : (r : Row) → EachGives (CountsDown insn cpu) (or_undefined (row_at r) insn cpu)
  counts-at row.Movs = counts StringOp.Movs
  counts-at row.Cmps = counts StringOp.Cmps
  counts-at row.Stos = counts StringOp.Stos
  counts-at row.Lods = counts StringOp.Lods
  counts-at row.Scas = counts StringOp.Scas
  counts-at row.Ins = counts StringOp.Ins
  counts-at row.Outs = counts StringOp.Outs
  counts-at other = tt

pub rows_count_down : (insn : Insn) (cpu : Cpu) → is_row insn.row ≡ true → IsOf cpu insn → length cpu.gpr ≡ 16 → EachGives (CountsDown insn cpu) (row_of insn cpu)
rows_count_down insn cpu built of_ sixteen = counts-at insn cpu of_ sixteen insn.row
