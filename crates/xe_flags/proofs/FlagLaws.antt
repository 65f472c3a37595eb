use Rattle.std.proofs.Common.{◌<◌, sym, lit<, ◌≡◌, ℕ, Bool, true, false, ◌&&◌, ◌+◌, ◌*◌, ◌%◌, ◌^◌, ◌-◌, bit_and, bit_or, refl, ap, arith, ◌∙◌}
use Rattle.std.proofs.lemmas.Bool.{and_parts, eqb-true, ltb-true}
use Rattle.std.proofs.lemmas.Nat.{and_or_apart, and_assoc, and_le_r, or_lt}
use Rattle.std.proofs.lemmas.Nat.Bits.{bit_at_or, bit_at_and, bit_at-zero, bit_at-lt}
use Rattle.std.specs.Prelude.{nat_eq, nat_lt}
use Rattle.std.specs.Int.{bit_at, from_bool}
use mathlib.Core.Bool.{beq}
use Rattle.xe_flags.specs.declared.status.Status.{Status}
use Rattle.xe_flags.specs.Status.{flag, at_place, encoded, with_status, others, status_of}

-- a test that passes at both, at each
abbrev pub both : (Bool → Bool) → Bool
both p = p true && p false

pub both_at : (p : Bool → Bool) (b : Bool) → both p ≡ true → p b ≡ true
both_at p true h = (and_parts (p true) (p false) h).0
both_at p false h = (and_parts (p true) (p false) h).1

-- a test of the six that passes at each choice of them
abbrev pub all_six : (Bool → Bool → Bool → Bool → Bool → Bool → Bool) → Bool
all_six p = both (λ a. both (λ b. both (λ c. both (λ d. both (λ e. both (λ f. p a b c d e f))))))

pub all_six_at : (p : Bool → Bool → Bool → Bool → Bool → Bool → Bool) (a b c d e f : Bool) → all_six p ≡ true → p a b c d e f ≡ true
all_six_at p a b c d e f h =
    both_at (λ f. p a b c d e f) f (both_at (λ e. both (λ f. p a b c d e f)) e (both_at (λ d. both (λ e. both (λ f. p a b c d e f))) d (both_at (λ c. both (λ d. both (λ e. both (λ f. p a b c d e f)))) c (both_at (λ b. both (λ c. both (λ d. both (λ e. both (λ f. p a b c d e f))))) b (both_at (λ a. both (λ b. both (λ c. both (λ d. both (λ e. both (λ f. p a b c d e f)))))) a h)))))

-- what the code computes
pub encoded_is : (a b c d e f : Bool) → bit_or (bit_or (bit_or (bit_or (bit_or (from_bool a) (from_bool b * 4 % 18446744073709551616)) (from_bool c * 16 % 18446744073709551616)) (from_bool d * 64 % 18446744073709551616)) (from_bool e * 128 % 18446744073709551616)) (from_bool f * 2048 % 18446744073709551616) ≡ encoded (record { carry = a; parity = b; adjust = c; zero = d; sign = e; overflow = f })
unfolding encoded
encoded_is a b c d e f = eqb-true _ _ (all_six_at (λ a b c d e f. nat_eq (bit_or (bit_or (bit_or (bit_or (bit_or (from_bool a) (from_bool b * 4 % 18446744073709551616)) (from_bool c * 16 % 18446744073709551616)) (from_bool d * 64 % 18446744073709551616)) (from_bool e * 128 % 18446744073709551616)) (from_bool f * 2048 % 18446744073709551616)) (at_place a 0 + at_place b 2 + at_place c 4 + at_place d 6 + at_place e 7 + at_place f 11)) a b c d e f refl)

beq_same : (a b : Bool) → beq a b ≡ true → a ≡ b
beq_same true true h = refl
beq_same true false h = cc
beq_same false true h = cc
beq_same false false h = refl

-- a bit that is not kept is the one of the six
pub flag_written : (flags : ℕ) (s : Status) (k : ℕ) → bit_at (2 ^ 64 - 1 - 0x8D5) k ≡ 0 → flag (with_status flags s) k ≡ flag (encoded s) k
unfolding with_status
flag_written flags s k gone =
    let e : bit_at (bit_or (bit_and flags (2 ^ 64 - 1 - 0x8D5)) (encoded s)) k ≡ bit_at (encoded s) k = rw (bit_at_or, bit_at_and, gone) (omega arith) in
    ap (λ (x : ℕ). nat_eq x 1) e

pub carry_flag : (flags : ℕ) (s : Status) → flag (with_status flags s) 0 ≡ s.carry
unfolding encoded
carry_flag flags s = flag_written flags s 0 refl ∙ beq_same _ _ (all_six_at (λ a b c d e f. beq (flag (at_place a 0 + at_place b 2 + at_place c 4 + at_place d 6 + at_place e 7 + at_place f 11) 0) a) s.carry s.parity s.adjust s.zero s.sign s.overflow refl)

pub parity_flag : (flags : ℕ) (s : Status) → flag (with_status flags s) 2 ≡ s.parity
unfolding encoded
parity_flag flags s = flag_written flags s 2 refl ∙ beq_same _ _ (all_six_at (λ a b c d e f. beq (flag (at_place a 0 + at_place b 2 + at_place c 4 + at_place d 6 + at_place e 7 + at_place f 11) 2) b) s.carry s.parity s.adjust s.zero s.sign s.overflow refl)

pub adjust_flag : (flags : ℕ) (s : Status) → flag (with_status flags s) 4 ≡ s.adjust
unfolding encoded
adjust_flag flags s = flag_written flags s 4 refl ∙ beq_same _ _ (all_six_at (λ a b c d e f. beq (flag (at_place a 0 + at_place b 2 + at_place c 4 + at_place d 6 + at_place e 7 + at_place f 11) 4) c) s.carry s.parity s.adjust s.zero s.sign s.overflow refl)

pub zero_flag : (flags : ℕ) (s : Status) → flag (with_status flags s) 6 ≡ s.zero
unfolding encoded
zero_flag flags s = flag_written flags s 6 refl ∙ beq_same _ _ (all_six_at (λ a b c d e f. beq (flag (at_place a 0 + at_place b 2 + at_place c 4 + at_place d 6 + at_place e 7 + at_place f 11) 6) d) s.carry s.parity s.adjust s.zero s.sign s.overflow refl)

pub sign_flag : (flags : ℕ) (s : Status) → flag (with_status flags s) 7 ≡ s.sign
unfolding encoded
sign_flag flags s = flag_written flags s 7 refl ∙ beq_same _ _ (all_six_at (λ a b c d e f. beq (flag (at_place a 0 + at_place b 2 + at_place c 4 + at_place d 6 + at_place e 7 + at_place f 11) 7) e) s.carry s.parity s.adjust s.zero s.sign s.overflow refl)

pub overflow_flag : (flags : ℕ) (s : Status) → flag (with_status flags s) 11 ≡ s.overflow
unfolding encoded
overflow_flag flags s = flag_written flags s 11 refl ∙ beq_same _ _ (all_six_at (λ a b c d e f. beq (flag (at_place a 0 + at_place b 2 + at_place c 4 + at_place d 6 + at_place e 7 + at_place f 11) 11) f) s.carry s.parity s.adjust s.zero s.sign s.overflow refl)

-- the six, read after they are written, are they
pub status_read : (flags : ℕ) (s : Status) → status_of (with_status flags s) ≡ s
status_read flags s = λ i. record {
  carry = carry_flag flags s i;
  parity = parity_flag flags s i;
  adjust = adjust_flag flags s i;
  zero = zero_flag flags s i;
  sign = sign_flag flags s i;
  overflow = overflow_flag flags s i;
}

encoded_apart : (s : Status) → bit_and (encoded s) (2 ^ 64 - 1 - 0x8D5) ≡ 0
unfolding encoded
encoded_apart s = eqb-true _ 0 (all_six_at (λ a b c d e f. nat_eq (bit_and (at_place a 0 + at_place b 2 + at_place c 4 + at_place d 6 + at_place e 7 + at_place f 11) (2 ^ 64 - 1 - 0x8D5)) 0) s.carry s.parity s.adjust s.zero s.sign s.overflow refl)

-- all the other bits are as they were
pub others_kept : (flags : ℕ) (s : Status) → bit_and (with_status flags s) (2 ^ 64 - 1 - 0x8D5) ≡ bit_and flags (2 ^ 64 - 1 - 0x8D5)
unfolding with_status
others_kept flags s = and_or_apart (2 ^ 64 - 1 - 0x8D5) (bit_and flags (2 ^ 64 - 1 - 0x8D5)) (encoded s) (encoded_apart s) ∙ and_assoc (2 ^ 64 - 1 - 0x8D5) flags (2 ^ 64 - 1 - 0x8D5)

-- so is each part of them
pub others_within : (m old new : ℕ) → bit_and (2 ^ 64 - 1 - 0x8D5) m ≡ m → others new ≡ others old → bit_and new m ≡ bit_and old m
others_within m old new within same =
    let part : (x : ℕ) → bit_and (others x) m ≡ bit_and x m = λ x. and_assoc m x (2 ^ 64 - 1 - 0x8D5) ∙ ap (λ (y : ℕ). bit_and x y) within in
    sym (part new) ∙ ap (λ (y : ℕ). bit_and y m) same ∙ part old

-- a bit that is none of the six stays
pub other_flag : (flags : ℕ) (s : Status) (k : ℕ) → bit_at (2 ^ 64 - 1 - 0x8D5) k ≡ 1 → flag (with_status flags s) k ≡ flag flags k
unfolding with_status
other_flag flags s k kept =
    let apart : bit_at (bit_and (encoded s) (2 ^ 64 - 1 - 0x8D5)) k ≡ bit_at 0 k = ap (λ (x : ℕ). bit_at x k) (encoded_apart s) in
    let none : bit_at (encoded s) k ≡ 0 = omega (arith, bit_at_and (encoded s) (2 ^ 64 - 1 - 0x8D5) k, bit_at-zero k, bit_at-lt (encoded s) k) in
    let e : bit_at (bit_or (bit_and flags (2 ^ 64 - 1 - 0x8D5)) (encoded s)) k ≡ bit_at flags k = rw (bit_at_or, bit_at_and, kept, none) (omega (arith, bit_at-lt flags k)) in
    ap (λ (x : ℕ). nat_eq x 1) e

encoded_in : (s : Status) → encoded s < 2 ^ 64
unfolding encoded
encoded_in s = ltb-true _ _ (all_six_at (λ a b c d e f. nat_lt (at_place a 0 + at_place b 2 + at_place c 4 + at_place d 6 + at_place e 7 + at_place f 11) (2 ^ 64)) s.carry s.parity s.adjust s.zero s.sign s.overflow refl)

-- the new flags have 64 bits
pub flags_in : (flags : ℕ) (s : Status) → with_status flags s < 2 ^ 64
unfolding with_status
flags_in flags s =
    let mask : 2 ^ 64 - 1 - 0x8D5 < 2 ^ 64 = lit< tt in
    or_lt 64 (bit_and flags (2 ^ 64 - 1 - 0x8D5)) (encoded s) (omega (arith, and_le_r flags (2 ^ 64 - 1 - 0x8D5))) (encoded_in s)
