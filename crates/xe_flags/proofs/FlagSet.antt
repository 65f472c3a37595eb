use Rattle.std.proofs.Common.{◌≡◌, ℕ, ◌^◌, ◌-◌, Bool, true, false, refl, ◌==◌, if◌then◌else◌}
use Rattle.xe_base.specs.Calm.{fixed_flags}
use Rattle.xe_flags.specs.declared.status.Status.{Status}
use Rattle.xe_flags.specs.Status.{others, with_status, status_of, SameOthers}
use Rattle.xe_flags.specs.Shifts.{distance, shift_flags, shift_status}
use Rattle.xe_flags.specs.DoubleShifts.{double_flags, double_status}
use Rattle.xe_flags.specs.OneOperand.{unary_flags}
use Rattle.xe_flags.specs.declared.one_operand.UnOp.{UnOp}
use Rattle.xe_flags.specs.declared.one_operand.UnOp.TheVariants.{Inc, Dec, Neg, Not}
use Rattle.xe_flags.specs.declared.shifts.ShiftOp.{ShiftOp}
use Rattle.xe_flags.proofs.FlagLaws.{carry_flag, parity_flag, adjust_flag, zero_flag, sign_flag, overflow_flag, status_read, others_kept, flags_in, other_flag, others_within}

-- what a flag is after a write
pub ruleset flag_reads = (carry_flag, parity_flag, adjust_flag, zero_flag, sign_flag, overflow_flag, status_read)

pub unary_kept : (W : ℕ) (op : UnOp) (a flags : ℕ) → others (unary_flags W op a flags) ≡ others flags
unfolding unary_flags
unary_kept W Inc a flags = others_kept flags _
unary_kept W Dec a flags = others_kept flags _
unary_kept W Neg a flags = others_kept flags _
unary_kept W Not a flags = refl

pub shift_kept : (W : ℕ) (op : ShiftOp) (a count flags : ℕ) → others (shift_flags W op a count flags) ≡ others flags
shift_kept W op a count flags = elim (distance W count == 0) as (λ b. others (if b then flags else with_status flags (shift_status W op a (status_of flags) (distance W count))) ≡ others flags) [
  | true ↦ refl
  | false ↦ others_kept flags (shift_status W op a (status_of flags) (distance W count))
]

pub double_kept : (W : ℕ) (left : Bool) (a b count flags : ℕ) → others (double_flags W left a b count flags) ≡ others flags
double_kept W left a b count flags = elim (distance W count == 0) as (λ t. others (if t then flags else with_status flags (double_status W left a b (distance W count))) ≡ others flags) [
  | true ↦ refl
  | false ↦ others_kept flags (double_status W left a b (distance W count))
]

-- an operation changes none of the flags but the six: by its flags, whichever it is
pub ruleset flags_kept = (others_kept, unary_kept, shift_kept, double_kept)

-- the new flags have 64 bits
pub ruleset flags_bound = (flags_in, other_flag)

-- to change the six alone is a calm change of the flags
pub fixed_kept : (old new : ℕ) → SameOthers old new → fixed_flags new ≡ fixed_flags old
fixed_kept old new same = others_within (2 ^ 64 - 1 - 0x247FD5) old new refl same

pub fixed_written : (flags : ℕ) (s : Status) → fixed_flags (with_status flags s) ≡ fixed_flags flags
fixed_written flags s = fixed_kept flags (with_status flags s) (others_kept flags s)

pub fixed_unary : (W : ℕ) (op : UnOp) (a flags : ℕ) → fixed_flags (unary_flags W op a flags) ≡ fixed_flags flags
fixed_unary W op a flags = fixed_kept flags (unary_flags W op a flags) (unary_kept W op a flags)

pub fixed_shift : (W : ℕ) (op : ShiftOp) (a count flags : ℕ) → fixed_flags (shift_flags W op a count flags) ≡ fixed_flags flags
fixed_shift W op a count flags = fixed_kept flags (shift_flags W op a count flags) (shift_kept W op a count flags)

pub fixed_double : (W : ℕ) (left : Bool) (a b count flags : ℕ) → fixed_flags (double_flags W left a b count flags) ≡ fixed_flags flags
fixed_double W left a b count flags = fixed_kept flags (double_flags W left a b count flags) (double_kept W left a b count flags)

pub ruleset flags_calm = (fixed_written, fixed_unary, fixed_shift, fixed_double)
