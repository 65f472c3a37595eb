use Rattle.std.specs.Prelude.{◌≡◌, ℕ, false, ◌-◌, ◌<◌, ◌==◌, if◌then◌else◌, Option, Some, None, count_ones}
use Rattle.std.specs.Int.{w64, trailing_zeros, leading_zeros, bit_at}
use Rattle.xe_flags.specs.Status.{status_of, with_status}
use Rattle.xe_flags.specs.declared.status.Status.{Status}
use Rattle.xe_flags.specs.declared.scans.ScanOp.{ScanOp}
use Rattle.xe_flags.specs.declared.scans.ScanOp.TheVariants.{Forward, Backward, Count}

-- SDM volume 2, "BSF", "BSR" and "POPCNT"

-- the place of the lowest one of a number above 0, and of the highest
abbrev pub lowest_one : ℕ → ℕ
lowest_one a = trailing_zeros w64 a

abbrev pub highest_one : ℕ → ℕ
highest_one a = 63 - leading_zeros w64 a

-- n is the place of a one below which there is none, or above which there is none
pub record IsLowestOne (a n : ℕ) : Type 0 where
  pub set : bit_at a n ≡ 1
  pub none_below : (i : ℕ) → i < n → bit_at a i ≡ 0

pub record IsHighestOne (a n : ℕ) : Type 0 where
  pub set : bit_at a n ≡ 1
  pub none_above : (i : ℕ) → n < i → bit_at a i ≡ 0

-- the place that is found, or the number of ones
unfoldable pub scan_found : ScanOp → ℕ → Option ℕ
scan_found Forward a = if a == 0 then None else Some (lowest_one a)
scan_found Backward a = if a == 0 then None else Some (highest_one a)
scan_found Count a = Some (count_ones a)

-- the scans change ZF alone, and keep the flags that the SDM leaves undefined; the count clears the other five
unfoldable pub scan_status : ScanOp → ℕ → Status → Status
scan_status Forward a s = record s { zero = a == 0 }
scan_status Backward a s = record s { zero = a == 0 }
scan_status Count a s = record { carry = false; parity = false; adjust = false; zero = a == 0; sign = false; overflow = false }

abbrev pub scan_flags : ScanOp → ℕ → ℕ → ℕ
scan_flags op a flags = with_status flags (scan_status op a (status_of flags))
