use Rattle.std.specs.Prelude.{ℕ, Bool, true, false, not, ◌+◌, ◌-◌, ◌*◌, ◌%◌, ◌^◌}
use Rattle.std.specs.Int.{from_bool}
use Rattle.xe_base.specs.Bits.{bit}
use Rattle.xe_flags.specs.Status.{status_of, with_status}
use Rattle.xe_flags.specs.declared.bits.BitOp.{BitOp}
use Rattle.xe_flags.specs.declared.bits.BitOp.TheVariants.{Test, Set, Reset, Flip}

-- SDM volume 2, "BT", "BTS", "BTR" and "BTC"

-- the number with this bit at the place k: less its own, and the new one added
abbrev pub with_bit : ℕ → ℕ → Bool → ℕ
with_bit a k b = a - from_bool (bit a k) * 2 ^ k + from_bool b * 2 ^ k

unfoldable pub bit_result : BitOp → ℕ → ℕ → ℕ
bit_result Test a k = a
bit_result Set a k = with_bit a k true
bit_result Reset a k = with_bit a k false
bit_result Flip a k = with_bit a k (not (bit a k))

abbrev pub bit_word : ℕ → BitOp → ℕ → ℕ → ℕ
bit_word W op a index = bit_result op a (index % W)

-- CF is the old bit; the flags that the SDM leaves undefined stay
abbrev pub bit_flags : ℕ → ℕ → ℕ → ℕ → ℕ
bit_flags W a index flags = with_status flags (record (status_of flags) { carry = bit a (index % W) })
