use Rattle.std.specs.Prelude.{ℕ, Bool, false, not, ◌+◌, ◌-◌, ◌*◌, ◌/◌, ◌%◌, ◌^◌, ◌==◌, ℤ, pos, negsuc, if◌then◌else◌}
use Rattle.std.specs.Int.{from_bool}
use Rattle.xe_base.specs.Words.{signed, wrapped, top, is_even_low}
use Rattle.xe_flags.specs.Arithmetic.{floor}
use Rattle.xe_flags.specs.Status.{differ, status_of, with_status}
use Rattle.xe_flags.specs.declared.status.Status.{Status}
use Rattle.xe_flags.specs.declared.shifts.ShiftOp.{ShiftOp}
use Rattle.xe_flags.specs.declared.shifts.ShiftOp.TheVariants.{Rol, Ror, Rcl, Rcr, Shl, Shr, Sar}

-- SDM volume 2, "RCL/RCR/ROL/ROR" and "SAL/SAR/SHL/SHR"

-- how far a shift or a rotate by a count goes: the count modulo 32, and modulo 64 at 64 bits
abbrev pub distance : ℕ → ℕ → ℕ
distance W count = count % (if W == 64 then 64 else 32)

-- the last bit of a whole number
abbrev pub is_odd : ℤ → Bool
is_odd (pos n) = n % 2 == 1
is_odd (negsuc n) = n % 2 == 0

-- n bits turned right by k: the low k of them move to the top
abbrev pub turned_right : ℕ → ℕ → ℕ → ℕ
turned_right n v k = v % 2 ^ k * 2 ^ (n - k) + v / 2 ^ k

-- n bits turned left by k: the high k of them move to the bottom
abbrev pub turned_left : ℕ → ℕ → ℕ → ℕ
turned_left n v k = v % 2 ^ (n - k) * 2 ^ k + v / 2 ^ (n - k)

-- the carry above the word, turned together as W + 1 bits
abbrev pub carry_left : ℕ → ℕ → Bool → ℕ → ℕ
carry_left W a c k = turned_left (W + 1) (from_bool c * 2 ^ W + a) (k % (W + 1))

abbrev pub carry_right : ℕ → ℕ → Bool → ℕ → ℕ
carry_right W a c k = turned_right (W + 1) (from_bool c * 2 ^ W + a) (k % (W + 1))

-- the bit of a word below its top bit
abbrev pub second : ℕ → ℕ → Bool
second W r = r / 2 ^ (W - 2) % 2 == 1

-- the word of each operation by a distance k above 0, where c is the old carry
unfoldable pub shift_result : ℕ → ShiftOp → ℕ → Bool → ℕ → ℕ
shift_result W Rol a c k = turned_left W a (k % W)
shift_result W Ror a c k = turned_right W a (k % W)
shift_result W Rcl a c k = carry_left W a c k % 2 ^ W
shift_result W Rcr a c k = carry_right W a c k % 2 ^ W
shift_result W Shl a c k = a * 2 ^ k % 2 ^ W
shift_result W Shr a c k = a / 2 ^ k
shift_result W Sar a c k = wrapped W (floor (signed W a) (2 ^ k))

-- what a shift by k above 0 says, where r is its word. AF, which the SDM leaves undefined, is 0
abbrev pub shifted_status : ℕ → ℕ → Bool → Bool → Status
shifted_status W r c o = record { carry = c; parity = is_even_low r; adjust = false; zero = r == 0; sign = top W r; overflow = o }

-- what a rotate by k above 0 says: it changes CF and OF alone, and OF by one rule at each k
unfoldable pub shift_status : ℕ → ShiftOp → ℕ → Status → ℕ → Status
shift_status W Rol a s k =
    let r = turned_left W a (k % W) in
    let c = r % 2 == 1 in
    record s { carry = c; overflow = differ (top W r) c }
shift_status W Ror a s k =
    let r = turned_right W a (k % W) in
    record s { carry = top W r; overflow = differ (top W r) (second W r) }
shift_status W Rcl a s k =
    let r = carry_left W a s.carry k % 2 ^ W in
    let c = carry_left W a s.carry k / 2 ^ W == 1 in
    record s { carry = c; overflow = differ (top W r) c }
shift_status W Rcr a s k =
    let r = carry_right W a s.carry k % 2 ^ W in
    let c = carry_right W a s.carry k / 2 ^ W == 1 in
    record s { carry = c; overflow = differ (top W r) (second W r) }
shift_status W Shl a s k =
    let r = a * 2 ^ k % 2 ^ W in
    let c = a * 2 ^ k / 2 ^ W % 2 == 1 in
    shifted_status W r c (differ (top W r) c)
shift_status W Shr a s k = shifted_status W (a / 2 ^ k) (a / 2 ^ (k - 1) % 2 == 1) (top W a)
shift_status W Sar a s k = shifted_status W (wrapped W (floor (signed W a) (2 ^ k))) (is_odd (floor (signed W a) (2 ^ (k - 1)))) false

-- the word after a count; a distance of 0 leaves it
abbrev pub shift_word : ℕ → ShiftOp → ℕ → ℕ → ℕ → ℕ
shift_word W op a count flags = if distance W count == 0 then a else shift_result W op a (status_of flags).carry (distance W count)

-- the flags after a count; a distance of 0 leaves them
abbrev pub shift_flags : ℕ → ShiftOp → ℕ → ℕ → ℕ → ℕ
shift_flags W op a count flags = if distance W count == 0 then flags else with_status flags (shift_status W op a (status_of flags) (distance W count))
