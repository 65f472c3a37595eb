use Rattle.std.specs.Prelude.{◌≡◌, ℕ, Bool, not, ◌+◌, ◌-◌, ◌^◌, ◌==◌, if◌then◌else◌, bit_and, bit_or}
use Rattle.std.proofs.Math.Bool.{beq}
use Rattle.xe_base.specs.Bits.{bit}
use Rattle.xe_base.specs.Words.{top, is_even_low}
use Rattle.xe_flags.specs.declared.status.Status.{Status}

-- The six status flags of RFLAGS: SDM volume 1, "EFLAGS Register".

-- the bit k of the flags is set
abbrev pub flag : ℕ → ℕ → Bool
flag flags k = bit flags k

-- two bits that are not the same
abbrev pub differ : Bool → Bool → Bool
differ a b = not (beq a b)

-- a bit at its place
abbrev pub at_place : Bool → ℕ → ℕ
at_place b k = if b then 2 ^ k else 0

-- the six as they lie in the flags
unfoldable pub encoded : Status → ℕ
encoded s = at_place s.carry 0 + at_place s.parity 2 + at_place s.adjust 4 + at_place s.zero 6 + at_place s.sign 7 + at_place s.overflow 11

-- the bits of the flags that are none of the six
abbrev pub others : ℕ → ℕ
others flags = bit_and flags (2 ^ 64 - 1 - 0x8D5)

-- two flags that differ in the six at most
abbrev pub SameOthers : ℕ → ℕ → Type 0
SameOthers old new = others new ≡ others old

-- the flags with these six, and the others as they were
unfoldable pub with_status : ℕ → Status → ℕ
with_status flags s = bit_or (others flags) (encoded s)

-- the six of the flags
abbrev pub status_of : ℕ → Status
status_of flags = record { carry = flag flags 0; parity = flag flags 2; adjust = flag flags 4; zero = flag flags 6; sign = flag flags 7; overflow = flag flags 11 }

-- the flags with this ZF, and the others as they were
abbrev pub with_zero : ℕ → Bool → ℕ
with_zero flags zero = with_status flags (record (status_of flags) { zero = zero })

-- zero, sign and parity by a result of W bits, and the other three as they were
abbrev pub by_result : ℕ → ℕ → Status → Status
by_result W r s = record s { parity = is_even_low r; zero = r == 0; sign = top W r }
