use Rattle.std.specs.Prelude.{int_div, int_rem, neg_ℤ, Option, Some, None, ℕ, Bool, true, false, ◌+◌, ◌*◌, ◌/◌, ◌%◌, ◌^◌, ◌==◌, nat_lt, ℤ, pos, if◌then◌else◌}
use Rattle.xe_base.specs.Words.{signed, fits_signed, wrapped}

-- division, rounded towards zero, of a number of two words: SDM volume 2, "DIV" and "IDIV"

-- of whole numbers
abbrev pub unsigned_divided : ℕ → ℕ → ℕ → ℕ → Option (ℕ × ℕ)
unsigned_divided W high low by =
    let n = high * 2 ^ W + low in
    if by == 0 then None else (if nat_lt (n / by) (2 ^ W) then Some (n / by, n % by) else None)

-- of signed ones; the remainder has the sign of the number
unfoldable pub signed_divided : ℕ → ℕ → ℕ → ℕ → Option (ℕ × ℕ)
signed_divided W high low by =
    let n = signed (W + W) (high * 2 ^ W + low) in
    let d = signed W by in
    if by == 0 then None else (if fits_signed W (int_div n d) then Some (wrapped W (int_div n d), wrapped W (int_rem n d)) else None)

-- a number with a sign
abbrev pub with_sign : Bool → ℕ → ℤ
with_sign true n = neg_ℤ (pos n)
with_sign false n = pos n

-- quotient and remainder, or none where the divisor is 0 or the quotient has no word
abbrev pub divided : ℕ → Bool → ℕ → ℕ → ℕ → Option (ℕ × ℕ)
divided W false high low by = unsigned_divided W high low by
divided W true high low by = signed_divided W high low by
