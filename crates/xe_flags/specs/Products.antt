use Rattle.std.specs.Prelude.{ℕ, Bool, true, false, not, ◌*◌, ◌^◌, nat_le, ℤ, pos, ◌*ℤ◌}
use Rattle.xe_base.specs.Words.{signed, fits_signed, wrapped}
use Rattle.xe_flags.specs.Arithmetic.{floor}
use Rattle.xe_flags.specs.Status.{status_of, with_status}

-- the whole product: SDM volume 2, "MUL" and "IMUL"
abbrev pub product : ℕ → Bool → ℕ → ℕ → ℤ
product W false a b = pos (a * b)
product W true a b = signed W a *ℤ signed W b

abbrev pub low_half : ℕ → Bool → ℕ → ℕ → ℕ
low_half W s a b = wrapped W (product W s a b)

abbrev pub high_half : ℕ → Bool → ℕ → ℕ → ℕ
high_half W s a b = wrapped W (floor (product W s a b) (2 ^ W))

-- the product has no room in one word
abbrev pub is_wide : ℕ → Bool → ℕ → ℕ → Bool
is_wide W false a b = nat_le (2 ^ W) (a * b)
is_wide W true a b = not (fits_signed W (signed W a *ℤ signed W b))

-- CF and OF alone change; the four that the SDM leaves undefined stay
abbrev pub mul_flags : ℕ → Bool → ℕ → ℕ → ℕ → ℕ
mul_flags W s a b flags = with_status flags (record (status_of flags) { carry = is_wide W s a b; overflow = is_wide W s a b })
