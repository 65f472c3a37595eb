use Rattle.std.specs.Prelude.{ℕ, Bool, ◌/◌, ◌%◌, ◌^◌, ◌-◌, ◌==◌, ◌||◌, bit_and}

-- bit k of a number
abbrev pub bit : ℕ → ℕ → Bool
bit x k = x / 2 ^ k % 2 == 1

-- no bit outside the mask is set in a number of 64 bits
abbrev pub only : ℕ → ℕ → Bool
only mask x = bit_and x (2 ^ 64 - 1 - mask) == 0

-- all bits from width - 1 up to 63 are equal: a linear address of so many bits (SDM volume 1, "Canonical Addressing")
abbrev pub canonical : ℕ → ℕ → Bool
canonical width x = x / 2 ^ (width - 1) == 0 || x / 2 ^ (width - 1) == 2 ^ (65 - width) - 1
