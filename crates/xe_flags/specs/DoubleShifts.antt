use Rattle.std.specs.Prelude.{ℕ, Bool, true, false, ◌+◌, ◌-◌, ◌*◌, ◌/◌, ◌%◌, ◌^◌, ◌==◌, if◌then◌else◌}
use Rattle.xe_base.specs.Words.{top}
use Rattle.xe_flags.specs.Status.{differ, with_status}
use Rattle.xe_flags.specs.Shifts.{distance, shifted_status}
use Rattle.xe_flags.specs.declared.status.Status.{Status}

-- SDM volume 2, "SHLD" and "SHRD". The SDM leaves the result of a count above the width undefined: here it is the
-- word that the three words a, b, a give, shifted as one number

-- the three words as one number
abbrev pub three_words : ℕ → ℕ → ℕ → ℕ
three_words W a b = a * 2 ^ W * 2 ^ W + b * 2 ^ W + a

-- the word of a distance k above 0: the highest of the three to the left, the lowest to the right
abbrev pub double_result : ℕ → Bool → ℕ → ℕ → ℕ → ℕ
double_result W true a b k = three_words W a b * 2 ^ k / (2 ^ W * 2 ^ W) % 2 ^ W
double_result W false a b k = three_words W a b / 2 ^ k % 2 ^ W

-- the last bit that went out
abbrev pub double_carry : ℕ → Bool → ℕ → ℕ → ℕ → Bool
double_carry W true a b k = three_words W a b * 2 ^ k / (2 ^ W * 2 ^ W * 2 ^ W) % 2 == 1
double_carry W false a b k = three_words W a b / 2 ^ (k - 1) % 2 == 1

-- OF says whether the sign changed, at each k
unfoldable pub double_status : ℕ → Bool → ℕ → ℕ → ℕ → Status
double_status W left a b k =
    let r = double_result W left a b k in
    shifted_status W r (double_carry W left a b k) (differ (top W r) (top W a))

-- the word after a count; a distance of 0 leaves it
abbrev pub double_word : ℕ → Bool → ℕ → ℕ → ℕ → ℕ
double_word W left a b count = if distance W count == 0 then a else double_result W left a b (distance W count)

-- the flags after a count; a distance of 0 leaves them
abbrev pub double_flags : ℕ → Bool → ℕ → ℕ → ℕ → ℕ → ℕ
double_flags W left a b count flags = if distance W count == 0 then flags else with_status flags (double_status W left a b (distance W count))
