-- Numbers and byte texts as words. Addresses and values are hexadecimal, as manuals, dumps and the trace have them; counts are decimal, without
-- leading zeros.
use Rattle.std.specs.Prelude.{ℕ, ◌+◌, ◌*◌, ◌-◌, ◌==◌, ◌&&◌, ◌||◌, nat_le, nat_lt, if◌then◌else◌, List, [], ◌∷◌, length, Option, Some, None, option_and_then, Result, Ok, Err}
use Rattle.hex.specs.Hex.{hex_digit_value, decode_of}
use Rattle.hex.specs.declared.error.FromHexError.{FromHexError}
use Rattle.arrayvec.specs.ArrayVec.{ArrayVec}

-- a number that is at most the greatest value of its field
abbrev pub up_to : ℕ → ℕ → Option ℕ
up_to most n = if nat_le n most then Some n else None

-- the number whose first digits stand for n and whose other digits follow
unfoldable pub hex_from : ℕ → List ℕ → Option ℕ
hex_from n [] = Some n
hex_from n (c ∷ cs) = option_and_then (λ d. hex_from (16 * n + d) cs) (hex_digit_value c)

-- 1 to 16 hexadecimal digits of either case
unfoldable pub hex_number : ℕ → List ℕ → Option ℕ
hex_number most word =
    if length word == 0 || nat_lt 16 (length word) then None
    else option_and_then (up_to most) (hex_from 0 word)

abbrev pub decimal_digit : ℕ → Option ℕ
decimal_digit c = if nat_le 48 c && nat_le c 57 then Some (c - 48) else None

unfoldable pub decimal_from : ℕ → List ℕ → Option ℕ
decimal_from n [] = Some n
decimal_from n (c ∷ cs) = option_and_then (λ d. decimal_from (10 * n + d) cs) (decimal_digit c)

-- a number of any length in decimal, without leading zeros
unfoldable pub decimal_number : List ℕ → Option ℕ
decimal_number [] = None
decimal_number (c ∷ []) = decimal_digit c
decimal_number (c ∷ d ∷ ds) = if c == 48 then None else decimal_from 0 (c ∷ d ∷ ds)

abbrev pub some_bytes : Result (List ℕ) FromHexError → Option (ArrayVec ℕ)
some_bytes (Ok bytes) = Some (record { items = bytes })
some_bytes (Err e) = None

-- 1 to 64 bytes, each as two hexadecimal digits of either case
unfoldable pub bytes_of : List ℕ → Option (ArrayVec ℕ)
bytes_of word = if length word == 0 || nat_lt 128 (length word) then None else some_bytes (decode_of word)
