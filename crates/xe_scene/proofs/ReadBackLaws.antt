-- Numbers are read back from their digits.
use Rattle.std.proofs.Common.{◌≡◌, ℕ, zero, suc, ◌+◌, ◌-◌, ◌*◌, ◌/◌, ◌%◌, ◌^◌, ◌<◌, ◌≤◌, Bool, true, false, cond, ◌||◌, ◌==◌, eqb, ne_eqb, mul_comm, List, [], ◌∷◌, length, get_or, Option, Some, None, refl, sym, ap, ◌∙◌, arith, pow-suc, nat_lt, if◌then◌else◌}
use Rattle.std.proofs.lemmas.Bool.Decides.{nat_tests}
use Rattle.std.proofs.lemmas.Fmt.{digits_is_IsNumeral, decimal_is_IsNumeral, decimal_digit as one_digit, first_decimal, decimal-digits_value}
use Rattle.std.proofs.lemmas.Str.Parse.{numerals_by_value, tells_digits, digit_from_value}
use Rattle.std.proofs.lemmas.Str.{digit_value_digit}
use Rattle.std.specs.Char.{digit_value}
use Rattle.std.specs.Fmt.{digits, digits_onto, digit_glyph, decimal}
use Rattle.std.specs.Option.{option_and_then}
use Rattle.std.specs.Str.Parse.{AllDigits, IsNumeral, digits_value_after, digits_value}
use Rattle.hex.specs.Hex.{hex_digit_value}
use Rattle.xe_scene.specs.Numbers.{up_to, hex_from, hex_number, decimal_digit, decimal_from, decimal_number}

-- what is read of a word that begins with a digit
step_only : (base c : ℕ) (cs : List ℕ) (n m : ℕ) (from : ℕ → Option ℕ) (digit : Option ℕ) → ((d : ℕ) → digit ≡ Some d → (digit_value c < base) × (digit_value c ≡ d))
    → ((k : ℕ) → from k ≡ Some m → AllDigits base cs × (digits_value_after base k cs ≡ m)) → option_and_then (λ d. from (base * n + d)) digit ≡ Some m
    → AllDigits base (c ∷ cs) × (digits_value_after base n (c ∷ cs) ≡ m)
step_only base c cs n m from None told rest h = absurd (cc)
step_only base c cs n m from (Some d) told rest h =
    let k = told d refl in
    let r = rest (base * n + d) h in
    let same : n * base + digit_value c ≡ base * n + d = omega (arith, mul_comm n base, k.1) in ((k.0, r.0), ap (λ (x : ℕ). digits_value_after base x cs) same ∙ r.1)

-- hexadecimal

hex_digit : (c : ℕ) → digit_value c < 16 → hex_digit_value c ≡ Some (digit_value c)
hex_digit c h = grind (arith, nat_tests)

hex_digits : (ds : List ℕ) (n : ℕ) → AllDigits 16 ds → hex_from n ds ≡ Some (digits_value_after 16 n ds)
unfolding hex_from
hex_digits [] n h = refl
hex_digits (c ∷ cs) n h =
    let e : 16 * n + digit_value c ≡ n * 16 + digit_value c = omega arith in
    ap (option_and_then (λ d. hex_from (16 * n + d) cs)) (hex_digit c h.0) ∙ ap (λ (m : ℕ). hex_from m cs) e ∙ hex_digits cs (n * 16 + digit_value c) h.1

shorter : (b : Bool) (k : ℕ) (xs ys : List ℕ) → (b ≡ true → length xs ≤ k) → (b ≡ false → length ys ≤ k) → length (cond b xs ys) ≤ k
shorter true k xs ys p q = p refl
shorter false k xs ys p q = q refl

not_zero : (n : ℕ) → eqb n 0 ≡ false → 0 < n
not_zero n e = grind (arith, nat_tests)

fewer_digits : (j n : ℕ) → n < 16 ^ suc j → n / 16 < 16 ^ j
fewer_digits j n h = let e = pow-suc 16 j in omega arith

more_digits : (j n : ℕ) → n < 16 ^ suc j → 0 < n / 16 → 0 < j
more_digits zero n h k = let e = pow-suc 16 0 in absurd (omega arith)
more_digits (suc j) n h k = omega arith

-- a number below 16 ^ j has at most j digits
few_onto : (k j n : ℕ) (upper : Bool) (acc : List ℕ) → 0 < j → n < 16 ^ j → length (digits_onto k 16 upper n acc) ≤ j + length acc
few_onto zero j n upper acc pos h = omega arith
few_onto (suc k) zero n upper acc pos h = absurd (omega arith)
few_onto (suc k) (suc j) n upper acc pos h = shorter (eqb (n / 16) 0) (suc j + length acc) (digit_glyph upper (n % 16) ∷ acc) (digits_onto k 16 upper (n / 16) (digit_glyph upper (n % 16) ∷ acc))
    (λ e. omega arith)
    (λ e.
    let some = more_digits j n h (not_zero (n / 16) e) in
    omega (arith, few_onto k j (n / 16) upper (digit_glyph upper (n % 16) ∷ acc) some (fewer_digits j n h)))

few_digits : (n : ℕ) (upper : Bool) → n < 2 ^ 64 → length (digits 16 upper n) ≤ 16
unfolding digits
few_digits n upper h = omega (arith, few_onto 64 16 n upper [] (omega arith) (omega arith))

within : (most n : ℕ) → n ≤ most → up_to most n ≡ Some n
within most n h = grind (arith, nat_tests)

in_room : (most : ℕ) (word : List ℕ) → 0 < length word → length word ≤ 16 → hex_number most word ≡ option_and_then (up_to most) (hex_from 0 word)
unfolding hex_number
in_room most word some few = grind (arith, nat_tests)

pub hex_numeral : (most : ℕ) (word : List ℕ) (n : ℕ) → IsNumeral 16 word × (length word ≤ 16) × (digits_value 16 word ≡ n) × (n ≤ most) → hex_number most word ≡ Some n
hex_numeral most word n h =
    let le : digits_value 16 word ≤ most = omega (arith, h.2, h.3) in
    in_room most word h.0.0 h.1 ∙ ap (option_and_then (up_to most)) (hex_digits word 0 h.0.1) ∙ within most (digits_value 16 word) le ∙ ap (λ (m : ℕ). Some m) h.2

small_digit : (c d : ℕ) → hex_digit_value c ≡ Some d → digit_value c < 16
small_digit c d e = grind (arith, nat_tests)

same_digit : (c d : ℕ) → hex_digit_value c ≡ Some d → digit_value c ≡ d
same_digit c d e = grind (arith, nat_tests)

hex_from_only : (w : List ℕ) (n m : ℕ) → hex_from n w ≡ Some m → AllDigits 16 w × (digits_value_after 16 n w ≡ m)
unfolding hex_from
hex_from_only [] n m e = (tt, cc)
hex_from_only (c ∷ cs) n m e = step_only 16 c cs n m (λ k. hex_from k cs) (hex_digit_value c) (λ d h. (small_digit c d h, same_digit c d h)) (λ k h. hex_from_only cs k m h) e

some_room : (k n : ℕ) (o : Option ℕ) → (if k == 0 || nat_lt 16 k then None else o) ≡ Some n → 0 < k
some_room k n o e = grind (arith, nat_tests)

few_room : (k n : ℕ) (o : Option ℕ) → (if k == 0 || nat_lt 16 k then None else o) ≡ Some n → k ≤ 16
few_room k n o e = grind (arith, nat_tests)

room_is : (k n : ℕ) (o : Option ℕ) → (if k == 0 || nat_lt 16 k then None else o) ≡ Some n → o ≡ Some n
room_is k n o e = grind (arith, nat_tests)

up_is : (most n : ℕ) (o : Option ℕ) → option_and_then (up_to most) o ≡ Some n → o ≡ Some n
up_is most n None e = absurd (cc)
up_is most n (Some m) e = grind (arith, nat_tests)

up_most : (most n : ℕ) (o : Option ℕ) → option_and_then (up_to most) o ≡ Some n → n ≤ most
up_most most n None e = absurd (cc)
up_most most n (Some m) e = grind (arith, nat_tests)

pub hex_only : (most : ℕ) (word : List ℕ) (n : ℕ) → hex_number most word ≡ Some n → IsNumeral 16 word × (length word ≤ 16) × (digits_value 16 word ≡ n) × (n ≤ most)
unfolding hex_number
hex_only most word n e =
    let o = option_and_then (up_to most) (hex_from 0 word) in
    let i = room_is (length word) n o e in
    let d = hex_from_only word 0 n (up_is most n (hex_from 0 word) i) in
    ((some_room (length word) n o e, d.0), few_room (length word) n o e, d.1, up_most most n (hex_from 0 word) i)

read_hex : (most n : ℕ) (upper : Bool) → n < 2 ^ 64 → hex_number most (digits 16 upper n) ≡ up_to most n
read_hex most n upper h =
    let k = digits_is_IsNumeral 16 upper (omega arith) (omega arith) n (omega arith) in
    in_room most (digits 16 upper n) k.0.0 (few_digits n upper h) ∙ ap (option_and_then (up_to most)) (hex_digits (digits 16 upper n) 0 k.0.1 ∙ ap (λ (m : ℕ). Some m) k.1)

pub hex_read_back : (most n : ℕ) (upper : Bool) → n ≤ most → n < 2 ^ 64 → hex_number most (digits 16 upper n) ≡ Some n
hex_read_back most n upper le h = read_hex most n upper h ∙ within most n le

pub hex_above : (most n : ℕ) (upper : Bool) → most < n → n < 2 ^ 64 → hex_number most (digits 16 upper n) ≡ None
hex_above most n upper lt h = read_hex most n upper h ∙ grind (arith, nat_tests)

-- decimal

decimal_digit_read : (c : ℕ) → digit_value c < 10 → decimal_digit c ≡ Some (digit_value c)
decimal_digit_read c h = let k = digit_from_value c h in let e = digit_value_digit c k in grind (arith, nat_tests)

decimal_digits : (ds : List ℕ) (n : ℕ) → AllDigits 10 ds → decimal_from n ds ≡ Some (digits_value_after 10 n ds)
unfolding decimal_from
decimal_digits [] n h = refl
decimal_digits (c ∷ cs) n h =
    let e : 10 * n + digit_value c ≡ n * 10 + digit_value c = omega arith in
    ap (option_and_then (λ d. decimal_from (10 * n + d) cs)) (decimal_digit_read c h.0) ∙ ap (λ (m : ℕ). decimal_from m cs) e ∙ decimal_digits cs (n * 10 + digit_value c) h.1

read_numeral : (w : List ℕ) → IsNumeral 10 w → (1 < length w → 48 < get_or w 0 0) → decimal_number w ≡ Some (digits_value 10 w)
unfolding decimal_number
read_numeral [] h lead = absurd (omega (arith, h.0))
read_numeral (c ∷ []) h lead =
    let e : digit_value c ≡ digits_value 10 (c ∷ []) = omega arith in
    decimal_digit_read c h.1.0 ∙ ap (λ (m : ℕ). Some m) e
read_numeral (c ∷ d ∷ ds) h lead =
    let k : 48 < c = lead (omega arith) in
    ap (λ (b : Bool). cond b None (decimal_from 0 (c ∷ d ∷ ds))) (ne_eqb c 48 (λ e. omega arith)) ∙ decimal_digits (c ∷ d ∷ ds) 0 h.1

no_leading_zero : (n : ℕ) → n < 2 ^ 64 → 1 < length (decimal n) → 48 < get_or (decimal n) 0 0
no_leading_zero zero h some = absurd (omega (arith, ap length (one_digit 0 (omega arith))))
no_leading_zero (suc m) h some = first_decimal (suc m) (omega arith) h

pub decimal_read_back : (n : ℕ) → n < 2 ^ 64 → decimal_number (decimal n) ≡ Some n
decimal_read_back n h =
    let k = decimal_is_IsNumeral n h in
    read_numeral (decimal n) k.0 (no_leading_zero n h) ∙ ap (λ (m : ℕ). Some m) k.1

from_48 : (c d : ℕ) → decimal_digit c ≡ Some d → 48 ≤ c
from_48 c d e = grind (arith, nat_tests)

to_57 : (c d : ℕ) → decimal_digit c ≡ Some d → c ≤ 57
to_57 c d e = grind (arith, nat_tests)

above_48 : (c d : ℕ) → decimal_digit c ≡ Some d → c - 48 ≡ d
above_48 c d e = grind (arith, nat_tests)

digit_only : (c d : ℕ) → decimal_digit c ≡ Some d → (digit_value c < 10) × (digit_value c ≡ d)
digit_only c d e =
    let k = digit_value_digit c (from_48 c d e, to_57 c d e) in
    let s = above_48 c d e in
    let t = to_57 c d e in (omega arith, omega arith)

from_only : (w : List ℕ) (n m : ℕ) → decimal_from n w ≡ Some m → AllDigits 10 w × (digits_value_after 10 n w ≡ m)
unfolding decimal_from
from_only [] n m e = (tt, cc)
from_only (c ∷ cs) n m e = step_only 10 c cs n m (λ k. decimal_from k cs) (decimal_digit c) (digit_only c) (λ k h. from_only cs k m h) e

written : (w : List ℕ) (n : ℕ) → AllDigits 10 w × (digits_value 10 w ≡ n) → 0 < length w → (get_or w 0 0 ≡ 48 → length w ≡ 1) → n < 2 ^ 64 → w ≡ decimal n
written w n k some lead h = sym (decimal-digits_value (numerals_by_value (AllDigits 10) tells_digits) w k.0 some lead (omega (arith, k.1))) ∙ ap decimal k.1

no_word : (n : ℕ) → decimal_number [] ≡ Some n → ⊥
unfolding decimal_number
no_word n e = cc

zero_first : (c n : ℕ) (o : Option ℕ) → cond (eqb c 48) None o ≡ Some n → c ≡ 48 → ⊥
zero_first c n o e z = grind (arith, nat_tests)

other_first : (c n : ℕ) (o : Option ℕ) → cond (eqb c 48) None o ≡ Some n → o ≡ Some n
other_first c n o e = grind (arith, nat_tests)

pub decimal_only : (w : List ℕ) (n : ℕ) → n < 2 ^ 64 → decimal_number w ≡ Some n → w ≡ decimal n
unfolding decimal_number
decimal_only [] n h e = absurd (no_word n e)
decimal_only (c ∷ []) n h e =
    let k = digit_only c n e in
    let same : digits_value 10 (c ∷ []) ≡ n = omega (arith, k.1) in
    written (c ∷ []) n ((k.0, tt), same) (omega arith) (λ z. refl) h
decimal_only (c ∷ d ∷ ds) n h e =
    written (c ∷ d ∷ ds) n (from_only (c ∷ d ∷ ds) 0 n (other_first c n (decimal_from 0 (c ∷ d ∷ ds)) e)) (omega arith) (λ z. absurd (zero_first c n (decimal_from 0 (c ∷ d ∷ ds)) e z)) h
