use Rattle.std.specs.Prelude.{ℕ, false, not, ◌+◌, ◌%◌, ◌^◌, ◌==◌, nat_lt, nat_le, ℤ, pos, ◌+ℤ◌, ◌-ℤ◌, bit_and, bit_or, bit_xor}
use Rattle.std.specs.Int.{from_bool}
use Rattle.std.specs.Int.Signed.{shr_z}
use Rattle.xe_base.specs.Words.{signed, fits_signed, wrapped, top, is_even_low}
use Rattle.xe_flags.specs.Status.{status_of, with_status}
use Rattle.xe_flags.specs.declared.status.Status.{Status}
use Rattle.xe_flags.specs.declared.arithmetic.AluOp.{AluOp}
use Rattle.xe_flags.specs.declared.arithmetic.AluOp.TheVariants.{Add, Or, Adc, Sbb, And, Sub, Xor, Cmp}

-- z / d of whole numbers, rounded down
abbrev pub floor : ℤ → ℕ → ℤ
floor z d = shr_z z d

-- a + b + c: SDM volume 2, "ADD" and "ADC"
abbrev pub sum_word : ℕ → ℕ → ℕ → ℕ → ℕ
sum_word W a b c = (a + b + c) % 2 ^ W

unfoldable pub sum_status : ℕ → ℕ → ℕ → ℕ → Status
sum_status W a b c = let r = sum_word W a b c in record {
  carry = nat_le (2 ^ W) (a + b + c);
  parity = is_even_low r;
  adjust = nat_lt 15 (a % 16 + b % 16 + c);
  zero = r == 0;
  sign = top W r;
  overflow = not (fits_signed W (signed W a +ℤ signed W b +ℤ pos c));
}

-- a - b - c: SDM volume 2, "SUB", "SBB" and "CMP". The borrow is judged on whole numbers, so that b + c is never cut
abbrev pub difference_word : ℕ → ℕ → ℕ → ℕ → ℕ
difference_word W a b c = wrapped W (pos a -ℤ pos b -ℤ pos c)

unfoldable pub difference_status : ℕ → ℕ → ℕ → ℕ → Status
difference_status W a b c = let r = difference_word W a b c in record {
  carry = nat_lt a (b + c);
  parity = is_even_low r;
  adjust = nat_lt (a % 16) (b % 16 + c);
  zero = r == 0;
  sign = top W r;
  overflow = not (fits_signed W (signed W a -ℤ signed W b -ℤ pos c));
}

-- of a bitwise operation: SDM volume 2, "AND", "OR", "XOR" and "TEST". AF, which the SDM leaves undefined, is 0
unfoldable pub logic_status : ℕ → ℕ → Status
logic_status W r = record { carry = false; parity = is_even_low r; adjust = false; zero = r == 0; sign = top W r; overflow = false }

-- the carry that comes in
abbrev pub carry_in : ℕ → ℕ
carry_in flags = from_bool (status_of flags).carry

-- the word of each operation, where c is the carry that comes in; CMP leaves a
unfoldable pub alu_result : ℕ → AluOp → ℕ → ℕ → ℕ → ℕ
alu_result W Add a b c = sum_word W a b 0
alu_result W Or a b c = bit_or a b
alu_result W Adc a b c = sum_word W a b c
alu_result W Sbb a b c = difference_word W a b c
alu_result W And a b c = bit_and a b
alu_result W Sub a b c = difference_word W a b 0
alu_result W Xor a b c = bit_xor a b
alu_result W Cmp a b c = a

-- what each says of its result
unfoldable pub alu_status : ℕ → AluOp → ℕ → ℕ → ℕ → Status
alu_status W Add a b c = sum_status W a b 0
alu_status W Or a b c = logic_status W (bit_or a b)
alu_status W Adc a b c = sum_status W a b c
alu_status W Sbb a b c = difference_status W a b c
alu_status W And a b c = logic_status W (bit_and a b)
alu_status W Sub a b c = difference_status W a b 0
alu_status W Xor a b c = logic_status W (bit_xor a b)
alu_status W Cmp a b c = difference_status W a b 0

abbrev pub alu_word : ℕ → AluOp → ℕ → ℕ → ℕ → ℕ
alu_word W op a b flags = alu_result W op a b (carry_in flags)

abbrev pub alu_flags : ℕ → AluOp → ℕ → ℕ → ℕ → ℕ
alu_flags W op a b flags = with_status flags (alu_status W op a b (carry_in flags))
