use Rattle.std.specs.Prelude.{ℕ, Bool, ◌+◌, ◌*◌, ◌/◌, ◌%◌, ◌^◌, nat_lt, ◌||◌, ◌&&◌, ◌-ℤ◌, pos, if◌then◌else◌}
use Rattle.xe_base.specs.Words.{wrapped}
use Rattle.xe_flags.specs.Status.{status_of, with_status, by_result}
use Rattle.xe_flags.specs.declared.status.Status.{Status}
use Rattle.xe_flags.specs.declared.decimals.BcdOp.{BcdOp}
use Rattle.xe_flags.specs.declared.decimals.BcdOp.TheVariants.{Daa, Das, Aaa, Aas, Aam, Aad}

-- SDM volume 2, "DAA", "DAS", "AAA", "AAS", "AAM" and "AAD". Flags that the SDM leaves undefined stay

-- AL and AH of AX
abbrev pub low_byte : ℕ → ℕ
low_byte ax = ax % 256

abbrev pub high_byte : ℕ → ℕ
high_byte ax = ax / 256

-- AX with this AL
abbrev pub with_low_byte : ℕ → ℕ → ℕ
with_low_byte ax al = high_byte ax * 256 + al

-- the low digit of AL is to be corrected, and the high one
abbrev pub is_low_corrected : ℕ → Status → Bool
is_low_corrected al s = nat_lt 9 (al % 16) || s.adjust

abbrev pub is_high_corrected : ℕ → Status → Bool
is_high_corrected al s = nat_lt 0x99 al || s.carry

-- what DAA adds to AL and DAS takes from it
abbrev pub correction : ℕ → Status → ℕ
correction al s = (if is_low_corrected al s then 6 else 0) + (if is_high_corrected al s then 0x60 else 0)

-- AX with AL cut to its low digit
abbrev pub cut_to_digit : ℕ → ℕ
cut_to_digit ax = with_low_byte ax (ax % 16)

-- AX with AH less 1
abbrev pub with_high_less_one : ℕ → ℕ
with_high_less_one ax = wrapped 8 (pos (high_byte ax) -ℤ pos 1) * 256 + low_byte ax

-- AX with the carry of a digit, where the low digit is to be corrected: AAA
abbrev pub aaa_sum : ℕ → Bool → ℕ
aaa_sum ax low = if low then (ax + 0x106) % 2 ^ 16 else ax

-- AX with the borrow of a digit: first AX less 6, then AH less 1: AAS
abbrev pub aas_difference : ℕ → Bool → ℕ
aas_difference ax low = if low then with_high_less_one (wrapped 16 (pos ax -ℤ pos 6)) else ax

-- AX after each operation, where s are the old flags
unfoldable pub bcd_result : BcdOp → ℕ → ℕ → Status → ℕ
bcd_result Daa ax imm s = with_low_byte ax ((low_byte ax + correction (low_byte ax) s) % 256)
bcd_result Das ax imm s = with_low_byte ax (wrapped 8 (pos (low_byte ax) -ℤ pos (correction (low_byte ax) s)))
bcd_result Aaa ax imm s = cut_to_digit (aaa_sum ax (is_low_corrected (low_byte ax) s))
bcd_result Aas ax imm s = cut_to_digit (aas_difference ax (is_low_corrected (low_byte ax) s))
bcd_result Aam ax imm s = low_byte ax / imm * 256 + low_byte ax % imm
bcd_result Aad ax imm s = (low_byte ax + high_byte ax * imm) % 256

-- the six after each operation, where r is the new AX
unfoldable pub bcd_status : BcdOp → ℕ → ℕ → Status → Status
bcd_status Daa ax r s = by_result 8 (low_byte r) (record s {
  carry = is_high_corrected (low_byte ax) s;
  adjust = is_low_corrected (low_byte ax) s;
})
bcd_status Das ax r s = by_result 8 (low_byte r) (record s {
  carry = is_high_corrected (low_byte ax) s || (is_low_corrected (low_byte ax) s && nat_lt (low_byte ax) 6);
  adjust = is_low_corrected (low_byte ax) s;
})
bcd_status Aaa ax r s = record s { carry = is_low_corrected (low_byte ax) s; adjust = is_low_corrected (low_byte ax) s }
bcd_status Aas ax r s = record s { carry = is_low_corrected (low_byte ax) s; adjust = is_low_corrected (low_byte ax) s }
bcd_status Aam ax r s = by_result 8 (low_byte r) s
bcd_status Aad ax r s = by_result 8 (low_byte r) s

abbrev pub bcd_ax : BcdOp → ℕ → ℕ → ℕ → ℕ
bcd_ax op ax imm flags = bcd_result op ax imm (status_of flags)

abbrev pub bcd_flags : BcdOp → ℕ → ℕ → ℕ → ℕ
bcd_flags op ax imm flags = with_status flags (bcd_status op ax (bcd_ax op ax imm flags) (status_of flags))
