use Rattle.std.proofs.Common.{◌≡◌, ℕ, ◌+◌, ◌-◌, ◌%◌, ◌≤◌, refl, sym, ap, arith}
use Rattle.std.specs.Prelude.{pos, ◌-ℤ◌, unsigned_abs}
use Rattle.std.proofs.lemmas.Int.{ints, int_rem_euclid_is}
use Rattle.xe_base.specs.Words.{wrapped}

-- a byte less another
pub byte_minus : (a b : ℕ) → b ≤ 256 → (a + 256 - b) % 256 ≡ wrapped 8 (pos a -ℤ pos b)
byte_minus a b b_in = ap unsigned_abs (sym (int_rem_euclid_is (pos a -ℤ pos b) (pos 256) 256 1 (a + 256 - b) (omega arith) refl (omega (arith, ints))))
