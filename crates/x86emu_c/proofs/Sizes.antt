-- What fits into a number of bytes.
use Rattle.std.proofs.Common.{◌≡◌, ◌≤◌, ◌<◌, ◌*◌, ◌^◌, ◌/◌, ℕ, arith, true, nat_eq, nat_lt}
use Rattle.std.specs.Prelude.{◌↔◌}
use Rattle.std.proofs.Math.Nat.{div-lt_iff_lt-mul}
use Rattle.std.proofs.Math.Pow.{pow_mono}
use Rattle.std.proofs.lemmas.Nat.{pow_pos}
use Rattle.std.proofs.lemmas.Bool.Decides.{nat_tests}

pub fits-all : (v s : ℕ) → v < 2 ^ 64 → 8 ≤ s → true ≡ nat_lt v (2 ^ (8 * s))
fits-all v s h g = let p : 2 ^ 64 ≤ 2 ^ (8 * s) = pow_mono {i = 64} {j = 8 * s} (omega (arith, g)) in grind (arith, nat_tests)

below-one : (v k : ℕ) → 0 < k → nat_eq (v / k) 0 ≡ nat_lt v k
below-one v k h = let p : (v / k < 1) ↔ (v < 1 * k) = div-lt_iff_lt-mul h in grind (arith, nat_tests)

pub fits-some : (v s : ℕ) → nat_eq (v / 2 ^ (8 * s)) 0 ≡ nat_lt v (2 ^ (8 * s))
fits-some v s = below-one v (2 ^ (8 * s)) (pow_pos (8 * s))
