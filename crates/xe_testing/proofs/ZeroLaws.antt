use Rattle.std.proofs.Common.{ℕ, ◌≡◌, ◌*◌, ◌^◌, IsTrue, nat_lt, true, pow_pos, arith}
use Rattle.std.proofs.lemmas.Bool.Decides.{nat_tests}
use Rattle.xe_base.specs.Access.{answers_to}
use Rattle.xe_base.specs.declared.access.Access.{Access}
use Rattle.xe_base.specs.declared.access.Answer.TheVariants.{Val}

below : (n : ℕ) → nat_lt 0 (2 ^ n) ≡ true
below n = let h = pow_pos n in grind (arith, nat_tests, h)

pub zero_fits : (a : Access) → IsTrue (answers_to a (Val 0))
zero_fits a = below (8 * a.size)
