use Rattle.std.proofs.Common.{ℕ, ◌≡◌, ◌*◌, ◌^◌, IsTrue, nat_lt, true, refl, subst}
use Rattle.std.proofs.lemmas.Bool.{eqb-true}
use Rattle.xe_base.specs.Access.{IsWellFormed, is_size_in, answers_to}
use Rattle.xe_base.specs.declared.access.Access.{Access}
use Rattle.xe_base.specs.declared.access.Answer.TheVariants.{Val, No}
use Rattle.xe_base.specs.declared.access.Space.TheVariants.{Msr}
use Rattle.xe_sys.proofs.StateRules.{left}

pub no_fits : (a : Access) → a.space ≡ Msr → IsTrue (answers_to a No)
no_fits a e = rw e refl

wide : (n : ℕ) → n ≡ 8 → nat_lt 0x1122334455667788 (2 ^ (8 * n)) ≡ true
wide n e = rw e refl

sized : (a : Access) → a.space ≡ Msr → is_size_in a.space a.size ≡ true → a.size ≡ 8
sized a e h = eqb-true a.size 8 (subst (λ s. is_size_in s a.size ≡ true) e h)

pub msr_fits : (a : Access) → IsWellFormed a → a.space ≡ Msr → IsTrue (answers_to a (Val 0x1122334455667788))
msr_fits a w e = wide a.size (sized a e (left _ _ w))
