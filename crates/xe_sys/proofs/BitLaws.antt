use Rattle.std.proofs.Common.{ℕ, ◌≡◌, true, false, bit_and, bit_or, refl, ap, ◌∙◌, arith, min, max, nat_eq, ◌<◌}
use Rattle.std.specs.Int.{bit_at}
use Rattle.std.specs.Int.Bits.{and_zero_r}
use Rattle.std.proofs.Math.Nat.{min-zero}
use Rattle.std.proofs.lemmas.Bool.Decides.{nat_tests}
use Rattle.std.proofs.lemmas.Nat.{and_assoc}
use Rattle.std.proofs.lemmas.Nat.Bits.{bit_at_and, bit_at_or, bit_at-lt}
use Rattle.xe_base.specs.Bits.{bit}

-- ---- bits of what masks leave

as-bit : (x y k : ℕ) → bit_at x k ≡ bit_at y k → bit x k ≡ bit y k
as-bit x y k e = ap (λ n. nat_eq n 1) e

as-set : (x k : ℕ) → bit_at x k ≡ 1 → bit x k ≡ true
as-set x k e = ap (λ n. nat_eq n 1) e

as-clear : (x k : ℕ) → bit_at x k ≡ 0 → bit x k ≡ false
as-clear x k e = ap (λ n. nat_eq n 1) e

min-1 : (n : ℕ) → n < 2 → min n 1 ≡ n
min-1 n h = grind arith

max-0 : (n : ℕ) → max n 0 ≡ n
max-0 n = grind arith

max-1 : (n : ℕ) → n < 2 → max n 1 ≡ 1
max-1 n h = grind arith

-- a bit that the mask has
pub bit_kept : (x m k : ℕ) → bit_at m k ≡ 1 → bit (bit_and x m) k ≡ bit x k
bit_kept x m k e = as-bit (bit_and x m) x k (bit_at_and x m k ∙ (rw e (min-1 (bit_at x k) (bit_at-lt x k))))

-- and one that it doesn't have
pub bit_dropped : (x m k : ℕ) → bit_at m k ≡ 0 → bit (bit_and x m) k ≡ false
bit_dropped x m k e = as-clear (bit_and x m) k (bit_at_and x m k ∙ (rw e (min-zero (bit_at x k))))

pub bit_added : (x m k : ℕ) → bit_at m k ≡ 1 → bit (bit_or x m) k ≡ true
bit_added x m k e = as-set (bit_or x m) k (bit_at_or x m k ∙ (rw e (max-1 (bit_at x k) (bit_at-lt x k))))

pub bit_left : (x m k : ℕ) → bit_at m k ≡ 0 → bit (bit_or x m) k ≡ bit x k
bit_left x m k e = as-bit (bit_or x m) x k (bit_at_or x m k ∙ (rw e (max-0 (bit_at x k))))

max-0l : (n : ℕ) → max 0 n ≡ n
max-0l n = grind arith

-- a bit of the second alone
pub bit_right : (x y k : ℕ) → bit_at x k ≡ 0 → bit (bit_or x y) k ≡ bit y k
bit_right x y k e = as-bit (bit_or x y) y k (bit_at_or x y k ∙ (rw e (max-0l (bit_at y k))))

-- a masked number has no bit where the mask has none
pub no-bit : (x m k : ℕ) → bit_at m k ≡ 0 → bit_at (bit_and x m) k ≡ 0
no-bit x m k e = bit_at_and x m k ∙ (rw e (min-zero (bit_at x k)))

joined : (a b : ℕ) → nat_eq a 1 ≡ true → b < 2 → max a b ≡ 1
joined a b h l = grind (arith, nat_tests)

-- a bit of the first stays in the union
pub bit_joined : (x y k : ℕ) → bit x k ≡ true → bit (bit_or x y) k ≡ true
bit_joined x y k h = as-set (bit_or x y) k (bit_at_or x y k ∙ joined (bit_at x k) (bit_at y k) h (bit_at-lt y k))

-- ---- what lies within some bits

-- a number under a mask that lies apart
pub and_apart : (x m n : ℕ) → bit_and m n ≡ 0 → bit_and (bit_and x m) n ≡ 0
and_apart x m n e = and_assoc n x m ∙ (rw e (and_zero_r x))

-- a mask that keeps all of another one
pub and_within : (x m n : ℕ) → bit_and m n ≡ n → bit_and (bit_and x m) n ≡ bit_and x n
and_within x m n e = and_assoc n x m ∙ (rw e refl)
