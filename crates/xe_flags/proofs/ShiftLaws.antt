use Rattle.std.proofs.Common.{◌≡◌, ℕ, Bool, true, false, ◌+◌, ◌-◌, ◌*◌, ◌/◌, ◌%◌, ◌^◌, ◌<◌, ◌≤◌, refl, sym, subst, arith}
use Rattle.std.specs.Int.{from_bool}
use Rattle.std.proofs.lemmas.Nat.{one_shl, shl_whole, pow-add, pow_pos, shr_below, mod_below, mul-add-lt}
use Rattle.xe_base.specs.Words.{IsWidth}
use Rattle.xe_base.proofs.WidthLaws.{sizes}
use Rattle.xe_flags.specs.Shifts.{turned_left, turned_right}

-- the parts of a number of n bits change places
pub turned_lt : (n v k : ℕ) → v < 2 ^ n → k ≤ n → turned_right n v k < 2 ^ n
turned_lt n v k v_in k_in =
    let e : n ≡ (n - k) + k = omega arith in
    let high : v / 2 ^ k < 2 ^ (n - k) = shr_below v (n - k) k (subst (λ (x : ℕ). v < 2 ^ x) e v_in) in
    let low : v % 2 ^ k < 2 ^ k = mod_below v (2 ^ k) (pow_pos k) in
    let below = mul-add-lt (v % 2 ^ k) (2 ^ (n - k)) (v / 2 ^ k) (2 ^ k) low high in
    subst (λ (x : ℕ). turned_right n v k < 2 ^ x) (sym e) (subst (λ (x : ℕ). turned_right n v k < x) (sym (pow-add 2 (n - k) k)) below)

-- what the code computes in 128 bits
pub turned_is : (n v k : ℕ) → n ≤ 65 → k ≤ n → (v % (1 * 2 ^ k % 2 ^ 128)) * 2 ^ (n - k) % 2 ^ 128 + v / 2 ^ k ≡ turned_right n v k
turned_is n v k n_in k_in =
    let one : 1 * 2 ^ k % 2 ^ 128 ≡ 2 ^ k = one_shl k 128 (omega arith) in
    let low : v % 2 ^ k < 2 ^ k = mod_below v (2 ^ k) (pow_pos k) in
    let wide = shl_whole (v % 2 ^ k) k (n - k) 128 low (omega arith) in
    rw (one, wide) refl

-- to turn left by k is to turn right by the rest
pub left_is : (n v k : ℕ) → k ≤ n → turned_right n v (n - k) ≡ turned_left n v k
left_is n v k k_in = let e : n - (n - k) ≡ k = omega arith in rw e refl

-- the carry above the word
pub with_carry_is : (W a : ℕ) (c : Bool) → IsWidth W → from_bool c * 2 ^ W % 2 ^ 128 ≡ from_bool c * 2 ^ W
with_carry_is W a true width = let s = sizes W width in shl_whole 1 1 W 128 (omega arith) (omega arith)
with_carry_is W a false width = let s = sizes W width in shl_whole 0 1 W 128 (omega arith) (omega arith)

pub with_carry_lt : (W a : ℕ) (c : Bool) → a < 2 ^ W → from_bool c * 2 ^ W + a < 2 ^ (W + 1)
with_carry_lt W a true a_in = let double : 2 ^ (W + 1) ≡ 2 ^ W * 2 = pow-add 2 W 1 in omega arith
with_carry_lt W a false a_in = let double : 2 ^ (W + 1) ≡ 2 ^ W * 2 = pow-add 2 W 1 in omega arith
