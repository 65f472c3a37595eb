use Rattle.std.proofs.Common.{ℕ, zero, suc, ◌≡◌, ◌<◌, ◌≤◌, ◌+◌, ◌*◌, ◌^◌, ◌/◌, ◌%◌, ◌-◌, List, [], ◌∷◌, ◌++◌, length, drop, get_or, refl, ap, arith, add-one, append_assoc, get_or-drop, length-drop, lit<, pow-add}
use Rattle.std.proofs.Math.Pow.{pow_mono}
use Rattle.std.proofs.Math.Seq.{drop-cons}
use Rattle.xe_base.specs.Bytes.{num, le}

pub num-nil : num [] ≡ 0
unfolding num
num-nil = refl

pub num-drop : (bytes : List ℕ) (i : ℕ) → i < length bytes → num (drop i bytes) ≡ num (drop (i + 1) bytes) * 256 + get_or bytes i 0
unfolding num
num-drop bytes i h = rw (drop-cons bytes i 0 h, add-one) refl

pub le-zero : (x : ℕ) → le 0 x ≡ []
unfolding le
le-zero x = refl

pub le-suc : (n x : ℕ) → le (suc n) x ≡ x % 256 ∷ le n (x / 256)
unfolding le
le-suc n x = refl

pub length-le : (n x : ℕ) → length (le n x) ≡ n
unfolding le
length-le zero x = refl
length-le (suc n) x = ap suc (length-le n (x / 256))

-- bytes that are below 256 make a number that fits
pub num-below : (bytes : List ℕ) → ((i : ℕ) → get_or bytes i 0 < 256) → num bytes < 2 ^ (8 * length bytes)
unfolding num
num-below [] h = lit< tt
num-below (b ∷ bytes) h =
    let head : b < 256 = h 0 in
    let a = num-below bytes (λ i. h (suc i)) in
    let m : 8 * suc (length bytes) ≡ 8 * length bytes + 8 = omega arith in
    let e : 2 ^ (8 * length bytes + 8) ≡ 2 ^ (8 * length bytes) * 256 = pow-add 2 (8 * length bytes) 8 in
    rw (m, e) (omega arith)

pub fits-16 : (bytes : List ℕ) → ((i : ℕ) → get_or bytes i 0 < 256) → length bytes ≤ 16 → num bytes < 2 ^ 128
fits-16 bytes h l =
    let a = num-below bytes h in
    let m : 8 * length bytes ≤ 128 = omega arith in
    let p : 2 ^ (8 * length bytes) ≤ 2 ^ 128 = pow_mono m in
    omega arith

-- the same of what is left of the bytes, as the code reads it
more : (bytes : List ℕ) (i : ℕ) → ((k : ℕ) → get_or bytes k 0 < 256) → length bytes ≤ 16 → i < length bytes → num (drop (i + 1) bytes) * 256 + get_or bytes i 0 < 2 ^ 128
more bytes i h l m = rw (← num-drop bytes i m) (fits-16 (drop i bytes) (λ k. rw (get_or-drop i bytes k 0) (h (i + k))) (omega (arith, length-drop i bytes)))

pub fits-more : (bytes : List ℕ) (at number : ℕ) → ((k : ℕ) → get_or bytes k 0 < 256) → length bytes ≤ 16 → 0 < at → at ≤ length bytes → number ≡ num (drop at bytes) → number * 256 + get_or bytes (at - 1) 0 < 2 ^ 128
fits-more bytes zero number h l m n e = absurd (omega arith)
fits-more bytes (suc i) number h l m n e =
    let f = rw add-one at (more bytes i h l (omega arith)) in
    let a : suc i - 1 ≡ i = omega arith in
    rw (e, a) f

-- one more byte
pub le-step : (out : List ℕ) (n i x : ℕ) → i < n → (out ++ x % 256 ∷ []) ++ le (n - (i + 1)) (x / 256) ≡ out ++ le (n - i) x
le-step out n i x h =
    let e : n - i ≡ suc (n - (i + 1)) = omega arith in
    rw (e, le-suc, append_assoc) refl

pub fits-64 : (x n : ℕ) → x < 2 ^ (8 * n) → n ≤ 8 → x < 2 ^ 64
fits-64 x n h l =
    let m : 8 * n ≤ 64 = omega arith in
    let p : 2 ^ (8 * n) ≤ 2 ^ 64 = pow_mono m in
    omega arith

pub ruleset byte_rules = (num-nil, le-zero, length-le, num-drop, le-step)
