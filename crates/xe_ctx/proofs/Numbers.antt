use Rattle.std.proofs.Common.{ℕ, zero, suc, ◌≡◌, ◌≤◌, ◌-◌, ◌/◌, ◌%◌, ◌^◌, List, [], ◌∷◌, ◌++◌, Result, Ok, Err, take, refl, sym, ap, ◌∙◌, arith, true, false}
use Rattle.std.proofs.Math.Nat.{div-one, div-div-eq-div-mul, pow-suc}
use Rattle.std.proofs.lemmas.Bool.Decides.{nat_tests}
use Rattle.std.proofs.lemmas.List.{append-nil}
use Rattle.std.specs.Int.{w128, byte_at, bytes_low_first, to_le_bytes}
use Rattle.xe_base.specs.Bytes.{num, le}
use Rattle.xe_base.specs.declared.access.Answer.TheVariants.{Val}
use Rattle.xe_base.proofs.Bytes.{le-zero, le-suc}
use Rattle.xe_walk.specs.declared.rights.Kind.{Kind}
use Rattle.xe_ctx.specs.Chunks.{is_size}
use Rattle.xe_ctx.specs.Is.{Sight, Does}
use Rattle.xe_ctx.specs.Memory.{place, are_ram, read_if, read_place, devices_read, width, load_at}
use Rattle.xe_ctx.specs.Part.{View, Part, Ran, Gave, Waits, Ends, then_ran, ◌>>=◌, give, gather}
use Rattle.xe_ctx.specs.Supply.{Supply}
use Rattle.xe_ctx.specs.declared.stop.Stop.{Stop}
use Rattle.xe_ctx.proofs.Binds.{does_then, does_stop, does_give, does_look, does_same, does_assoc}
use Rattle.xe_ctx.proofs.Pieces.{place-one, load_no_place}

-- ---- the bytes of a number

byte-low : (i x : ℕ) → byte_at i x ≡ x / 256 ^ i % 256
byte-low zero x = let d : x / 256 ^ 0 ≡ x = div-one x in rw d refl
byte-low (suc i) x = refl

low-first : (i n x : ℕ) → bytes_low_first i n x ≡ le n (x / 256 ^ i)
low-first i zero x = sym (le-zero (x / 256 ^ i))
low-first i (suc n) x =
    let e : x / 256 ^ suc i ≡ x / 256 ^ i / 256 = ap (λ y. x / y) (pow-suc 256 i) ∙ sym (div-div-eq-div-mul x (256 ^ i) 256) in
    let r : bytes_low_first (suc i) n x ≡ le n (x / 256 ^ i / 256) = low-first (suc i) n x ∙ ap (λ y. le n y) e in
    rw (byte-low i x, r, le-suc) refl

take-low : (i k n x : ℕ) → n ≤ k → take n (bytes_low_first i k x) ≡ bytes_low_first i n x
take-low i k zero x h = refl
take-low i zero (suc n) x h = absurd (omega arith)
take-low i (suc k) (suc n) x h = ap (λ (r : List ℕ). byte_at i x ∷ r) (take-low (suc i) k n x (omega arith))

pub front_bytes : (n x : ℕ) (all : List ℕ) → n ≤ 16 → all ≡ to_le_bytes w128 x → take n all ≡ le n x
front_bytes n x all h e = ap (λ (xs : List ℕ). take n xs) e ∙ take-low 0 16 n x h ∙ low-first 0 n x ∙ ap (λ y. le n y) (div-one x)

-- the sizes of accesses have at most 16 bytes
pub size-small : (n : ℕ) → is_size n ≡ true → n ≤ 16
size-small n h = grind (arith, nat_tests)

-- ---- a part that gives bytes, as their number

module _ {m : Part (List ℕ)} {old new : Sight} where
  pub number_ends : {bytes : List ℕ} {v : ℕ} → Does m old (Ok bytes) new → v ≡ num bytes → Does (m >>= (λ bytes. give (num bytes))) old (Ok v) new
  number_ends d e = rw e (does_then _ d does_give)

  pub number_stops : {s : Stop} → Does m old (Err s) new → Does (m >>= (λ bytes. give (num bytes))) old (Err s) new
  number_stops d = does_stop _ d

-- the number as an answer
ran_val : (r : Ran (List ℕ)) → then_ran (then_ran r (λ bytes. give (num bytes))) (λ x. give (Val x)) ≡ then_ran r (λ bytes. give (Val (num bytes)))
unfolding give
ran_val (Gave x v s) = refl
ran_val (Waits a lack v s) = refl
ran_val (Ends e v s) = refl

val_same : (m : Part (List ℕ)) (v : View) (s : Supply) → ((m >>= (λ bytes. give (num bytes))) >>= (λ x. give (Val x))) v s ≡ (m >>= (λ bytes. give (Val (num bytes)))) v s
unfolding ◌>>=◌
val_same m v s = ran_val (m v s)

pub val_ends : (m : Part (List ℕ)) {x : ℕ} {old new : Sight} → Does (m >>= (λ bytes. give (num bytes))) old (Ok x) new → Does (m >>= (λ bytes. give (Val (num bytes)))) old (Ok (Val x)) new
val_ends m d = does_same _ (m >>= (λ bytes. give (Val (num bytes)))) (val_same m) (does_then (λ x. give (Val x)) d does_give)

pub val_stops : (m : Part (List ℕ)) {e : Stop} {old new : Sight} → Does (m >>= (λ bytes. give (num bytes))) old (Err e) new → Does (m >>= (λ bytes. give (Val (num bytes)))) old (Err e) new
val_stops m d = does_same _ (m >>= (λ bytes. give (Val (num bytes)))) (val_same m) (does_stop (λ x. give (Val x)) d)

-- one piece alone
ran_one : (r : Ran (List ℕ)) → then_ran r (λ bytes. give (num bytes)) ≡ then_ran (then_ran r (λ ys. give (ys ++ []))) (λ bytes. give (num bytes))
unfolding give
ran_one (Gave x v s) = ap (λ zs. Gave (num zs) v s) (sym (append-nil x))
ran_one (Waits a lack v s) = refl
ran_one (Ends e v s) = refl

one_same : {X : Type 0} (body : X → Part (List ℕ)) (x : X) (v : View) (s : Supply) → (body x >>= (λ bytes. give (num bytes))) v s ≡ (gather body (x ∷ []) >>= (λ bytes. give (num bytes))) v s
unfolding gather ◌>>=◌ give
one_same body x v s = ran_one (body x v s)

number-one : {X : Type 0} (body : X → Part (List ℕ)) (x : X) {old new : Sight} {res : Result ℕ Stop} → Does (body x >>= (λ bytes. give (num bytes))) old res new → Does (gather body (x ∷ []) >>= (λ bytes. give (num bytes))) old res new
number-one body x d = does_same _ (gather body (x ∷ []) >>= (λ bytes. give (num bytes))) (one_same body x) d

module _ (kind : Kind) (la n : ℕ) where
  pub number_loaded : n ≤ 4096 - la % 4096 → {pa : ℕ} {old mid new : Sight} (res : Result ℕ Stop) → Does (place kind la) old (Ok pa) mid → Does (read_place (record { pa = pa; at = 0; n = n }) >>= (λ bytes. give (num bytes))) mid res new → Does (load_at kind la n >>= (λ bytes. give (num bytes))) old res new
  unfolding load_at width
  number_loaded h res r t = does_assoc _ _ _ (does_then _ (does_look _ _) (does_assoc _ _ _ (does_then _ (place-one kind _ la n h r) (number-one _ _ t))))

  pub number_unplaced : {s : Stop} {old new : Sight} → Does (place kind la) old (Err s) new → Does (load_at kind la n >>= (λ bytes. give (num bytes))) old (Err s) new
  number_unplaced r = does_stop _ (load_no_place kind la n r)

-- one that lies outside RAM
module _ (v : Sight) (pa at n : ℕ) where
  pub number_out : (res : Result ℕ Stop) (w : Sight) → are_ram v.step.work pa n ≡ false → Does (devices_read pa n >>= (λ bytes. give (num bytes))) v res w → Does (read_place (record { pa = pa; at = at; n = n }) >>= (λ bytes. give (num bytes))) v res w
  unfolding read_place read_if
  number_out res w f r = does_assoc _ _ _ (does_then _ (does_look _ v) (rw f r))

pub ruleset number_rules = (number_ends, number_stops, number_loaded, number_unplaced)
