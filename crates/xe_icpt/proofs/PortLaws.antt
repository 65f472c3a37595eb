use Rattle.std.proofs.Common.{ℕ, zero, suc, ◌≡◌, ◌<◌, ◌≤◌, ◌+◌, ◌-◌, ◌*◌, ◌/◌, ◌%◌, ◌^◌, ◌==◌, ◌&&◌, ◌||◌, List, length, get_or, set, refl, sym, ap, ◌∙◌, arith, true, false, Bool, nat_le, nat_lt, inl, inr, bit_and, bit_or, replicate, if◌then◌else◌}
use Rattle.std.specs.Int.{bit_at, from_bool}
use Rattle.std.specs.Prelude.{min, max}
use Rattle.std.proofs.lemmas.Bool.{cases_lt, cases_eq, le-leb, lt-leb, lt-ltb, le-ltb, eq-eqb, ne_eqb}
use Rattle.std.proofs.lemmas.List.{get_or-set_same, get_or-set_other, get_or-replicate}
use Rattle.std.proofs.lemmas.Nat.Bits.{bit_at_and, bit_at_or, bit_at-lt, bit_at-zero, ones_shl, ones_shr, bit_at_mask_inside, bit_at_mask_below, bit_at_ones, bit_at_ones_above}
use Rattle.std.specs.Ordering.{nat_cmp}
use Rattle.std.specs.Cmp.{nat_cmp_total, unsigned_tied}
use Rattle.std.specs.FinSet.{empty, insert, contains, union, contains-empty, contains-insert, contains-union, same_set, nat_cmp-IsAntisymmetric}
use Rattle.xe_icpt.specs.Ports.{Ports, ports_from, ports_between, has_one_of}
use Rattle.xe_icpt.specs.PortBitmap.{port_bit, ports_below, ports_of}

-- the word that has the bits from one to another
pub mask-bits : (from to i : ℕ) → from ≤ to → to < 64 → i < 64 → bit_at (bit_and (18446744073709551615 * 2 ^ from % 18446744073709551616) (18446744073709551615 / 2 ^ (63 - to))) i ≡ from_bool (nat_le from i && nat_le i to)
mask-bits from to i order within small =
    let e : 64 - (63 - to) ≡ to + 1 = omega arith in
    let a : 18446744073709551615 * 2 ^ from % 18446744073709551616 ≡ 2 ^ 64 - 2 ^ from = ones_shl 64 from (omega arith) in
    let b : 18446744073709551615 / 2 ^ (63 - to) ≡ 2 ^ (to + 1) - 1 = ones_shr 64 (63 - to) (omega arith) ∙ ap (λ n. 2 ^ n - 1) e in
    rw (a, b, bit_at_and (2 ^ 64 - 2 ^ from) (2 ^ (to + 1) - 1) i) (elim (cases_lt i from) [
      | inl l ↦ rw (bit_at_mask_below from 64 i l, lt-leb from i l) (omega (arith, bit_at-lt (2 ^ (to + 1) - 1) i))
      | inr l ↦ elim (cases_lt to i) [
        | inl m ↦ rw (bit_at_mask_inside from 64 i l small, le-leb from i l, lt-leb i to m, bit_at_ones_above (to + 1) i (omega arith)) refl
        | inr m ↦ rw (bit_at_mask_inside from 64 i l small, le-leb from i l, le-leb i to m, bit_at_ones (to + 1) i (omega arith)) refl
      ]
    ])

or-true : (b : Bool) → (b || true) ≡ true
or-true true = refl
or-true false = refl

or-false : (b : Bool) → (b || false) ≡ b
or-false true = refl
or-false false = refl

and-true : (b : Bool) → (b && true) ≡ b
and-true true = refl
and-true false = refl

and-false : (b : Bool) → (b && false) ≡ false
and-false true = refl
and-false false = refl

-- a bitmap of zeros has no bit
zero-bit : (port : ℕ) → port < 65536 → port_bit (replicate 1024 0) port ≡ false
unfolding port_bit
zero-bit port small = rw (get_or-replicate {A = ℕ} 1024 (port / 64) 0 0 (omega arith), bit_at-zero (port % 64)) refl

-- The set that a bitmap holds, by its members.

insert-where : (b : Bool) (ports : Ports) (n q : ℕ) → contains (if b then insert ports n else ports) q ≡ ((b && q == n) || contains ports q)
insert-where true ports n q = contains-insert nat_cmp_total ports n q ∙ ap (λ x. x || contains ports q) (unsigned_tied q n)
insert-where false ports n q = refl

contains-below : (words : List ℕ) (n q : ℕ) → contains (ports_below words n) q ≡ (nat_lt q n && port_bit words q)
unfolding ports_below
contains-below words zero q = contains-empty nat_cmp q ∙ rw (le-ltb q 0 (omega arith)) refl
contains-below words (suc n) q = insert-where (port_bit words n) (ports_below words n) n q ∙ elim (cases_eq q n) [
  | inl e ↦ rw (contains-below words n q, e, eq-eqb n n refl, lt-ltb n (suc n) (omega arith), le-ltb n n (omega arith), and-true (port_bit words n), or-false (port_bit words n)) refl
  | inr ne ↦
      let same : nat_lt q (suc n) ≡ nat_lt q n = elim (cases_lt q n) [
        | inl l ↦ lt-ltb q (suc n) (omega arith) ∙ sym (lt-ltb q n l)
        | inr l ↦ le-ltb q (suc n) (omega (arith, ne)) ∙ sym (le-ltb q n l)
      ] in
      rw (contains-below words n q, ne_eqb q n ne, same, and-false (port_bit words n)) refl
]

-- a port of 16 bits is in the set of a bitmap exactly where its bit is set
pub contains-ports : (words : List ℕ) (port : ℕ) → port < 65536 → contains (ports_of words) port ≡ port_bit words port
unfolding ports_of
contains-ports words port small = contains-below words 65536 port ∙ rw (lt-ltb port 65536 small) refl

-- and no other number is
contains-no_port : (words : List ℕ) (port : ℕ) → 65536 ≤ port → contains (ports_of words) port ≡ false
unfolding ports_of
contains-no_port words port large = contains-below words 65536 port ∙ rw (le-ltb port 65536 large) refl

-- the members of a run of ports
contains-from : (low n q : ℕ) → contains (ports_from low n) q ≡ (nat_le low q && nat_lt q (low + n))
unfolding ports_from
contains-from low zero q = contains-empty nat_cmp q ∙ elim (cases_lt q low) [
  | inl l ↦ rw (lt-leb low q l) refl
  | inr l ↦ rw (le-ltb q (low + 0) (omega arith), and-false (nat_le low q)) refl
]
contains-from low (suc n) q = insert-where true (ports_from low n) (low + n) q ∙ elim (cases_eq q (low + n)) [
  | inl e ↦ rw (eq-eqb q (low + n) e, le-leb low q (omega arith), lt-ltb q (low + suc n) (omega arith)) refl
  | inr ne ↦
      let same : nat_lt q (low + suc n) ≡ nat_lt q (low + n) = elim (cases_lt q (low + n)) [
        | inl l ↦ lt-ltb q (low + suc n) (omega arith) ∙ sym (lt-ltb q (low + n) l)
        | inr l ↦ le-ltb q (low + suc n) (omega (arith, ne)) ∙ sym (le-ltb q (low + n) l)
      ] in
      rw (contains-from low n q, ne_eqb q (low + n) ne, same) refl
]

contains-between : (low high q : ℕ) → low ≤ high → contains (ports_between low high) q ≡ (nat_le low q && nat_le q high)
contains-between low high q order = contains-from low (high + 1 - low) q ∙ elim (cases_lt high q) [
  | inl l ↦ rw (le-ltb q (low + (high + 1 - low)) (omega arith), lt-leb q high l) refl
  | inr l ↦ rw (lt-ltb q (low + (high + 1 - low)) (omega arith), le-leb q high l) refl
]

-- a bitmap with the bits from one port to another added holds the ports between them too
pub ports-added : (old new : List ℕ) (low high : ℕ) → low ≤ high → high < 65536 → ((port : ℕ) → port < 65536 → port_bit new port ≡ (port_bit old port || (nat_le low port && nat_le port high))) → ports_of new ≡ union (ports_of old) (ports_between low high)
ports-added old new low high order small bits = same_set nat_cmp_total nat_cmp-IsAntisymmetric (ports_of new) (union (ports_of old) (ports_between low high)) (λ q. elim (cases_lt q 65536) [
  | inl l ↦ contains-ports new q l ∙ bits q l ∙ sym (contains-union nat_cmp_total (ports_of old) (ports_between low high) q ∙ rw (contains-ports old q l, contains-between low high q order) refl)
  | inr l ↦ contains-no_port new q l ∙ sym (contains-union nat_cmp_total (ports_of old) (ports_between low high) q ∙ rw (contains-no_port old q l, contains-between low high q order, lt-leb q high (omega arith), and-false (nat_le low q)) refl)
])

-- a bitmap of zeros holds no port
pub no_ports : ports_of (replicate 1024 0) ≡ empty
no_ports = same_set nat_cmp_total nat_cmp-IsAntisymmetric (ports_of (replicate 1024 0)) empty (λ q. elim (cases_lt q 65536) [
  | inl l ↦ contains-ports (replicate 1024 0) q l ∙ zero-bit q l ∙ sym (contains-empty nat_cmp q)
  | inr l ↦ contains-no_port (replicate 1024 0) q l ∙ sym (contains-empty nat_cmp q)
])

-- a port that is not among n, and one more
pub none-yet : (ports : Ports) (port : ℕ) → has_one_of ports port 0 ≡ false
unfolding has_one_of
none-yet ports port = refl

pub none-more : (ports : Ports) (port n : ℕ) → contains ports ((port + n) % 65536) ≡ false → has_one_of ports port n ≡ false → has_one_of ports port (n + 1) ≡ false
unfolding has_one_of
none-more ports port n a b = let e : n + 1 ≡ suc n = omega arith in rw (e, a, b) refl

pub one-found : (ports : Ports) (port n m : ℕ) → n < m → contains ports ((port + n) % 65536) ≡ true → has_one_of ports port m ≡ true
unfolding has_one_of
one-found ports port n zero l h = absurd (omega arith)
one-found ports port n (suc m) l h = elim (cases_eq n m) [
  | inl e ↦ rw (← e, h) refl
  | inr ne ↦ rw (one-found ports port n m (omega (arith, ne)) h) (or-true (contains ports ((port + m) % 65536)))
]

-- Ports from one to another, a word at a time.

or-bit : (b : ℕ) (c : Bool) → b < 2 → (max b (from_bool c) == 1) ≡ (b == 1 || c)
or-bit zero true h = refl
or-bit zero false h = refl
or-bit (suc zero) true h = refl
or-bit (suc zero) false h = refl
or-bit (suc (suc n)) c h = absurd (omega arith)

-- a port of the word is between the two exactly where its bit is
in-word : (low high w port : ℕ) → port / 64 ≡ w → 64 * w ≤ high → (nat_le (low - 64 * w) (port % 64) && nat_le (port % 64) (min (high - 64 * w) 63)) ≡ (nat_le low port && nat_le port high)
in-word low high w port e up = elim (cases_lt port low) [
  | inl l ↦ rw (lt-leb low port l, lt-leb (low - 64 * w) (port % 64) (omega arith)) refl
  | inr l ↦ elim (cases_lt high port) [
    | inl m ↦ rw (le-leb low port l, lt-leb port high m, le-leb (low - 64 * w) (port % 64) (omega arith), lt-leb (port % 64) (min (high - 64 * w) 63) (omega arith)) refl
    | inr m ↦ rw (le-leb low port l, le-leb port high m, le-leb (low - 64 * w) (port % 64) (omega arith), le-leb (port % 64) (min (high - 64 * w) 63) (omega arith)) refl
  ]
]

pub set-word : (old : Bool) (ports : List ℕ) (low high w port m : ℕ) → w < length ports → 64 * w ≤ high → bit_at m (port % 64) ≡ from_bool (nat_le (low - 64 * w) (port % 64) && nat_le (port % 64) (min (high - 64 * w) 63)) → port_bit ports port ≡ (old || (nat_le low port && (nat_le port high && nat_lt (port / 64) w))) → port_bit (set ports w (bit_or (get_or ports w 0) m)) port ≡ (old || (nat_le low port && (nat_le port high && nat_lt (port / 64) (w + 1))))
unfolding port_bit
set-word old ports low high w port m fits up mask was = elim (cases_eq (port / 64) w) [
  | inl e ↦
      let no : nat_lt (port / 64) w ≡ false = le-ltb (port / 64) w (omega arith) in
      let yes : nat_lt (port / 64) (w + 1) ≡ true = lt-ltb (port / 64) (w + 1) (omega arith) in
      let here : (bit_at (get_or ports w 0) (port % 64) == 1) ≡ old = rw (no, and-false (nat_le port high), and-false (nat_le low port), or-false old, e) at was in
      rw (yes, and-true (nat_le port high), e, get_or-set_same ports w (bit_or (get_or ports w 0) m) 0 fits, bit_at_or (get_or ports w 0) m (port % 64), mask, in-word low high w port e up, or-bit (bit_at (get_or ports w 0) (port % 64)) (nat_le low port && nat_le port high) (bit_at-lt (get_or ports w 0) (port % 64)), here) refl
  | inr ne ↦
      let same : nat_lt (port / 64) (w + 1) ≡ nat_lt (port / 64) w = elim (cases_lt (port / 64) w) [
        | inl l ↦ lt-ltb _ _ (omega arith) ∙ sym (lt-ltb _ _ l)
        | inr l ↦ le-ltb _ _ (omega (arith, ne)) ∙ sym (le-ltb _ _ l)
      ] in
      rw (get_or-set_other ports w (port / 64) (bit_or (get_or ports w 0) m) 0 ne, same) was
]

-- at the first word no bit is set yet, and behind the last one all are
pub bits-start : (old : Bool) (low high port : ℕ) → old ≡ (old || (nat_le low port && (nat_le port high && nat_lt (port / 64) (low / 64))))
bits-start old low high port = elim (cases_lt port low) [
  | inl l ↦ rw (lt-leb low port l) (sym (or-false old))
  | inr l ↦ rw (le-ltb (port / 64) (low / 64) (omega arith), and-false (nat_le port high), and-false (nat_le low port)) (sym (or-false old))
]

pub bits-end : (old : Bool) (low high port w : ℕ) → high / 64 + 1 ≤ w → (old || (nat_le low port && (nat_le port high && nat_lt (port / 64) w))) ≡ (old || (nat_le low port && nat_le port high))
bits-end old low high port w h = elim (cases_lt high port) [
  | inl l ↦ rw (lt-leb port high l) refl
  | inr l ↦ rw (le-leb port high l, lt-ltb (port / 64) w (omega arith)) refl
]
