use Rattle.std.proofs.Common.{ℕ, ◌+◌, ◌-◌, ◌≤◌, arith, Bool, true, false, if◌then◌else◌}
use Rattle.xe_ctx.specs.Bounds.{accesses_of, touched_by, TakesAtMost}
use Rattle.xe_ctx.specs.Tree.{Tree, asks, fault, event, handoff, give, ◌>>=◌}

-- what fits fits in more
pub takes_more : {T : Type 0} (n m a c b d : ℕ) → n ≤ m → a ≤ c → b ≤ d → (t : Tree T) → TakesAtMost n a b t → TakesAtMost m c d t
takes_more n m a c b d x y z (asks r k) h =
    let p = h.0.one in
    let q = h.0.accesses_ in
    let s = h.0.bytes_ in (
      record { one = omega arith; accesses_ = omega arith; bytes_ = omega arith },
      λ answer. takes_more (n - 1) (m - 1) (a - accesses_of r) (c - accesses_of r) (b - touched_by r) (d - touched_by r) (omega arith) (omega arith) (omega arith) (k answer) (h.1 answer),
    )
takes_more n m a c b d x y z (fault e) h = tt
takes_more n m a c b d x y z (event e) h = tt
takes_more n m a c b d x y z (handoff e) h = tt
takes_more n m a c b d x y z (give e) h = tt

-- one part after another
pub takes_then : {A T : Type 0} (f : A → Tree T) (m c d : ℕ) → ((x : A) → TakesAtMost m c d (f x)) → (n a b : ℕ) (t : Tree A) → TakesAtMost n a b t → TakesAtMost (n + m) (a + c) (b + d) (t >>= f)
unfolding ◌>>=◌
takes_then f m c d rest n a b (asks r k) h =
    let p = h.0.one in
    let q = h.0.accesses_ in
    let s = h.0.bytes_ in (
      record { one = omega arith; accesses_ = omega arith; bytes_ = omega arith },
      λ x. takes_more (n - 1 + m) (n + m - 1) (a - accesses_of r + c) (a + c - accesses_of r) (b - touched_by r + d) (b + d - touched_by r) (omega arith) (omega arith) (omega arith) (k x >>= f) (takes_then f m c d rest (n - 1) (a - accesses_of r) (b - touched_by r) (k x) (h.1 x)),
    )
takes_then f m c d rest n a b (fault e) h = tt
takes_then f m c d rest n a b (event e) h = tt
takes_then f m c d rest n a b (handoff y) h = tt
takes_then f m c d rest n a b (give x) h = takes_more m (n + m) c (a + c) d (b + d) (omega arith) (omega arith) (omega arith) (f x) (rest x)

-- a choice
pub takes_if : {T : Type 0} (n a b : ℕ) (choice : Bool) (s t : Tree T) → TakesAtMost n a b s → TakesAtMost n a b t → TakesAtMost n a b (if choice then s else t)
takes_if n a b true s t x y = x
takes_if n a b false s t x y = y
