use Rattle.std.specs.Prelude.{ℕ, List, [], ◌∷◌, Result, Ok, Err}
use Rattle.xe_base.specs.Access.{number_of}
use Rattle.xe_base.specs.declared.access.Access.{Access}
use Rattle.xe_base.specs.declared.access.Answer.{Answer}
use Rattle.xe_base.specs.declared.access.Fault.{Fault}
use Rattle.xe_base.specs.declared.segment.SegName.{SegName}
use Rattle.xe_icpt.specs.declared.point.Point.{Point}
use Rattle.xe_ctx.specs.Ending.{Ending, Raises, Interrupts, HandsOver}
use Rattle.xe_ctx.specs.declared.stop.Event.{Event}
use Rattle.xe_ctx.specs.declared.stop.Handoff.{Handoff}

-- What an instruction may ask of the step that it is part of. Memory is named by a segment, an offset in it and a number of bytes; that of the system by a
-- linear address.
pub data Request : Type 0 where
  -- the number that the bytes are, the lowest first
  Load : SegName → ℕ → ℕ → Request
  -- the same of bytes that must be writable
  LoadForWrite : SegName → ℕ → ℕ → Request
  -- whether the bytes could be written; nothing moves
  Probe : SegName → ℕ → ℕ → Request
  -- the low bytes of a number are written
  Store : SegName → ℕ → ℕ → ℕ → Request
  -- one access to a device
  Device : Access → Request
  -- what is about to happen, and may be intercepted
  Check : Point → Request
  -- the number that the bytes of a descriptor table or of the TSS are: at a linear address, without a segment check
  SysLoad : ℕ → ℕ → Request
  -- the low bytes of a number are written there
  SysStore : ℕ → ℕ → ℕ → Request

-- what a part of an instruction does: a request and how it goes on from the answer, an end, or a value
pub data Tree (T : Type 0) : Type 0 where
  asks : Request → (Answer → Tree T) → Tree T
  fault : Fault → Tree T
  event : Event → Tree T
  handoff : Handoff → Tree T
  give : T → Tree T

infixl 10 ◌>>=◌
-- one part after another
unfoldable pub ◌>>=◌ : {A B : Type 0} → Tree A → (A → Tree B) → Tree B
(asks r k) >>= f = asks r (λ a. k a >>= f)
(fault e) >>= f = fault e
(event e) >>= f = event e
(handoff h) >>= f = handoff h
(give x) >>= f = f x

-- ---- the parts that are one request

unfoldable pub load : SegName → ℕ → ℕ → Tree ℕ
load seg offset n = asks (Load seg offset n) (λ a. give (number_of a))

unfoldable pub load_for_write : SegName → ℕ → ℕ → Tree ℕ
load_for_write seg offset n = asks (LoadForWrite seg offset n) (λ a. give (number_of a))

unfoldable pub probe : SegName → ℕ → ℕ → Tree (Unit {0})
probe seg offset n = asks (Probe seg offset n) (λ _. give tt)

unfoldable pub store : SegName → ℕ → ℕ → ℕ → Tree (Unit {0})
store seg offset n value = asks (Store seg offset n value) (λ _. give tt)

unfoldable pub device : Access → Tree Answer
device a = asks (Device a) give

unfoldable pub point : Point → Tree (Unit {0})
point p = asks (Check p) (λ _. give tt)

unfoldable pub load_sys : ℕ → ℕ → Tree ℕ
load_sys la n = asks (SysLoad la n) (λ a. give (number_of a))

unfoldable pub store_sys : ℕ → ℕ → ℕ → Tree (Unit {0})
store_sys la n value = asks (SysStore la n value) (λ _. give tt)

-- ---- the next request

-- what an instruction asks next, after these answers; or how it ends
pub data Next (T : Type 0) : Type 0 where
  Asks : Request → Next T
  Ends : Result T Ending → Next T

abbrev pub next_of : {T : Type 0} → Tree T → List Answer → Next T
next_of (asks r k) [] = Asks r
next_of (asks r k) (a ∷ got) = next_of (k a) got
next_of (fault e) got = Ends (Err (Raises e))
next_of (event e) got = Ends (Err (Interrupts e))
next_of (handoff h) got = Ends (Err (HandsOver h))
next_of (give x) got = Ends (Ok x)
