use Rattle.std.specs.Prelude.{ℕ, ◌+◌, ◌-◌, ◌≤◌}
use Rattle.xe_base.specs.declared.access.Answer.{Answer}
use Rattle.xe_ctx.specs.Chunks.{most}
use Rattle.xe_ctx.specs.Tree.{Tree, asks, fault, event, handoff, give, Request, Load, LoadForWrite, Probe, Store, Device, Check, SysLoad, SysStore}

-- How much of a step an instruction takes at most, whatever the answers are. A step has room for 256 accesses, and for 1,024 bytes of RAM that it touches.

-- the accesses of a request: memory outside RAM is reached in chunks, and a device is asked once
abbrev pub accesses_of : Request → ℕ
accesses_of (Load seg offset n) = most n
accesses_of (LoadForWrite seg offset n) = most n
accesses_of (Probe seg offset n) = 0
accesses_of (Store seg offset n value) = most n
accesses_of (Device a) = 1
accesses_of (Check p) = 0
accesses_of (SysLoad la n) = most n
accesses_of (SysStore la n value) = most n

-- the bytes of RAM that a request touches: those that it writes, and, of page tables, one byte for each entry on the way to at most two pages, of which each
-- has at most five
abbrev pub touched_by : Request → ℕ
touched_by (Load seg offset n) = 10
touched_by (LoadForWrite seg offset n) = 10
touched_by (Probe seg offset n) = 10
touched_by (Store seg offset n value) = 10 + n
touched_by (Device a) = 0
touched_by (Check p) = 0
touched_by (SysLoad la n) = 10
touched_by (SysStore la n value) = 10 + n

-- there is room for one more request
pub record Affords (requests accesses bytes : ℕ) (r : Request) : Type 0 where
  pub one : 1 ≤ requests
  pub accesses_ : accesses_of r ≤ accesses
  pub bytes_ : touched_by r ≤ bytes

-- at most so many requests, accesses and touched bytes
abbrev pub TakesAtMost : {T : Type 0} → ℕ → ℕ → ℕ → Tree T → Type 0
TakesAtMost n a b (asks r k) = Affords n a b r × ((x : Answer) → TakesAtMost (n - 1) (a - accesses_of r) (b - touched_by r) (k x))
TakesAtMost n a b (fault e) = Unit {0}
TakesAtMost n a b (event e) = Unit {0}
TakesAtMost n a b (handoff h) = Unit {0}
TakesAtMost n a b (give x) = Unit {0}
