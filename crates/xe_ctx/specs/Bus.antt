use Rattle.std.specs.Prelude.{ℕ, ◌+◌, ◌-◌, ◌^◌, ◌≡◌, ◌≤◌, ◌<◌, IsTrue, IsSome, Option}
use Rattle.xe_base.specs.Access.{answers_to}
use Rattle.xe_base.specs.declared.access.Access.{Access}
use Rattle.xe_ctx.specs.Tape.{Tape, Key, IsTold}
use Rattle.xe_ctx.specs.declared.bus.Reply.{Reply}
use Rattle.xe_ctx.specs.declared.bus.Reply.TheVariants.{Ready, NotYet, Failed}

-- what can be told of a bus: the script that its devices follow, where it tells it, how many accesses still fit into the log, how
-- many items each queue of the script still has room for, and how often a device wasn't ready, and failed, so far
pub record BusView : Type 0 where
  pub tape : Option Tape
  pub room : ℕ
  pub spare : Key → ℕ
  pub unready : ℕ
  pub faults : ℕ

-- a bus that tells its script has room for so many more accesses
abbrev pub HasRoom : BusView → ℕ → Type 0
HasRoom bus n = IsSome bus.tape → n ≤ bus.room

-- a count of 64 bits rose; one that has reached its last value stands still there
abbrev pub Rose : ℕ → ℕ → Type 0
Rose old new = new < 2 ^ 64 - 1 → old < new

-- what a reply says of the access and of the bus: an answer fits the access and takes the room of one access in the log; the two
-- others take none, and are counted
abbrev pub IsReply : BusView → Access → Reply → BusView → Type 0
IsReply old a (Ready r) new = IsTrue (answers_to a r) × (old.room ≤ new.room + 1)
IsReply old a NotYet new = (new.room ≡ old.room) × Rose old.unready new.unready
IsReply old a Failed new = (new.room ≡ old.room) × Rose old.faults new.faults

-- what one access says of the bus
pub record Replies (old : BusView) (a : Access) (reply : Reply) (new : BusView) : Type 0 where
  pub is : IsReply old a reply new
  pub told : IsTold old.tape a reply new.tape
  pub unready_ : old.unready ≤ new.unready
  pub faults_ : old.faults ≤ new.faults
  pub spare_ : (k : Key) → new.spare k ≡ old.spare k
