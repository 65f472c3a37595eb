use Rattle.std.specs.Prelude.{ℕ, ◌+◌, ◌≡◌, ◌≤◌, ◌<◌, length, List, [], ◌∷◌, ◌++◌, All, false, Result, Ok, Err, Option, Some, None, drop}
use Rattle.xe_base.specs.Access.{IsWellFormed, IsWellMade}
use Rattle.xe_base.specs.declared.access.Access.{Access}
use Rattle.xe_base.specs.declared.access.Made.{Made}
use Rattle.xe_ctx.specs.Bus.{BusView, Rose}
use Rattle.xe_ctx.specs.Ending.{Raises, Exits, Interrupts, HandsOver}
use Rattle.xe_ctx.specs.Kept.{Kept, expected, same_access}
use Rattle.xe_ctx.specs.Tape.{Tape, Key}
use Rattle.xe_ctx.specs.Supply.{Supply, Supplies, Lack, Unready, Failing, Lacks, next_answer, answers}
use Rattle.xe_ctx.specs.Part.{View, Part, Ran, Gave, Waits, Ends, ◌>>=◌, give, gather, each}
use Rattle.xe_ctx.specs.Tree.{Tree}
use Rattle.xe_ctx.specs.Run.{run}
use Rattle.xe_ctx.specs.declared.stop.Stop.{Stop}
use Rattle.xe_ctx.specs.declared.stop.Stop.TheVariants as stops

-- a step in progress, what its record keeps, and what its bus tells
pub record Sight : Type 0 where
  pub step : View
  pub kept : Kept
  pub bus : BusView

-- the answers that the step will get: the kept ones that it hasn't used yet, and then those of the script, where the bus tells one
abbrev pub supply_of : Sight → Supply
supply_of v = record { given = answers (drop (length v.step.made) v.kept.answers); tape = v.bus.tape }

-- the accesses that the bus answered in this step: those behind the kept ones
abbrev pub fresh : Sight → List Made
fresh v = drop (length v.kept.answers) v.step.made

-- why a part of the code stopped, if it did
abbrev pub why_of : {T : Type 0} → Result T Stop → Option Stop
why_of (Ok x) = None
why_of (Err e) = Some e

-- ---- what the code leaves of the bus and of the record

-- what is left of the answers at a part's end, behind those of its accesses: where the bus wasn't ready, or failed, it was asked once more
abbrev pub Leaves : Option Stop → Supply → Supply → Type 0
Leaves (Some (stops.Pending a)) mid rest = next_answer mid a ≡ Lacks Unready rest
Leaves (Some (stops.BusFault a)) mid rest = next_answer mid a ≡ Lacks Failing rest
Leaves _ mid rest = mid ≡ rest

-- a bus that told its script gave what the script gives, and logged what it answered
pub record Plays (t : Tape) (old : Sight) (extra : List Made) (why : Option Stop) (new : Sight) : Type 0 where
  pub tape : Tape
  pub is : new.bus.tape ≡ Some tape
  pub mid : Supply
  pub supplies : Supplies (supply_of old) extra mid
  pub left : Leaves why mid (supply_of new)
  pub log : (before : List Made) → t.log ≡ before ++ fresh old → tape.log ≡ before ++ fresh new

-- the next access of a step, for which the bus is asked: the record keeps no answer for it, and has no other in its place
pub record IsNext (a : Access) (new : Sight) : Type 0 where
  pub used : length new.kept.answers ≤ length new.step.made
  pub expects : (b : Access) → expected new.kept (length new.step.made) ≡ Some b → b ≡ a

-- the access that a step stands at
pub record StandsAt (a : Access) (new : Sight) : Type 0 where
  pub next : IsNext a new
  pub room_ : length new.step.made < 256
  pub well_formed : IsWellFormed a

-- what else is known where a part stopped: a device that wasn't ready, or failed, was counted; an access that differs isn't the one
-- that the record has at its place
abbrev pub Stood : Option Stop → Sight → Sight → Type 0
Stood (Some (stops.Pending a)) old new = StandsAt a new × Rose old.bus.unready new.bus.unready
Stood (Some (stops.BusFault a)) old new = StandsAt a new × Rose old.bus.faults new.bus.faults
Stood (Some (stops.Diverged d)) old new = (d.at ≡ length new.step.made) × (expected new.kept d.at ≡ Some d.kept) × (a : Access) × (d.wanted ≡ Some a) × (same_access a d.kept ≡ false)
Stood _ old new = Unit {0}

-- what any part of a step leaves behind, where these are the accesses that it made
pub record Moves (old : Sight) (extra : List Made) (why : Option Stop) (new : Sight) : Type 0 where
  pub made : new.step.made ≡ old.step.made ++ extra
  pub well_made : All IsWellMade extra
  pub kept_ : new.kept ≡ old.kept
  pub told : (t : Tape) → old.bus.tape ≡ Some t → Plays t old extra why new
  pub untold : old.bus.tape ≡ None → new.bus.tape ≡ None
  pub room_ : old.bus.room + length (fresh old) ≤ new.bus.room + length (fresh new)
  pub unready_ : old.bus.unready ≤ new.bus.unready
  pub faults_ : old.bus.faults ≤ new.bus.faults
  pub spare_ : (k : Key) → new.bus.spare k ≡ old.bus.spare k
  pub stood : Stood why old new

-- ---- what the code says of the definition

-- the definition stands at an access: without an answer to it, it waits there
abbrev pub WaitsFor : {T : Type 0} → Ran T → Access → View → Supply → Type 0
WaitsFor r a v rest = (lack : Lack) (left : Supply) → next_answer rest a ≡ Lacks lack left → r ≡ Waits a lack v left

abbrev pub WaitsForOne : {T : Type 0} → Ran T → Option Access → View → Supply → Type 0
WaitsForOne r None v rest = ⊥
WaitsForOne r (Some a) v rest = WaitsFor r a v rest

-- What the definition comes to, by what the code came to, with the answers that are left behind those of the accesses made: the same
-- value, the same end, or an access at which the code had no answer, or none that belongs to it.
abbrev pub Comes : {T : Type 0} → Ran T → Result T Stop → View → Supply → Type 0
Comes r (Ok x) v rest = r ≡ Gave x v rest
Comes r (Err (stops.Fault f)) v rest = r ≡ Ends (Raises f) v rest
Comes r (Err (stops.Intercept e)) v rest = r ≡ Ends (Exits e) v rest
Comes r (Err (stops.Event e)) v rest = r ≡ Ends (Interrupts e) v rest
Comes r (Err (stops.Handoff h)) v rest = r ≡ Ends (HandsOver h) v rest
Comes r (Err (stops.Pending a)) v rest = WaitsFor r a v rest
Comes r (Err (stops.BusFault a)) v rest = WaitsFor r a v rest
Comes r (Err (stops.Diverged d)) v rest = WaitsForOne r d.wanted v rest

-- the definition stands at an access with these made before it
pub record IsAt {T : Type 0} (r : Ran T) (a : Access) (made : List Made) (lack : Lack) (left : Supply) : Type 0 where
  pub view : View
  pub made_ : view.made ≡ made
  pub waits : r ≡ Waits a lack view left

-- each access in turn is the one that the definition stands at where it has the answers before it, and no more
abbrev pub AsksEach : {T : Type 0} → (Supply → Ran T) → List Made → List Made → List Made → Type 0
AsksEach ran made before [] = Unit {0}
AsksEach ran made before (m ∷ ms) = ((s mid left : Supply) (lack : Lack) → Supplies s before mid → next_answer mid m.access ≡ Lacks lack left → IsAt (ran s) m.access (made ++ before) lack left) × AsksEach ran made (before ++ m ∷ []) ms

-- What a run of the code says of the definition: from the old view, with the answers of the accesses that were made, wherever
-- they come from, the definition ends in the same way and in the new view; and each of these accesses is its own.
pub record Equals {T : Type 0} (part : Part T) (old : Sight) (res : Result T Stop) (new : Sight) : Type 0 where
  pub extra : List Made
  pub moves : Moves old extra (why_of res) new
  pub comes : (s rest : Supply) → Supplies s extra rest → Comes (part old.step s) res new.step rest
  pub asks : AsksEach (part old.step) old.step.made [] extra

-- the same, as one fact that is taken apart only by name
pub data Does {T : Type 0} : Part T → Sight → Result T Stop → Sight → Type 0 where
  does : {part : Part T} {old new : Sight} {res : Result T Stop} → Equals part old res new → Does part old res new

-- the same of a part of an instruction
pub data Is {T : Type 0} : Tree T → Sight → Result T Stop → Sight → Type 0 where
  is : {tree : Tree T} {old new : Sight} {res : Result T Stop} → Does (run tree) old res new → Is tree old res new

-- a loop that gathers, at index i with what it has so far: what the rest of it does, the whole does from its start
pub record Gathers {X Y : Type 0} (body : X → Part (List Y)) (xs : List X) (start : Sight) (i : ℕ) (out : List Y) (now : Sight) : Type 0 where
  pub whole : (res : Result (List Y) Stop) (end : Sight) → Does (gather body (drop i xs) >>= (λ rest. give (out ++ rest))) now res end → Does (gather body xs) start res end

-- a loop with nothing to keep
pub record Goes {X : Type 0} (body : X → Part (Unit {0})) (xs : List X) (start : Sight) (i : ℕ) (now : Sight) : Type 0 where
  pub whole : (res : Result (Unit {0}) Stop) (end : Sight) → Does (each body (drop i xs)) now res end → Does (each body xs) start res end
