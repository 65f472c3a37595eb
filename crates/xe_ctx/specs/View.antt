use Rattle.std.specs.Prelude.{ℕ, ◌≡◌, ◌+◌, ◌-◌, ◌≤◌, List, length, take, All, IsSome, Option, Some, Result, Ok, Err}
use Rattle.std.specs.Borrow.{MutBor}
use Rattle.arrayvec.specs.ArrayVec.{ArrayVec}
use Rattle.xe_base.specs.Access.{IsWellFormed, IsWellMade}
use Rattle.xe_base.specs.Ram.{Area}
use Rattle.xe_base.specs.declared.access.Access.{Access}
use Rattle.xe_base.specs.declared.access.Made.{Made}
use Rattle.xe_base.specs.declared.cpu.Cpu.{Cpu}
use Rattle.xe_icpt.specs.declared.exit.Exit.{Exit}
use Rattle.xe_icpt.specs.declared.point.Point.{Point}
use Rattle.xe_ctx.specs.Accept.{accepted}
use Rattle.xe_ctx.specs.Bus.{BusView}
use Rattle.xe_ctx.specs.Fetch.{avail}
use Rattle.xe_ctx.specs.Is.{Sight}
use Rattle.xe_ctx.specs.Kept.{Kept, nothing, expected, Agrees}
use Rattle.xe_ctx.specs.Machine.{state_of, cells_of, made_of, CellsFit}
use Rattle.xe_ctx.specs.Machine.{work_of as work_in}
use Rattle.xe_ctx.specs.Part.{View, begins}
use Rattle.xe_ctx.specs.Recorded.{kept_of}
use Rattle.xe_ctx.specs.State.{State}
use Rattle.xe_ctx.specs.declared.ctx.Ctx.{Ctx}
use Rattle.xe_ctx.specs.declared.machine.Machine.{Machine}
use Rattle.xe_ctx.specs.declared.record.Record.{Record}
use Rattle.xe_ctx.specs.declared.stop.Stop.{Stop}
use Rattle.xe_ctx.specs.declared.stop.Stop.TheVariants.{Pending, BusFault, Diverged}

-- a step that has done nothing yet, with what its record keeps, over a bus
abbrev pub opens : State → (Point → Option Exit) → Kept → BusView → Sight
opens s hits kept bus = record { step = begins s hits; kept = kept; bus = bus }

-- a machine whose step is running, as the step
abbrev pub running : Machine → (Point → Option Exit) → View
running m hits = record { start = state_of m; hits = hits; work = work_in m; made = made_of m }

-- what the step is
abbrev pub view : {B I : Type 0} → (B → BusView) → (I → Point → Option Exit) → Ctx B I → Sight
view sight hits ctx = record { step = running ctx.m.now (hits ctx.icpt.now); kept = kept_of ctx.rec.now; bus = sight ctx.bus.now }

-- the RAM as the step sees it
abbrev pub work_of : {B I : Type 0} → Ctx B I → List Area
work_of ctx = work_in ctx.m.now

-- the accesses that the step has made
abbrev pub made_in : {B I : Type 0} → Ctx B I → List Made
made_in ctx = made_of ctx.m.now

-- the step's references to its machine, its bus and its record
abbrev pub machine_ref : {B I : Type 0} → Ctx B I → MutBor Machine
machine_ref ctx = ctx.m

abbrev pub bus_ref : {B I : Type 0} → Ctx B I → MutBor B
bus_ref ctx = ctx.bus

abbrev pub record_ref : {B I : Type 0} → Ctx B I → MutBor Record
record_ref ctx = ctx.rec

-- the same three, of what a step that has ended leaves behind
abbrev pub machine_back : {M Rest : Type 0} → M × Rest → M
machine_back left = left.0

abbrev pub bus_back : {M I B Rest : Type 0} → M × (I × (B × Rest)) → B
bus_back left = left.1.1.0

abbrev pub record_back : {M I B R Rest : Type 0} → M × (I × (B × (R × Rest))) → R
record_back left = left.1.1.1.0

-- the state at the start of the step, and its registers
abbrev pub state_in : {B I : Type 0} → Ctx B I → State
state_in ctx = state_of ctx.m.now

abbrev pub cpu_of : {B I : Type 0} → Ctx B I → Cpu
cpu_of ctx = ctx.m.now.cpu

-- what the step's record keeps
abbrev pub kept_in : {B I : Type 0} → Ctx B I → Kept
kept_in ctx = kept_of ctx.rec.now

-- The same machine, bus, record and intercepts. The step has changed neither the machine's state nor the record; of the lists of the
-- running step nothing is said here.
pub record SameHandles {B I : Type 0} (old new : Ctx B I) : Type 0 where
  pub machine : (machine_ref new).ghost_name ≡ (machine_ref old).ghost_name
  pub state : state_in new ≡ state_in old
  pub bus : (bus_ref new).ghost_name ≡ (bus_ref old).ghost_name
  pub record_ : (record_ref new).ghost_name ≡ (record_ref old).ghost_name
  pub record_is : (record_ref new).now ≡ (record_ref old).now
  pub icpt : new.icpt.now ≡ old.icpt.now

-- how many accesses the step may still make
abbrev pub accesses_left : {B I : Type 0} → Ctx B I → ℕ
accesses_left ctx = 256 - length (made_of ctx.m.now)

-- how many bytes of RAM the step may still touch
abbrev pub bytes_left : {B I : Type 0} → Ctx B I → ℕ
bytes_left ctx = 1024 - length (cells_of ctx.m.now)

-- the bytes of the instruction that were fetched
abbrev pub code_of : {B I : Type 0} → Ctx B I → List ℕ
code_of ctx = ctx.code.items

-- a bus that tells its script has room for the accesses that a step may still ask it, behind those that a record keeps
abbrev pub HasRoomBehind : BusView → List Made → List Made → Type 0
HasRoomBehind bus kept made = IsSome bus.tape → 256 ≤ bus.room + (length kept + (length made - length kept))

-- what holds of every step in progress: the bytes that it changes are at most 1,024 and RAM, it makes at most 256 accesses, those that
-- it fetched are the instruction's, its accesses are well formed with answers that they can have, and are those that its record keeps,
-- as far as both go, and a bus that tells its script has room for the others
pub record IsOpen {B I : Type 0} (sight : B → BusView) (ctx : Ctx B I) : Type 0 where
  pub made_fit : length (made_of ctx.m.now) ≤ 256
  pub cells_fit : length (cells_of ctx.m.now) ≤ 1024
  pub cells : CellsFit ctx.m.now
  pub code : ctx.code.items ≡ take (length ctx.code.items) (avail (state_of ctx.m.now)).bytes
  pub well_made : All IsWellMade (made_of ctx.m.now)
  pub agrees : Agrees ctx.rec.now.answers.items ctx.rec.now.asked (made_of ctx.m.now)
  pub room_ : HasRoomBehind (sight ctx.bus.now) ctx.rec.now.answers.items (made_of ctx.m.now)

-- the step with the first bytes as its instruction
abbrev pub accepts : ℕ → Sight → Sight
accepts len old = record old { step = accepted len old.step }

-- a list of fixed capacity as the list that it holds
abbrev pub bytes_in : {T E : Type 0} → Result (ArrayVec T) E → Result (List T) E
bytes_in (Ok v) = Ok v.items
bytes_in (Err e) = Err e

-- only the bytes that were fetched differ
abbrev pub OnlyCode : {B I : Type 0} → Ctx B I → Ctx B I → Type 0
OnlyCode old new = new ≡ record old { code = new.code }

-- what the record keeps after a step that stopped so: what the step made, and the access that it stands at, where a device wasn't
-- ready or failed; what it kept before, where it has another access in the place of one of the step; nothing after another end
abbrev pub kept_after : Stop → List Made → Kept → Kept
kept_after (Pending a) made old = record { answers = made; asked = Some a }
kept_after (BusFault a) made old = record { answers = made; asked = Some a }
kept_after (Diverged d) made old = old
kept_after _ made old = nothing

-- what a stop owes to the record: an access that a step stands at is well formed, and there is room for those made
abbrev pub CanKeep : Stop → List Made → Type 0
CanKeep (Pending a) made = IsWellFormed a × (length made ≤ 255)
CanKeep (BusFault a) made = IsWellFormed a × (length made ≤ 255)
CanKeep _ made = Unit {0}

-- the first kept or asked access that the step hasn't reached
abbrev pub unused : Kept → List Made → Option Access
unused kept made = expected kept (length made)
