use Rattle.std.specs.Prelude.{ℕ, ◌≡◌, ◌+◌, ◌≤◌, Bool, true, false, Option, Result, Ok, Err}
use Rattle.xe_base.specs.declared.cpu.Cpu.{Cpu}
use Rattle.xe_icpt.specs.declared.exit.Exit.{Exit}
use Rattle.xe_icpt.specs.declared.point.Point.{Point}
use Rattle.xe_opmap.specs.declared.insn.Insn.{Insn}
use Rattle.xe_ctx.specs.Bus.{BusView}
use Rattle.xe_ctx.specs.Is.{Is}
use Rattle.xe_ctx.specs.Operand.{IsOf}
use Rattle.xe_ctx.specs.Tree.{Tree}
use Rattle.xe_ctx.specs.View.{view, cpu_of, SameHandles, IsOpen, accesses_left, bytes_left}
use Rattle.xe_ctx.specs.declared.ctx.Ctx.{Ctx}
use Rattle.xe_ctx.specs.declared.stop.End.{End}
use Rattle.xe_ctx.specs.declared.stop.Finish.{Finish}
use Rattle.xe_ctx.specs.declared.stop.Stop.{Stop}

-- What the contracts of rows and of their parts say, as one fact each. A row writes the registers into a draft, which is worth nothing where the
-- instruction doesn't finish.

-- an end with the draft that belongs to it
abbrev pub finished : Result End Stop → Cpu → Result Finish Stop
finished (Ok e) cpu = Ok (record { cpu = cpu; more = e.more; retire = e.retire })
finished (Err s) cpu = Err s

-- the draft that a part of a row leaves
abbrev pub drafted : Result (Unit {0}) Stop → Cpu → Result Cpu Stop
drafted (Ok u) cpu = Ok cpu
drafted (Err s) cpu = Err s

-- a step that can go on: so many accesses may still be made, and so many bytes of RAM touched
pub record HasLeft {B I : Type 0} (sight : B → BusView) (ctx : Ctx B I) (n m : ℕ) : Type 0 where
  pub is_open : IsOpen sight ctx
  pub accesses : n ≤ accesses_left ctx
  pub bytes : m ≤ bytes_left ctx

-- the same of a step at an instruction of the code that runs, whose draft is the step's registers
pub record IsReady {B I : Type 0} (sight : B → BusView) (insn : Insn) (ctx : Ctx B I) (cpu : Cpu) (n m : ℕ) : Type 0 where
  pub of_code : IsOf (cpu_of ctx) insn
  pub draft : cpu ≡ cpu_of ctx
  pub is_open : IsOpen sight ctx
  pub accesses : n ≤ accesses_left ctx
  pub bytes : m ≤ bytes_left ctx

-- the code does what a definition says, over the same machine, bus and intercepts
pub record Runs {B I T : Type 0} (sight : B → BusView) (hits : I → Point → Option Exit) (tree : Tree T) (old : Ctx B I) (res : Result T Stop) (new : Ctx B I) : Type 0 where
  pub same : SameHandles old new
  pub is_open : IsOpen sight new
  pub part : Is tree (view sight hits old) res (view sight hits new)

-- the same, with at most so many accesses, and so many bytes of RAM touched
pub record RunsWithin {B I T : Type 0} (sight : B → BusView) (hits : I → Point → Option Exit) (tree : Tree T) (old : Ctx B I) (res : Result T Stop) (new : Ctx B I) (n m : ℕ) : Type 0 where
  pub same : SameHandles old new
  pub is_open : IsOpen sight new
  pub accesses : accesses_left old ≤ accesses_left new + n
  pub bytes : bytes_left old ≤ bytes_left new + m
  pub part : Is tree (view sight hits old) res (view sight hits new)

-- a row does what its definition says, with the draft that it leaves
abbrev pub Finishes : {B I : Type 0} → (B → BusView) → (I → Point → Option Exit) → Tree Finish → Ctx B I → Result End Stop → Cpu → Ctx B I → Type 0
Finishes sight hits tree old res cpu new = Runs sight hits tree old (finished res cpu) new

-- A row that is done at once or not at all says whether it was. It was: it does what its definition says, with the draft that it leaves, and
-- ends with nothing left to be done. It wasn't: nothing has changed, the draft neither.
pub record AtOnce {B I : Type 0} (sight : B → BusView) (hits : I → Point → Option Exit) (tree : Tree Finish) (old : Ctx B I) (draft : Cpu) (did : Bool) (new : Ctx B I) (after : Cpu) : Type 0 where
  pub done : did ≡ true → Finishes sight hits tree old (Ok (record { more = false; retire = 0 })) after new
  pub stays : did ≡ false → new ≡ old
  pub draft_stays : did ≡ false → after ≡ draft

-- a part of a row does, and leaves its draft
abbrev pub DraftsWithin : {B I : Type 0} → (B → BusView) → (I → Point → Option Exit) → Tree Cpu → Ctx B I → Result (Unit {0}) Stop → Cpu → Ctx B I → ℕ → ℕ → Type 0
DraftsWithin sight hits tree old res cpu new n m = RunsWithin sight hits tree old (drafted res cpu) new n m
