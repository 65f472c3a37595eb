use Rattle.std.specs.Prelude.{ℕ, zero, suc, ◌+◌, ◌≡◌, List, All, true, Option, Some, None, if◌then◌else◌}
use Rattle.xe_base.specs.Ram.{Area, in_ram}
use Rattle.xe_base.specs.declared.access.Made.{Made}
use Rattle.xe_ctx.specs.State.{State}
use Rattle.xe_ctx.specs.Work.{Cell, patched, expand}
use Rattle.xe_ctx.specs.declared.machine.Machine.{Machine}

-- what a machine is
abbrev pub state_of : Machine → State
state_of m = record { cpu = m.cpu; ram = m.mem }

-- The lists of its running step, which are no part of its state: the bytes that it has changed, and the accesses that it has made.
abbrev pub cells_of : Machine → List Cell
cells_of m = expand m.scratch.runs.items

abbrev pub made_of : Machine → List Made
made_of m = m.scratch.made.items

-- the RAM as the running step sees it
abbrev pub work_of : Machine → List Area
work_of m = patched m.mem (cells_of m)

-- the changed bytes are RAM
abbrev pub CellsFit : Machine → Type 0
CellsFit m = All (λ (c : Cell). in_ram m.mem c.at ≡ true) (cells_of m)

-- they differ in the instructions alone that steps have decoded, which are no part of what a step is
abbrev pub OnlyKnown : Machine → Machine → Type 0
OnlyKnown old new = new ≡ record old { scratch = record old.scratch { known = new.scratch.known } }

-- of n addresses from this one on, the first that isn't RAM
unfoldable pub first_hole : List Area → ℕ → ℕ → Option ℕ
first_hole ram pa zero = None
first_hole ram pa (suc n) = if in_ram ram pa then first_hole ram (pa + 1) n else Some pa
