-- A turn as the report of its last call tells it, with the counts of replies of "not yet", and the state and the script then.
use Rattle.std.specs.Prelude.{ℕ, ◌+◌, List, [], ◌∷◌, slice_index_or, Bool, true, false, Option, if◌then◌else◌}
use Rattle.xe_base.specs.declared.access.Made.{Made}
use Rattle.xe_opmap.specs.declared.row.Row.{Row}
use Rattle.xe_core.specs.Step.{is_done}
use Rattle.xe_ctx.specs.State.{State}
use Rattle.xe_ctx.specs.Tape.{Tape}
use Rattle.xe_ctx.specs.declared.report.Outcome.{Outcome}
use Rattle.xe_ctx.specs.declared.report.Outcome.TheVariants.{Pending}
use Rattle.xe_ctx.specs.declared.report.Report.{Report}
use Rattle.xe_run.specs.Turn.{Answered, Turn, counted}

-- the count at a place; where there is none, the device was ready at once
abbrev pub count_at : List ℕ → ℕ → ℕ
count_at counts at = slice_index_or counts at 0

-- accesses from a place on, with the counts at their places
abbrev pub with_waits_from : ℕ → List Made → List ℕ → List Answered
with_waits_from at [] counts = []
with_waits_from at (m ∷ ms) counts = record { made = m; waits = counted (count_at counts at) } ∷ with_waits_from (at + 1) ms counts

abbrev pub with_waits : List Made → List ℕ → List Answered
with_waits made counts = with_waits_from 0 made counts

-- a device isn't ready yet
abbrev pub is_pending : Outcome → Bool
is_pending (Pending a) = true
is_pending _ = false

abbrev pub reported : Report → List ℕ → State → Tape → Turn
reported r counts s t = record {
  steps = r.elements;
  finished = r.finished;
  row = r.row;
  accesses = with_waits r.accesses.items counts;
  outcome = r.outcome;
  state = s;
  tape = t;
}

-- the report of a turn, by that of its last step, behind so many that finished, the last of them of this row
abbrev pub led_report : ℕ → Option Row → Report → Report
led_report k row r = record r { elements = if is_done r.outcome then k + 1 else k; finished = if is_done r.outcome then r.finished else row }
