use Rattle.std.specs.Prelude.{ℕ, ◌+◌, ◌-◌, ◌≡◌, ◌≤◌, ◌==◌, List, [], ◌++◌, length, drop, All, Bool, true, false, if◌then◌else◌, None, Option, Some}
use Rattle.xe_base.specs.Access.{IsWellMade}
use Rattle.xe_base.specs.declared.access.Access.{Access}
use Rattle.xe_base.specs.declared.access.Made.{Made}
use Rattle.xe_opmap.specs.declared.row.Row.{Row}
use Rattle.xe_ctx.specs.Bus.{BusView}
use Rattle.xe_ctx.specs.Is.{Sight, Moves}
use Rattle.xe_ctx.specs.Kept.{Kept, nothing, expected}
use Rattle.xe_ctx.specs.State.{State}
use Rattle.xe_ctx.specs.Supply.{Supply, Supplies, Lack, Lacks, answers_alone, answers, next_answer}
use Rattle.xe_ctx.specs.Tape.{Tape, Key}
use Rattle.xe_ctx.specs.declared.report.Outcome.{Outcome}
use Rattle.xe_ctx.specs.declared.report.Outcome.TheVariants as outcomes
use Rattle.xe_ctx.specs.declared.report.Report.{Report}
use Rattle.xe_ctx.specs.declared.stop.Stop.{Stop}
use Rattle.xe_ctx.specs.declared.stop.Stop.TheVariants as stops
use Rattle.xe_core.specs.Call.{Call, Divergence, divergence, called, diverged, resuming, reported, lacking, StandsEach, Stands, Played, Counted}
use Rattle.xe_core.specs.Step.{Stepped, Ends, Wants, is_done, is_diverged}
use Rattle.xe_core.specs.Turn.{taken, leaves_more}
use Rattle.xe_core.specs.declared.call.SoFar.{SoFar}

-- What the functions inside a call say of one step: a step that was tried, the judgement whether the record belongs to it, and the report
-- of a turn that is this one step.

-- ---- a step that was tried, before it is judged whether the record belongs to it

-- the step stands at an access
abbrev pub StandsThere : Stepped → Option Row → Access → List Made → Supply → Type 0
StandsThere came row a made rest = (lack : Lack) (left : Supply) → next_answer rest a ≡ Lacks lack left → came ≡ Wants (record { row = row; access = a; lack = lack; made = made; rest = left })

abbrev pub StandsThereAt : Stepped → Option Row → Option Access → List Made → Supply → Type 0
StandsThereAt came row None made rest = ⊥
StandsThereAt came row (Some a) made rest = StandsThere came row a made rest

-- what the step comes to, by the end that the code came to, with the answers left behind those of its accesses
abbrev pub ComesTo : Stepped → Option Row → Outcome → State → List Made → Supply → Type 0
ComesTo came row (outcomes.Pending a) after made rest = StandsThere came row a made rest
ComesTo came row (outcomes.BusFault a) after made rest = StandsThere came row a made rest
ComesTo came row (outcomes.Diverged at kept wanted) after made rest = StandsThereAt came row wanted made rest
ComesTo came row outcome after made rest = came ≡ Ends (record { row = row; outcome = outcome; state = after; made = made; rest = rest })

-- an end that the definition has
abbrev pub is_plain : Outcome → Bool
is_plain (outcomes.Pending a) = false
is_plain (outcomes.BusFault a) = false
is_plain (outcomes.Diverged at kept wanted) = false
is_plain _ = true

-- a device wasn't ready, or failed
abbrev pub is_waiting : Stop → Bool
is_waiting (stops.Pending a) = true
is_waiting (stops.BusFault a) = true
is_waiting _ = false

-- why the code stopped, where that isn't an end of the definition
abbrev pub why_by : Outcome → Option Stop
why_by (outcomes.Pending a) = Some (stops.Pending a)
why_by (outcomes.BusFault a) = Some (stops.BusFault a)
why_by (outcomes.Diverged at kept wanted) = Some (stops.Diverged (record { at = at; kept = kept; wanted = wanted }))
why_by _ = None

-- what is known of a step that was tried: from the sight at its start, by the row, the end and the state that it came to
pub record Tried (stepping : Supply → Stepped) (old : Sight) (row : Option Row) (outcome : Outcome) (after : State) (new : Sight) : Type 0 where
  pub moves : Moves old new.step.made (why_by outcome) new
  pub comes : (supply rest : Supply) → Supplies supply new.step.made rest → ComesTo (stepping supply) row outcome after new.step.made rest
  pub stands : StandsEach stepping row [] new.step.made

-- ---- the judgement

-- a step that came to an end of its own, and hasn't reached this access of the record, belongs to another record
abbrev pub judged : Outcome → ℕ → Option Access → Outcome
judged outcome at None = outcome
judged outcome at (Some kept) = if is_plain outcome then outcomes.Diverged at kept None else outcome

-- what the report says of a step that ended so
abbrev pub told_by : Option Row → Outcome → List Made → Report
told_by row outcome made = record {
  row = row;
  finished = if is_done outcome then row else None;
  elements = if is_done outcome then 1 else 0;
  accesses = record { items = if is_diverged outcome then [] else made };
  outcome = outcome;
}

-- what the record keeps afterwards
abbrev pub left_by : Outcome → List Made → Kept → Kept
left_by (outcomes.Pending a) made old = record { answers = made; asked = Some a }
left_by (outcomes.BusFault a) made old = record { answers = made; asked = Some a }
left_by (outcomes.Diverged at kept wanted) made old = old
left_by _ made old = nothing

-- the state afterwards
abbrev pub state_by : Outcome → State → State → State
state_by outcome before after = if is_done outcome then after else before

-- ---- a turn of one step

-- the call that one step is
abbrev pub called_once : State → Stepped → Call
called_once s came = called (taken s came)

abbrev pub resumed_once : Option Divergence → (Supply → Stepped) → State → Kept → Option Tape → Call
resumed_once (Some d) stepping s kept tape = diverged d s kept tape
resumed_once None stepping s kept tape = called_once s (stepping (resuming kept tape))

abbrev pub TellsOnce : Option Divergence → (Supply → Stepped) → State → Kept → Report → State → Kept → Type 0
TellsOnce (Some d) stepping s kept r after left = diverged d s kept None ≡ reported r after left None
TellsOnce None stepping s kept r after left = (rest : List Made) × (r.accesses.items ≡ kept.answers ++ rest) × (called_once s (lacking r.outcome (stepping (answers_alone (answers r.accesses.items)))) ≡ reported r after left None)

pub record FollowsOnce (stepping : Supply → Stepped) (s : State) (kept : Kept) (t : Tape) (r : Report) (after : State) (left : Kept) (new : Option Tape) : Type 0 where
  pub tape : Tape
  pub after_is : new ≡ Some tape
  pub call : resumed_once (divergence stepping kept) stepping s kept (Some t) ≡ reported r after left (Some tape)
  pub log : tape.log ≡ t.log ++ drop (length kept.answers) r.accesses.items

-- what one step reports, and what it leaves: the state, the record and the bus
pub record ReportsOnce (stepping : Supply → Stepped) (s : State) (kept : Kept) (old : BusView) (r : Report) (after : State) (left : Kept) (new : BusView) : Type 0 where
  pub tells : TellsOnce (divergence stepping kept) stepping s kept r after left
  pub told : (t : Tape) → old.tape ≡ Some t → FollowsOnce stepping s kept t r after left new.tape
  pub untold : old.tape ≡ None → new.tape ≡ None
  pub room_ : old.room ≤ new.room + (length r.accesses.items - length kept.answers)
  pub spare_ : (k : Key) → new.spare k ≡ old.spare k
  pub unready_ : old.unready ≤ new.unready
  pub faults_ : old.faults ≤ new.faults
  pub counted : Counted r.outcome old new
  pub well_made : All IsWellMade r.accesses.items
  pub one : r.elements ≡ (if is_done r.outcome then 1 else 0)
  pub finished : r.finished ≡ (if is_done r.outcome then r.row else None)
  pub stays : is_done r.outcome ≡ false → after ≡ s
  -- with any answers that begin with those of its accesses the step comes to the same
  pub comes : is_plain r.outcome ≡ true → (supply rest : Supply) → Supplies supply r.accesses.items rest → stepping supply ≡ Ends (record { row = r.row; outcome = r.outcome; state = after; made = r.accesses.items; rest = rest })
  -- it has reached all that the record keeps
  pub reached : is_plain r.outcome ≡ true → expected kept (length r.accesses.items) ≡ None
  -- the record that is left belongs to the same step; to the next one where nothing is left
  pub fits_ : is_diverged r.outcome ≡ false → divergence stepping left ≡ None
  pub emptied : is_done r.outcome ≡ true → left ≡ nothing
  pub asks : is_diverged r.outcome ≡ false → StandsEach stepping r.row [] r.accesses.items
  pub stands : Stands r.outcome stepping r.row r.accesses.items
  pub fitting : divergence stepping kept ≡ None → is_diverged r.outcome ≡ false
  pub plays : (t : Tape) → old.tape ≡ Some t → is_diverged r.outcome ≡ false → Played kept t r new.tape

-- ---- a step of a turn

-- the report of a turn whose last step is told by one
abbrev pub behind_report : SoFar → Report → Report
behind_report f r = record r { elements = f.elements + r.elements; finished = if r.elements == 0 then f.finished else r.finished }

-- whether the turn goes on behind a step, where it may: with what it has come to then; else the report tells of the whole turn
abbrev pub Went : SoFar → Bool → Report → Option SoFar → Report → Type 0
Went so_far may r (Some next) told = (may ≡ true) × (leaves_more r.outcome r.accesses.items ≡ true) × (next ≡ record { elements = so_far.elements + 1; finished = r.row })
Went so_far may r None told = (told ≡ behind_report so_far r) × (may ≡ true → leaves_more r.outcome r.accesses.items ≡ false)

-- what a step of a turn does, by the report that it would have alone
pub record Did (stepping : Supply → Stepped) (s : State) (kept : Kept) (old : BusView) (so_far : SoFar) (may : Bool) (res : Option SoFar) (told : Report) (after : State) (left : Kept) (new : BusView) : Type 0 where
  pub report : Report
  pub reports : ReportsOnce stepping s kept old report after left new
  pub went : Went so_far may report res told
