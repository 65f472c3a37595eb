-- One turn of a run: steps one after another, of which the last alone makes accesses; each of these is asked for until its device is ready.
-- Nothing of a call is in it: no suspension, no answer that is kept, no access that is compared. This project's choice.
use Rattle.std.specs.Prelude.{ℕ, zero, suc, ◌^◌, ◌+◌, ◌-◌, ◌==◌, min, List, [], ◌∷◌, ◌++◌, if◌then◌else◌, Option, Some, None}
use Rattle.xe_base.specs.declared.access.Access.{Access}
use Rattle.xe_base.specs.declared.access.Answer.{Answer}
use Rattle.xe_base.specs.declared.access.Made.{Made}
use Rattle.xe_opmap.specs.declared.row.Row.{Row}
use Rattle.xe_ctx.specs.State.{State}
use Rattle.xe_core.specs.Step.{Stepped, Ends, Wants, Ended, Wanted, is_done}
use Rattle.xe_core.specs.Turn.{Steps, goes_on}
use Rattle.xe_ctx.specs.Supply.{Supply, answers_alone}
use Rattle.xe_ctx.specs.Tape.{Tape}
use Rattle.xe_ctx.specs.declared.report.Outcome.{Outcome}
use Rattle.xe_ctx.specs.declared.report.Outcome.TheVariants.{BusFault, Unhandled}
use Rattle.xe_run.specs.Settled.{settled}

-- an access that was answered, and how often its device wasn't ready before
pub record Answered : Type 0 where
  pub made : Made
  pub waits : ℕ

-- a turn: how many steps finished, the last one of them, the last step, its accesses that were answered, how it ended, and the state and
-- the script then
pub record Turn : Type 0 where
  pub steps : ℕ
  pub finished : Option Row
  pub row : Option Row
  pub accesses : List Answered
  pub outcome : Outcome
  pub state : State
  pub tape : Tape

-- a count of 64 bits, which stands still at its last value
abbrev pub counted : ℕ → ℕ
counted n = min n (2 ^ 64 - 1)

abbrev pub answers_of : List Answered → List Answer
answers_of [] = []
answers_of (a ∷ more) = a.made.answer ∷ answers_of more

abbrev pub answered : Access → Answer → ℕ → Answered
answered a r waits = record { made = record { access = a; answer = r }; waits = counted waits }

-- the step ended of itself
abbrev pub ended : Ended → List Answered → Tape → Turn
ended e so_far t = record {
  steps = if is_done e.outcome then 1 else 0;
  finished = if is_done e.outcome then e.row else None;
  row = e.row;
  accesses = so_far;
  outcome = e.outcome;
  state = e.state;
  tape = t;
}

-- a device failed, which ends the step: the machine is as before it
abbrev pub broken_off : State → Wanted → List Answered → Tape → Turn
broken_off s w so_far t = record { steps = 0; finished = None; row = w.row; accesses = so_far; outcome = BusFault w.access; state = s; tape = t }

-- a step that would make more accesses than a step can
abbrev pub overlong : State → List Answered → Tape → Turn
overlong s so_far t = record { steps = 0; finished = None; row = None; accesses = so_far; outcome = Unhandled; state = s; tape = t }

-- what follows when the access that the step wants is settled: with its answer the step goes on
abbrev pub when_settled : (List Answered → Tape → Turn) → State → Wanted → List Answered → ℕ → Option Answer → Tape → Turn
when_settled onward s w so_far waits None t = broken_off s w so_far t
when_settled onward s w so_far waits (Some r) t = onward (so_far ++ answered w.access r waits ∷ []) t

abbrev pub followed : (List Answered → Tape → Turn) → State → List Answered → Tape → Stepped → Turn
followed onward s so_far t (Ends e) = ended e so_far t
followed onward s so_far t (Wants w) = when_settled onward s w so_far (settled t w.access).waits (settled t w.access).answer (settled t w.access).tape

-- A step from its accesses so far, with at most so many rounds to come. In each round the step, with the answers so far, ends, or wants
-- an access; this one is settled, and its answer joins the others.
unfoldable pub stepping_on : ℕ → State → (Supply → Stepped) → List Answered → Tape → Turn
stepping_on zero s stepping so_far t = overlong s so_far t
stepping_on (suc n) s stepping so_far t = followed (λ more after. stepping_on n s stepping more after) s so_far t (stepping (answers_alone (answers_of so_far)))

-- the rounds of a step: it makes at most 256 accesses
abbrev pub rounds : ℕ
rounds = 257

-- a step over a script, from a state
abbrev pub step_over : State → (Supply → Stepped) → Tape → Turn
step_over s stepping t = stepping_on rounds s stepping [] t

-- a turn behind so many steps that finished, the last of them of this row
abbrev pub led : ℕ → Option Row → Turn → Turn
led k row t = record t { steps = k + t.steps; finished = if t.steps == 0 then row else t.finished }

-- where a step finishes without any answer, leaves elements to be done and makes no access, another one follows; else it is the last
abbrev pub going_on : (Ended → Turn) → Turn → Stepped → Turn
going_on onward last (Ends e) = if goes_on e then led 1 e.row (onward e) else last
going_on onward last (Wants w) = last

-- a turn over a script, from a state: a step, and at most so many behind it
unfoldable pub turn_over : Steps → ℕ → State → Tape → Turn
turn_over steps zero s t = step_over s (steps s) t
turn_over steps (suc n) s t = going_on (λ e. turn_over steps n e.state t) (step_over s (steps s) t) (steps s (answers_alone []))
