use Rattle.std.specs.Prelude.{ℕ, zero, suc, ◌+◌, ◌-◌, ◌<◌, ◌≤◌, ◌≡◌, ◌==◌, ◌&&◌, List, [], ◌∷◌, Bool, true, false, if◌then◌else◌, Option, None}
use Rattle.xe_base.specs.declared.access.Made.{Made}
use Rattle.xe_opmap.specs.declared.row.Row.{Row}
use Rattle.xe_ctx.specs.State.{State}
use Rattle.xe_ctx.specs.Supply.{Supply}
use Rattle.xe_ctx.specs.declared.report.Outcome.{Outcome}
use Rattle.xe_ctx.specs.declared.report.Outcome.TheVariants as outcomes
use Rattle.xe_core.specs.Step.{Stepped, Ended, Ends, Wants, is_done}

-- A turn: steps one after another, as long as each leaves elements of a repeated string instruction to be done and makes no access.
-- Only its last step makes accesses, so a call that is suspended has one step to go on with. This project's choice.

-- what a step comes to from a state, with its answers
abbrev pub Steps : Type 0
Steps = State → Supply → Stepped

-- a turn: how many of its steps finished, and the row of the last of these; what its last step came to, whose row, accesses and end are
-- those of the turn; and the state then
pub record Turn : Type 0 where
  pub elements : ℕ
  pub finished : Option Row
  pub last : Stepped
  pub state : State

-- RIP stays on the instruction, of which elements are left
abbrev pub has_more : Outcome → Bool
has_more (outcomes.Done more retire) = more
has_more _ = false

abbrev pub none_made : List Made → Bool
none_made [] = true
none_made (m ∷ ms) = false

-- a step that ended so, with these accesses, may be followed by another one
abbrev pub leaves_more : Outcome → List Made → Bool
leaves_more outcome made = has_more outcome && none_made made

abbrev pub goes_on : Ended → Bool
goes_on e = leaves_more e.outcome e.made

-- a turn of one step from a state
abbrev pub taken : State → Stepped → Turn
taken s (Ends e) = record { elements = if is_done e.outcome then 1 else 0; finished = if is_done e.outcome then e.row else None; last = Ends e; state = e.state }
taken s (Wants w) = record { elements = 0; finished = None; last = Wants w; state = s }

-- a turn behind so many steps that finished, the last of them of this row
abbrev pub behind : ℕ → Option Row → Turn → Turn
behind k row t = record t { elements = k + t.elements; finished = if t.elements == 0 then row else t.finished }

-- a step that another one may follow
abbrev pub then_on : (Ended → Turn) → State → Stepped → Turn
then_on onward s (Ends e) = if goes_on e then behind 1 e.row (onward e) else taken s (Ends e)
then_on onward s (Wants w) = taken s (Wants w)

-- a turn of a step and at most so many behind it, from a state with these answers
unfoldable pub turn_of : Steps → ℕ → State → Supply → Turn
turn_of steps zero s supply = taken s (steps s supply)
turn_of steps (suc n) s supply = then_on (λ e. turn_of steps n e.state e.rest) s (steps s supply)

-- a turn of at most n steps, where n is at least 1
abbrev pub turn : Steps → ℕ → State → Supply → Turn
turn steps n s supply = turn_of steps (n - 1) s supply

-- ---- one turn after another

-- a turn ended with a step that finished, left elements to be done and made no access
abbrev pub last_goes_on : Stepped → Bool
last_goes_on (Ends e) = goes_on e
last_goes_on (Wants w) = false

-- the answers that a step has left
abbrev pub left_over : Stepped → Supply
left_over (Ends e) = e.rest
left_over (Wants w) = w.rest

-- a turn that ends so before its n-th step is followed by the turn of those that are left
abbrev pub TurnsJoin : Steps → Type 0
TurnsJoin steps = (k n : ℕ) (s : State) (supply : Supply) → 1 ≤ k → k < n → last_goes_on (turn steps k s supply).last ≡ true → turn steps n s supply ≡ behind (turn steps k s supply).elements (turn steps k s supply).finished (turn steps (n - k) (turn steps k s supply).state (left_over (turn steps k s supply).last))

-- ---- the steps that finished

abbrev pub after_step : (Ended → State) → State → Stepped → State
after_step onward s (Ends e) = onward e
after_step onward s (Wants w) = s

-- the state after so many steps
unfoldable pub after_steps : Steps → ℕ → State → Supply → State
after_steps steps zero s supply = s
after_steps steps (suc k) s supply = after_step (λ e. after_steps steps k e.state e.rest) s (steps s supply)

-- a step of this row finishes in a state, leaves elements to be done and makes no access, whatever the answers
pub record GoesOn (stepping : Supply → Stepped) (row : Option Row) (after : State) : Type 0 where
  pub retire : ℕ
  pub comes : (supply : Supply) → stepping supply ≡ Ends (record { row = row; outcome = outcomes.Done true retire; state = after; made = []; rest = supply })

-- so many steps from a state to another are such, the last of them of this row
pub data Silent (steps : Steps) (s : State) : ℕ → Option Row → State → Type 0 where
  no_steps : Silent steps s 0 None s
  one_more : {k : ℕ} {row next : Option Row} {mid after : State} → Silent steps s k row mid → GoesOn (steps mid) next after → Silent steps s (suc k) next after
