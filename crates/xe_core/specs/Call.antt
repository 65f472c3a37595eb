use Rattle.std.specs.Prelude.{ℕ, ◌+◌, ◌-◌, ◌<◌, ◌^◌, ◌≡◌, ◌≤◌, List, [], ◌∷◌, ◌++◌, length, drop, All, Bool, true, false, if◌then◌else◌, None, Option, Some, IsSome}
use Rattle.xe_base.specs.Access.{IsWellMade}
use Rattle.xe_base.specs.declared.access.Access.{Access}
use Rattle.xe_base.specs.declared.access.Answer.{Answer}
use Rattle.xe_base.specs.declared.access.Made.{Made}
use Rattle.xe_opmap.specs.declared.row.Row.{Row}
use Rattle.xe_ctx.specs.Bus.{BusView, Rose}
use Rattle.xe_ctx.specs.Kept.{Kept, nothing, same_access}
use Rattle.xe_ctx.specs.State.{State}
use Rattle.xe_core.specs.Step.{Stepped, Ends, Wants, outcome_of, is_done, is_diverged}
use Rattle.xe_core.specs.Turn.{Steps, Turn, turn, leaves_more, after_steps, Silent}
use Rattle.xe_ctx.specs.Supply.{Supply, Supplies, Lack, Lacks, Unanswered, Unready, Failing, answers_alone, answers, from_tape, next_answer}
use Rattle.xe_ctx.specs.Tape.{Tape, Key}
use Rattle.xe_ctx.specs.declared.report.Outcome.{Outcome}
use Rattle.xe_ctx.specs.declared.report.Outcome.TheVariants as outcomes
use Rattle.xe_ctx.specs.declared.report.Report.{Report}
use Rattle.xe_ctx.specs.declared.stop.Diverged.{Diverged}
use Rattle.xe_ctx.specs.declared.stop.Stop.TheVariants as stops

-- One call of the emulator: a turn whose first step takes its first answers from a record. What a step comes to with some answers is
-- handed in, as `stepping`; and from which state, as `steps`.

-- ---- a record and its step

-- a place of the step whose access isn't the one that a record has there: the step's row, the place, the access of the record, and
-- that of the step, none where it has ended
pub record Divergence : Type 0 where
  pub row : Option Row
  pub what : Diverged

-- a step with the answers up to a place, and no more, asks for this access there; or it diverges
abbrev pub differs : ℕ → Access → Stepped → Option Divergence
differs at kept (Wants w) = if same_access w.access kept then None else Some (record { row = w.row; what = record { at = at; kept = kept; wanted = Some w.access } })
differs at kept (Ends e) = Some (record { row = e.row; what = record { at = at; kept = kept; wanted = None } })

abbrev pub first_of : Option Divergence → Option Divergence → Option Divergence
first_of (Some d) rest = Some d
first_of None rest = rest

-- the first place at which a step diverges from the accesses that were kept, and from the one that was asked behind them: at each place
-- the step gets the kept answers before it
unfoldable pub diverges : (Supply → Stepped) → List Made → List Made → Access → Option Divergence
diverges stepping before [] asked = differs (length before) asked (stepping (answers_alone (answers before)))
diverges stepping before (k ∷ ks) asked = first_of (differs (length before) k.access (stepping (answers_alone (answers before)))) (diverges stepping (before ++ k ∷ []) ks asked)

-- where the step diverges from a record; one that keeps nothing has no such place
abbrev pub diverges_from : (Supply → Stepped) → List Made → Option Access → Option Divergence
diverges_from stepping kept None = None
diverges_from stepping kept (Some asked) = diverges stepping [] kept asked

abbrev pub divergence : (Supply → Stepped) → Kept → Option Divergence
divergence stepping kept = diverges_from stepping kept.answers kept.asked

-- a record belongs to the step: it keeps nothing, or the step stands at its asked access, with exactly its accesses made
abbrev pub Fits : (Supply → Stepped) → Kept → Type 0
Fits stepping kept = divergence stepping kept ≡ None

-- a step stands at an access that has no answer left, with these made before it
abbrev pub standing : Option Row → Access → List Made → Stepped
standing row a made = Wants (record { row = row; access = a; lack = Unanswered; made = made; rest = answers_alone [] })

-- each access in turn is the one that the step stands at where it has the answers before it, and no more
abbrev pub StandsEach : (Supply → Stepped) → Option Row → List Made → List Made → Type 0
StandsEach stepping row before [] = Unit {0}
StandsEach stepping row before (m ∷ ms) = (stepping (answers_alone (answers before)) ≡ standing row m.access before) × StandsEach stepping row (before ++ m ∷ []) ms

-- ---- one call

-- what one call tells and leaves: the row of its last step and of its last finished one, how many finished, the accesses of the last
-- one, kept ones included, and its end; the state, the record and the script then
pub record Call : Type 0 where
  pub row : Option Row
  pub finished : Option Row
  pub elements : ℕ
  pub accesses : List Made
  pub outcome : Outcome
  pub state : State
  pub kept : Kept
  pub tape : Option Tape

-- how a call ends at an access without an answer
abbrev pub waiting : Lack → Access → Outcome
waiting Unanswered a = outcomes.Pending a
waiting Unready a = outcomes.Pending a
waiting Failing a = outcomes.BusFault a

-- A call that suspends its last step keeps what the step has made, and what it asked; at any other end nothing is kept.
abbrev pub called_by : Turn → Stepped → Call
called_by t (Ends e) = record {
  row = e.row;
  finished = t.finished;
  elements = t.elements;
  accesses = e.made;
  outcome = e.outcome;
  state = t.state;
  kept = nothing;
  tape = e.rest.tape;
}
called_by t (Wants w) = record {
  row = w.row;
  finished = t.finished;
  elements = t.elements;
  accesses = w.made;
  outcome = waiting w.lack w.access;
  state = t.state;
  kept = record { answers = w.made; asked = Some w.access };
  tape = w.rest.tape;
}

-- the call that a turn is
abbrev pub called : Turn → Call
called t = called_by t t.last

-- a call whose record belongs to another step: it tells where, and leaves all as it was
abbrev pub diverged : Divergence → State → Kept → Option Tape → Call
diverged d s kept tape = record {
  row = d.row;
  finished = None;
  elements = 0;
  accesses = [];
  outcome = outcome_of (stops.Diverged d.what);
  state = s;
  kept = kept;
  tape = tape;
}

-- what the answers of a call come from: the kept ones, and behind them the script
abbrev pub resuming : Kept → Option Tape → Supply
resuming kept tape = record { given = answers kept.answers; tape = tape }

-- the turn goes on from the kept answers, and each further access is asked once
abbrev pub resumed : Option Divergence → Steps → ℕ → State → Kept → Option Tape → Call
resumed (Some d) steps n s kept tape = diverged d s kept tape
resumed None steps n s kept tape = called (turn steps n s (resuming kept tape))

-- one call of a turn of at most n steps, from a state with a record, over a script
abbrev pub one_call : Steps → ℕ → State → Kept → Tape → Call
one_call steps n s kept t = resumed (divergence (steps s) kept) steps n s kept (Some t)

-- a call as a report tells it, with the state, the record and the script then
abbrev pub reported : Report → State → Kept → Option Tape → Call
reported r s kept tape = record {
  row = r.row;
  finished = r.finished;
  elements = r.elements;
  accesses = r.accesses.items;
  outcome = r.outcome;
  state = s;
  kept = kept;
  tape = tape;
}

-- an access without an answer left, as a bus tells it that failed: where the report says so
abbrev pub lacking : Outcome → Stepped → Stepped
lacking (outcomes.BusFault a) (Wants w) = Wants (record w { lack = Failing })
lacking _ came = came

abbrev pub lacking_last : Outcome → Turn → Turn
lacking_last o t = record t { last = lacking o t.last }

-- What a call says of the definition over any bus: where the record belongs to another step, that is told; else the record's answers
-- come first among those of the accesses made, and with these answers alone the turn comes to the same.
abbrev pub Tells : Option Divergence → Steps → ℕ → State → Kept → Report → State → Kept → Type 0
Tells (Some d) steps n s kept r after left = diverged d s kept None ≡ reported r after left None
Tells None steps n s kept r after left = (rest : List Made) × (r.accesses.items ≡ kept.answers ++ rest) × (called (lacking_last r.outcome (turn steps n s (answers_alone (answers r.accesses.items)))) ≡ reported r after left None)

-- what a call does where the bus tells its script: it is that of the script, whose log has grown by exactly the accesses that weren't
-- kept
pub record FollowsTape (steps : Steps) (n : ℕ) (s : State) (kept : Kept) (t : Tape) (r : Report) (after : State) (left : Kept) (new : Option Tape) : Type 0 where
  pub tape : Tape
  pub after_is : new ≡ Some tape
  pub call : one_call steps n s kept t ≡ reported r after left (Some tape)
  pub log : tape.log ≡ t.log ++ drop (length kept.answers) r.accesses.items

-- a call that ended at a device that wasn't ready, or failed, has counted it
abbrev pub Counted : Outcome → BusView → BusView → Type 0
Counted (outcomes.Pending a) old new = Rose old.unready new.unready
Counted (outcomes.BusFault a) old new = Rose old.faults new.faults
Counted _ old new = Unit {0}

-- how many steps finished before the last one
abbrev pub steps_before : Report → ℕ
steps_before r = if is_done r.outcome then r.elements - 1 else r.elements

-- the state at the start of the last step
abbrev pub before_last : Steps → State → Report → State
before_last steps s r = after_steps steps (steps_before r) s (answers_alone [])

-- the report of the last step alone
abbrev pub alone : Report → Report
alone r = record r { elements = if is_done r.outcome then 1 else 0; finished = if is_done r.outcome then r.row else None }

-- Each step before the last finished, left elements to be done and made no access. Behind the last one no other may follow, and from the
-- state before it this step is a call of its own.
pub record Led (steps : Steps) (n : ℕ) (s : State) (kept : Kept) (r : Report) (after : State) (left : Kept) : Type 0 where
  pub row : Option Row
  pub silent : Silent steps s (steps_before r) row (before_last steps s r)
  pub within : steps_before r < n
  pub finished : r.finished ≡ (if is_done r.outcome then r.row else row)
  pub over : leaves_more r.outcome r.accesses.items ≡ true → r.elements ≡ n
  pub last : Tells (divergence (steps (before_last steps s r)) kept) steps 1 (before_last steps s r) kept (alone r) after left

-- at a device that wasn't ready, or failed, the step stands at that access, with the answers of the accesses that were made
abbrev pub Stands : Outcome → (Supply → Stepped) → Option Row → List Made → Type 0
Stands (outcomes.Pending a) stepping row made = stepping (answers_alone (answers made)) ≡ standing row a made
Stands (outcomes.BusFault a) stepping row made = stepping (answers_alone (answers made)) ≡ standing row a made
Stands _ stepping row made = Unit {0}

-- what is left of the answers behind the accesses: at a device that wasn't ready, or failed, the script was asked once more
abbrev pub LeftBy : Outcome → Supply → Supply → Type 0
LeftBy (outcomes.Pending a) mid rest = next_answer mid a ≡ Lacks Unready rest
LeftBy (outcomes.BusFault a) mid rest = next_answer mid a ≡ Lacks Failing rest
LeftBy _ mid rest = mid ≡ rest

-- where the answers of a call came from: first the kept ones, then those of the script
pub record Played (kept : Kept) (t : Tape) (r : Report) (new : Option Tape) : Type 0 where
  pub tape : Tape
  pub after_is : new ≡ Some tape
  pub mid : Supply
  pub supplies : Supplies (resuming kept (Some t)) r.accesses.items mid
  pub left : LeftBy r.outcome mid (from_tape tape)

-- ---- completeness

-- neither count of a bus rose, and both stand below their last values
pub record Steady (old new : BusView) : Type 0 where
  pub unready_ : new.unready ≤ old.unready
  pub below_unready : new.unready < 2 ^ 64 - 1
  pub faults_ : new.faults ≤ old.faults
  pub below_faults : new.faults < 2 ^ 64 - 1

-- the last step of a turn finished
abbrev pub has_finished : Stepped → Bool
has_finished (Ends e) = is_done e.outcome
has_finished (Wants w) = false

-- whatever answers would follow those that were given: where the turn ends in a finished step with them, the call does
abbrev pub Completes : Steps → ℕ → State → Report → Type 0
Completes steps n s r = (more : List Answer) → has_finished (turn steps n s (answers_alone (answers r.accesses.items ++ more))).last ≡ true → is_done r.outcome ≡ true

-- the same over a script, which tells the answers that follow
abbrev pub CompletesOver : Steps → ℕ → State → Kept → Tape → Report → Type 0
CompletesOver steps n s kept t r = has_finished (turn steps n s (resuming kept (Some t))).last ≡ true → is_done r.outcome ≡ true

-- ---- all that a call says

-- what a call of a turn of at most n steps reports, and what it leaves: the state, the record and the bus
pub record Reports (steps : Steps) (n : ℕ) (s : State) (kept : Kept) (old : BusView) (r : Report) (after : State) (left : Kept) (new : BusView) : Type 0 where
  pub tells : Tells (divergence (steps s) kept) steps n s kept r after left
  pub told : (t : Tape) → old.tape ≡ Some t → FollowsTape steps n s kept t r after left new.tape
  pub untold : old.tape ≡ None → new.tape ≡ None
  pub room_ : old.room ≤ new.room + (length r.accesses.items - length kept.answers)
  pub spare_ : (k : Key) → new.spare k ≡ old.spare k
  pub unready_ : old.unready ≤ new.unready
  pub faults_ : old.faults ≤ new.faults
  pub counted : Counted r.outcome old new
  pub well_made : All IsWellMade r.accesses.items
  pub few : r.elements ≤ n
  pub single : IsSome kept.asked → r.elements ≡ (if is_done r.outcome then 1 else 0)
  pub stays : after ≡ after_steps steps r.elements s (answers_alone (answers r.accesses.items))
  pub led : Led steps n s kept r after left
  -- the record that is left belongs to the step that comes next
  pub fits_ : is_diverged r.outcome ≡ false → Fits (steps after) left
  -- each of the accesses is the one that the last step stands at with the answers before it alone
  pub asks : is_diverged r.outcome ≡ false → StandsEach (steps (before_last steps s r)) r.row [] r.accesses.items
  pub stands : Stands r.outcome (steps (before_last steps s r)) r.row r.accesses.items
  pub fitting : Fits (steps s) kept → is_diverged r.outcome ≡ false
  pub plays : (t : Tape) → old.tape ≡ Some t → is_diverged r.outcome ≡ false → Played kept t r new.tape
  pub completes : Fits (steps s) kept → Steady old new → Completes steps n s r
  pub completes_over : (t : Tape) → old.tape ≡ Some t → Fits (steps s) kept → CompletesOver steps n s kept t r
