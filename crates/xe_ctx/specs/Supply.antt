use Rattle.std.specs.Prelude.{◌≡◌, List, [], ◌∷◌, Option, Some, None}
use Rattle.xe_base.specs.declared.access.Access.{Access}
use Rattle.xe_base.specs.declared.access.Answer.{Answer}
use Rattle.xe_base.specs.declared.access.Made.{Made}
use Rattle.xe_ctx.specs.Tape.{Tape, ask}
use Rattle.xe_ctx.specs.declared.bus.Reply.{Reply}
use Rattle.xe_ctx.specs.declared.bus.Reply.TheVariants.{Ready, NotYet, Failed}

-- where the answers of a step come from: first the given ones, one after another, then the script, where there is one
pub record Supply : Type 0 where
  pub given : List Answer
  pub tape : Option Tape

-- these answers alone
abbrev pub answers_alone : List Answer → Supply
answers_alone rs = record { given = rs; tape = None }

-- what the script gives
abbrev pub from_tape : Tape → Supply
from_tape t = record { given = []; tape = Some t }

-- why an access has no answer: there is none left and no script; the device isn't ready yet; it failed
pub data Lack : Type 0 where
  Unanswered : Lack
  Unready : Lack
  Failing : Lack

-- the next answer; or that there is none. Beside it what is left: a script that was asked in vain has lost its item, too.
pub data Taken : Type 0 where
  Got : Answer → Supply → Taken
  Lacks : Lack → Supply → Taken

-- the reply of a script
abbrev pub replied : Reply → Supply → Taken
replied (Ready r) rest = Got r rest
replied NotYet rest = Lacks Unready rest
replied Failed rest = Lacks Failing rest

abbrev pub taken : List Answer → Option Tape → Access → Taken
taken (r ∷ rs) tape a = Got r (record { given = rs; tape = tape })
taken [] (Some t) a = replied (ask t a).reply (from_tape (ask t a).after)
taken [] None a = Lacks Unanswered (answers_alone [])

abbrev pub next_answer : Supply → Access → Taken
next_answer s a = taken s.given s.tape a

-- the answers of accesses
abbrev pub answers : List Made → List Answer
answers [] = []
answers (m ∷ ms) = m.answer ∷ answers ms

-- the supply answers these accesses in turn, and is then the other
abbrev pub Supplies : Supply → List Made → Supply → Type 0
Supplies s [] rest = s ≡ rest
Supplies s (m ∷ ms) rest = (mid : Supply) × (next_answer s m.access ≡ Got m.answer mid) × Supplies mid ms rest
