use Rattle.std.specs.Prelude.{List, [], ◌∷◌, ◌++◌, Option}
use Rattle.xe_base.specs.Ram.{Area}
use Rattle.xe_base.specs.declared.access.Access.{Access}
use Rattle.xe_base.specs.declared.access.Answer.{Answer}
use Rattle.xe_base.specs.declared.access.Made.{Made}
use Rattle.xe_icpt.specs.declared.exit.Exit.{Exit}
use Rattle.xe_icpt.specs.declared.point.Point.{Point}
use Rattle.xe_ctx.specs.State.{State}
use Rattle.xe_ctx.specs.Ending.{Ending}
use Rattle.xe_ctx.specs.Supply.{Supply, Lack, Taken, Got, Lacks, next_answer}

-- a step in progress: the state at its start, what is intercepted, the RAM as the step sees it, and the accesses made
pub record View : Type 0 where
  pub start : State
  pub hits : Point → Option Exit
  pub work : List Area
  pub made : List Made

-- a step that has done nothing yet
abbrev pub begins : State → (Point → Option Exit) → View
begins s hits = record { start = s; hits = hits; work = s.ram; made = [] }

abbrev pub with_made : View → Access → Answer → View
with_made v a r = record v { made = v.made ++ record { access = a; answer = r } ∷ [] }

-- how a part ends: with a value, at an access that has no answer, or by an end of the instruction; beside it the step then, and
-- the answers that are left
pub data Ran (T : Type 0) : Type 0 where
  Gave : T → View → Supply → Ran T
  Waits : Access → Lack → View → Supply → Ran T
  Ends : Ending → View → Supply → Ran T

-- a part of a step: what it does from here, with these answers
abbrev pub Part : Type 0 → Type 0
Part T = View → Supply → Ran T

abbrev pub then_ran : {A B : Type 0} → Ran A → (A → Part B) → Ran B
then_ran (Gave x v s) f = f x v s
then_ran (Waits a lack v s) f = Waits a lack v s
then_ran (Ends e v s) f = Ends e v s

infixl 10 ◌>>=◌
-- one part after another
unfoldable pub ◌>>=◌ : {A B : Type 0} → Part A → (A → Part B) → Part B
m >>= f = λ v s. then_ran (m v s) f

unfoldable pub give : {T : Type 0} → T → Part T
give x = λ v s. Gave x v s

unfoldable pub stop : {T : Type 0} → Ending → Part T
stop e = λ v s. Ends e v s

-- what is read off the step
unfoldable pub look : {T : Type 0} → (View → T) → Part T
look f = λ v s. Gave (f v) v s

-- the RAM changes, as the step sees it
unfoldable pub change : (List Area → List Area) → Part (Unit {0})
change f = λ v s. Gave tt (record v { work = f v.work }) s

abbrev pub device_took : Access → View → Taken → Ran Answer
device_took a v (Got r rest) = Gave r (with_made v a r) rest
device_took a v (Lacks lack rest) = Waits a lack v rest

-- one access: it uses the next answer and is one of those made, or waits where no answer is left
unfoldable pub ask : Access → Part Answer
ask a = λ v s. device_took a v (next_answer s a)

-- the lists that a part gives for each item, one after another
unfoldable pub gather : {X Y : Type 0} → (X → Part (List Y)) → List X → Part (List Y)
gather body [] = give []
gather body (x ∷ xs) = body x >>= (λ ys. gather body xs >>= (λ rest. give (ys ++ rest)))

-- a part for each item
unfoldable pub each : {X : Type 0} → (X → Part (Unit {0})) → List X → Part (Unit {0})
each body [] = give tt
each body (x ∷ xs) = body x >>= (λ _. each body xs)
