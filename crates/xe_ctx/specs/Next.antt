use Rattle.std.specs.Prelude.{ℕ, zero, suc, List, [], ◌∷◌, Option, Some, None, Result, Ok, Err}
use Rattle.xe_base.specs.declared.access.Answer.{Answer}
use Rattle.xe_ctx.specs.Ending.{Ending}
use Rattle.xe_ctx.specs.Part.{View, Ran, Gave, Waits}
use Rattle.xe_ctx.specs.Part.{Ends as Ended}
use Rattle.xe_ctx.specs.Run.{do_request}
use Rattle.xe_ctx.specs.Supply.{Supply}
use Rattle.xe_ctx.specs.Tree.{Next, Asks, Ends}

-- The run of an instruction by its next request: that request is done, and what is left is what it asks after one more answer.

-- how it ends
abbrev pub ended : {T : Type 0} → Result T Ending → View → Supply → Ran T
ended (Ok x) v s = Gave x v s
ended (Err e) v s = Ended e v s

-- what follows a request
abbrev pub after_request : {T : Type 0} → Ran Answer → (Answer → View → Supply → Option (Ran T)) → Option (Ran T)
after_request (Gave a v s) rest = rest a v s
after_request (Waits a lack v s) rest = Some (Waits a lack v s)
after_request (Ended e v s) rest = Some (Ended e v s)

abbrev pub next_step : {T : Type 0} → Next T → (Answer → View → Supply → Option (Ran T)) → View → Supply → Option (Ran T)
next_step (Asks r) rest v s = after_request (do_request r v s) rest
next_step (Ends res) rest v s = Some (ended res v s)

-- within n requests
abbrev pub by_next : {T : Type 0} → ℕ → (List Answer → Next T) → View → Supply → Option (Ran T)
by_next zero next v s = None
by_next (suc n) next v s = next_step (next []) (λ a w more. by_next n (λ got. next (a ∷ got)) w more) v s
