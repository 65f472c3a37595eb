use Rattle.std.proofs.Common.{ℕ, zero, suc, ◌≡◌, Some}
use Rattle.xe_base.specs.declared.access.Answer.{Answer}
use Rattle.xe_ctx.specs.Next.{by_next, after_request}
use Rattle.xe_ctx.specs.Part.{View, Ran, Gave, Waits, Ends, then_ran}
use Rattle.xe_ctx.specs.Run.{run, do_request}
use Rattle.xe_ctx.specs.Supply.{Supply}
use Rattle.xe_ctx.specs.Tree.{Tree, asks, fault, event, handoff, give, next_of}

module _ {T : Type 0} where
  follows : (n : ℕ) (k : Answer → Tree T) (did : Ran Answer) (r : Ran T) → ((a : Answer) (v : View) (s : Supply) → by_next n (next_of (k a)) v s ≡ Some r → r ≡ run (k a) v s) → after_request did (λ a v s. by_next n (next_of (k a)) v s) ≡ Some r → r ≡ then_ran did (λ a. run (k a))
  follows n k (Gave a v s) r rest h = rest a v s h
  follows n k (Waits a lack v s) r rest h = cc
  follows n k (Ends e v s) r rest h = cc

  -- where the run by the next request comes to an end within n requests, it is the run of the whole
  pub by_next_is : (n : ℕ) (t : Tree T) (v : View) (s : Supply) (r : Ran T) → by_next n (next_of t) v s ≡ Some r → r ≡ run t v s
  by_next_is zero t v s r e = cc
  by_next_is (suc n) (asks q k) v s r e = follows n k (do_request q v s) r (λ a w more. by_next_is n (k a) w more r) e
  by_next_is (suc n) (fault f) v s r e = cc
  by_next_is (suc n) (event f) v s r e = cc
  by_next_is (suc n) (handoff f) v s r e = cc
  by_next_is (suc n) (give f) v s r e = cc
