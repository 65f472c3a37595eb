use Rattle.std.proofs.Common.{ℕ, suc, ◌≡◌, ◌+◌, ◌-◌, ◌<◌, ◌≤◌, Result, Ok, Err, arith, subst}
use Rattle.xe_base.specs.declared.cpu.Cpu.{Cpu}
use Rattle.xe_ctx.specs.Is.{Sight, Is}
use Rattle.xe_ctx.specs.declared.stop.Stop.{Stop}
use Rattle.xe_ctx.proofs.Trees.{is_then, is_stop, is_give}
use Rattle.xe_flow.specs.Frame.{copy_pointer, copy_pointers}

-- A loop that copies frame pointers, after i of them: what the rest of it does, the whole does from its start.
pub record Copies (n count : ℕ) (first : Cpu) (start : Sight) (i : ℕ) (cpu : Cpu) (now : Sight) : Type 0 where
  pub whole : (res : Result Cpu Stop) (end : Sight) → Is (copy_pointers n (count - i) cpu) now res end → Is (copy_pointers n count first) start res end

module _ (n count : ℕ) (first : Cpu) (start : Sight) where
  at-start : count - 0 ≡ count
  at-start = omega arith

  pub copies_none : Copies n count first start 0 first start
  copies_none = record { whole = λ res end r. subst (λ k. Is (copy_pointers n k first) start res end) at-start r }

module _ (n count : ℕ) (first : Cpu) (start : Sight) (i : ℕ) (cpu : Cpu) (now : Sight) where
  one-more : i < count → count - i ≡ suc (count - (i + 1))
  one-more h = omega arith

  pub copies_more : {after : Cpu} {mid : Sight} → Copies n count first start i cpu now → i < count → Is (copy_pointer cpu n) now (Ok after) mid → Copies n count first start (i + 1) after mid
  unfolding copy_pointers
  copies_more s h r = record { whole = λ res end rest. s.whole res end (rw (one-more h) (is_then _ r rest)) }

  pub copies_stop : {e : Stop} {end : Sight} → Copies n count first start i cpu now → i < count → Is (copy_pointer cpu n) now (Err e) end → Is (copy_pointers n count first) start (Err e) end
  unfolding copy_pointers
  copies_stop s h r = s.whole _ _ (rw (one-more h) (is_stop _ r))

  at-end : count ≤ i → count - i ≡ 0
  at-end h = omega arith

  pub copies_done : Copies n count first start i cpu now → count ≤ i → Is (copy_pointers n count first) start (Ok cpu) now
  unfolding copy_pointers
  copies_done s h = s.whole _ _ (rw (at-end h) is_give)

pub ruleset copy_rules = (is_then, is_stop, is_give, copies_none, copies_more, copies_stop, copies_done)
