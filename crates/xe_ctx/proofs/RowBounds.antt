use Rattle.std.proofs.Common.{ℕ, ◌≤◌, Bool, true, false, subst, sym, inl, inr, arith, lit≤, if◌then◌else◌}
use Rattle.std.proofs.lemmas.Bool.{or_cases, eqb-true}
use Rattle.xe_base.specs.State.{is_long, seg_db}
use Rattle.xe_base.specs.declared.cpu.Cpu.{Cpu}
use Rattle.xe_opmap.specs.Encoding.{IsSize}
use Rattle.xe_opmap.specs.declared.insn.Insn.{Insn}
use Rattle.xe_ctx.specs.Bounds.{TakesAtMost}
use Rattle.xe_ctx.specs.Chunks.{most}
use Rattle.xe_ctx.specs.Operand.{read_operand, read_for_write, write_operand}
use Rattle.xe_ctx.specs.Ports.{tss_word, by_bitmap, port_allowed, asks_bitmap}
use Rattle.xe_ctx.specs.Privilege.{or_protection}
use Rattle.xe_ctx.specs.Stack.{stack_size, stack_load, push}
use Rattle.xe_ctx.specs.Tree.{◌>>=◌, load, load_for_write, store, load_sys}
use Rattle.xe_ctx.specs.declared.operand.Operand.{Operand}
use Rattle.xe_ctx.specs.declared.operand.Operand.TheVariants.{Register, Memory}
use Rattle.xe_ctx.proofs.BoundLaws.{takes_then, takes_if}

-- What the parts that rows share take at most: requests, accesses and bytes of RAM touched.

-- ---- sizes of operands

pub record Small (n : ℕ) : Type 0 where
  pub chunks : most n ≤ 4
  pub bytes : n ≤ 8

pub small-1 : Small 1
small-1 = record { chunks = lit≤ tt; bytes = lit≤ tt }

pub small-2 : Small 2
small-2 = record { chunks = lit≤ tt; bytes = lit≤ tt }

pub small-4 : Small 4
small-4 = record { chunks = lit≤ tt; bytes = lit≤ tt }

pub small-8 : Small 8
small-8 = record { chunks = lit≤ tt; bytes = lit≤ tt }

pub small-of : (n : ℕ) → IsSize n → Small n
small-of n h =
    elim (or_cases _ _ h) [
      | inl h ↦ elim (or_cases _ _ h) [
        | inl h ↦ subst Small (sym (eqb-true n 2 h)) small-2
        | inr h ↦ subst Small (sym (eqb-true n 4 h)) small-4
      ]
      | inr h ↦ subst Small (sym (eqb-true n 8 h)) small-8
    ]

pub small-if : (choice : Bool) (a b : ℕ) → Small a → Small b → Small (if choice then a else b)
small-if true a b s t = s
small-if false a b s t = t

-- ---- the parts of a row

module _ (insn : Insn) (cpu : Cpu) where
  pub read : (operand : Operand) (n : ℕ) → Small n → TakesAtMost 1 4 10 (read_operand insn cpu operand n)
  unfolding read_operand load
  read (Register r) n s = tt
  read (Memory seg offset) n s = (record { one = lit≤ tt; accesses_ = s.chunks; bytes_ = lit≤ tt }, λ a. tt)

  pub fetch : (operand : Operand) (n : ℕ) → Small n → TakesAtMost 1 4 10 (read_for_write insn cpu operand n)
  unfolding read_for_write load_for_write
  fetch (Register r) n s = tt
  fetch (Memory seg offset) n s = (record { one = lit≤ tt; accesses_ = s.chunks; bytes_ = lit≤ tt }, λ a. tt)

  pub write : (after : Cpu) (operand : Operand) (n value : ℕ) → Small n → TakesAtMost 1 4 18 (write_operand insn after operand n value)
  unfolding write_operand store ◌>>=◌
  write after (Register r) n value s = tt
  write after (Memory seg offset) n value s = (let b = s.bytes in record { one = lit≤ tt; accesses_ = s.chunks; bytes_ = omega arith }, λ a. tt)

-- ---- privilege and the stack

pub takes_protection : (cpu : Cpu) (holds : Bool) → TakesAtMost 0 0 0 (or_protection cpu holds)
unfolding or_protection
takes_protection cpu holds = takes_if 0 0 0 holds _ _ tt tt

pub small_stack : (cpu : Cpu) → Small (stack_size cpu)
small_stack cpu = small-if (is_long cpu) 8 _ small-8 (small-if (seg_db cpu.ss) 4 2 small-4 small-2)

pub takes_stack_load : (cpu : Cpu) (above n : ℕ) → Small n → TakesAtMost 1 4 10 (stack_load cpu above n)
unfolding stack_load load
takes_stack_load cpu above n s = (record { one = lit≤ tt; accesses_ = s.chunks; bytes_ = lit≤ tt }, λ a. tt)

pub takes_push : (cpu : Cpu) (n value : ℕ) → Small n → TakesAtMost 1 4 18 (push cpu n value)
unfolding push store ◌>>=◌
takes_push cpu n value s = (let b = s.bytes in record { one = lit≤ tt; accesses_ = s.chunks; bytes_ = omega arith }, λ a. tt)

-- ---- ports

takes-word : (cpu : Cpu) (at : ℕ) → TakesAtMost 1 2 10 (tss_word cpu at)
unfolding load_sys
takes-word cpu at = (record { one = lit≤ tt; accesses_ = lit≤ tt; bytes_ = lit≤ tt }, λ a. tt)

takes-bitmap : (cpu : Cpu) (port size : ℕ) → TakesAtMost 2 4 20 (by_bitmap cpu port size)
unfolding by_bitmap
takes-bitmap cpu port size = takes_then _ 2 4 20 (λ x. takes_then _ 1 2 10 (λ y. takes_then _ 1 2 10 (λ z. takes_then _ 0 0 0 (λ u. takes_protection cpu _) 1 2 10 _ (takes-word cpu _)) 0 0 0 _ (takes_protection cpu _)) 1 2 10 _ (takes-word cpu _)) 0 0 0 _ (takes_protection cpu _)

pub takes_port_allowed : (cpu : Cpu) (port size : ℕ) → TakesAtMost 2 4 20 (port_allowed cpu port size)
unfolding port_allowed
takes_port_allowed cpu port size = takes_if 2 4 20 (asks_bitmap cpu) _ _ (takes-bitmap cpu port size) tt
