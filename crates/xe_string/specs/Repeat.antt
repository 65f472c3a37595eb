use Rattle.std.specs.Prelude.{◌≡◌, ◌≤◌, ◌+◌, ◌-◌, ◌==◌, ◌&&◌, ◌||◌, if◌then◌else◌}
use Rattle.xe_base.specs.Calm.{Calm}
use Rattle.xe_base.specs.Registers.{next_rip}
use Rattle.xe_flags.specs.Status.{status_of}
use Rattle.xe_ctx.specs.Definition.{ℕ, Bool, true, false, not, Cpu, Insn, Tree, ◌>>=◌, give, cx, reads, writes, ends_with, ends}
use Rattle.xe_ctx.specs.declared.stop.Finish.{Finish}
use Rattle.xe_string.specs.Element.{element}
use Rattle.xe_string.specs.Prefix.{repe, is_repeated}
use Rattle.xe_string.specs.declared.element.StringOp.{StringOp}
use Rattle.xe_string.specs.declared.element.StringOp.TheVariants.{Movs, Cmps, Stos, Lods, Scas, Ins, Outs}

-- String instructions as a whole: one step does one element (SDM volume 2, "REP/REPE/REPZ/REPNE/REPNZ").

-- how many elements are left: rCX of the address size
abbrev pub count : Insn → Cpu → ℕ
count insn cpu = reads insn cpu insn.adsize cx

abbrev pub with_count : Insn → Cpu → ℕ → Cpu
with_count insn cpu left = writes insn cpu insn.adsize cx left

-- its elements are compared, so that ZF too ends it
abbrev pub compares : StringOp → Bool
compares Movs = false
compares Cmps = true
compares Stos = false
compares Lods = false
compares Scas = true
compares Ins = false
compares Outs = false

-- ZF doesn't end it: REPE goes on while it is 1, REPNE while it is 0
abbrev pub zero_allows : Insn → ℕ → Bool
zero_allows insn flags = if insn.pre.rep == repe then (status_of flags).zero else not (status_of flags).zero

-- it goes on after an element, with so many left
abbrev pub goes_on : StringOp → Insn → ℕ → ℕ → Bool
goes_on op insn left flags = not (left == 0) && (not (compares op) || zero_allows insn flags)

-- the step's end after an element of a repeated one, with so many left; the instruction pointer stays on the instruction while it goes on
abbrev pub counted : StringOp → Insn → Cpu → ℕ → Finish
counted op insn cpu left =
    if goes_on op insn left cpu.rflags then record { cpu = with_count insn cpu left; more = true; retire = 0 }
    else ends_with insn (with_count insn cpu left)

-- the step's end after an element, with the count before it
abbrev pub after_element : StringOp → Insn → ℕ → Cpu → Finish
after_element op insn before cpu = if is_repeated insn then counted op insn cpu (before - 1) else ends_with insn cpu

-- a count of 0 is looked at before all else, and then nothing is checked
abbrev pub is_over : Insn → Cpu → Bool
is_over insn cpu = is_repeated insn && count insn cpu == 0

-- the whole of a step
abbrev pub repeated : StringOp → Insn → Cpu → Tree Finish
repeated op insn cpu =
    if is_over insn cpu then ends insn cpu
    else element op insn cpu >>= (λ after. give (after_element op insn (count insn cpu) after))

-- A string instruction ends its step calmly: general registers, instruction pointer and flags alone change. The next instruction is the one behind it, or
-- the same once more where elements are left.
pub record EndsElement (insn : Insn) (old : Cpu) (f : Finish) : Type 0 where
  pub calm : Calm old f.cpu
  pub next : f.cpu.rip ≡ (if f.more then old.rip else next_rip old insn.len)
  pub repeats : f.more ≡ true → is_repeated insn ≡ true
  pub retire : f.retire ≡ 0

-- While it goes on, elements are left, one less than before. So a repeated instruction takes at most as many steps as its count says.
pub record CountsDown (insn : Insn) (old : Cpu) (f : Finish) : Type 0 where
  pub left : f.more ≡ true → 1 ≤ count insn f.cpu
  pub less : f.more ≡ true → count insn f.cpu + 1 ≡ count insn old
