use Rattle.std.specs.Prelude.{◌+◌, ◌*◌, ◌/◌, ◌%◌, ◌^◌, ◌==◌, ◌&&◌, if◌then◌else◌}
use Rattle.xe_ctx.specs.Definition.{ℕ, Bool, true, false, not, Cpu, Insn, Tree, ◌>>=◌, fault, give, load_for_write, store, ax, bx, cx, dx, size_by_opcode, operand_of, reg_of, reads, writes, read_for_write, write_operand, ends}
use Rattle.xe_base.specs.Exceptions.{plain_exception, exception, invalid_opcode, general_protection}
use Rattle.xe_base.specs.State.{mode_of}
use Rattle.xe_base.specs.declared.segment.SegName.{SegName}
use Rattle.xe_base.specs.declared.segment.SegName.TheVariants.{Es, Cs, Ss, Ds, Fs, Gs}
use Rattle.xe_flags.specs.Arithmetic.{alu_word, alu_flags}
use Rattle.xe_flags.specs.Status.{with_zero}
use Rattle.xe_flags.specs.declared.arithmetic.AluOp.TheVariants.{Add, Cmp}
use Rattle.xe_ctx.specs.declared.operand.Operand.{Operand}
use Rattle.xe_ctx.specs.declared.operand.Operand.TheVariants.{Register, Memory}
use Rattle.xe_ctx.specs.declared.stop.Finish.{Finish}
use Rattle.xe_move.specs.Sized.{low, with_flags}

-- Exchanges that compute or compare (SDM volume 2, "XADD", "CMPXCHG" and "CMPXCHG8B/CMPXCHG16B").

-- XADD: G gets what E was, and then E the sum
abbrev pub xadd_row : Insn → Cpu → Tree Finish
xadd_row insn cpu = do
  let n = size_by_opcode insn
  let b = low n (reads insn cpu n (reg_of insn))
  a ← read_for_write insn cpu (operand_of insn cpu) n
  after ← write_operand insn (writes insn (with_flags cpu (alu_flags (8 * n) Add (low n a) b cpu.rflags)) n (reg_of insn) a) (operand_of insn cpu) n (alu_word (8 * n) Add (low n a) b cpu.rflags)
  ends insn after

-- a number goes back to where it was read: memory is written, a register stays
unfoldable pub put_back : Insn → Cpu → Operand → ℕ → ℕ → Tree Cpu
put_back insn cpu (Register r) n value = give cpu
put_back insn cpu (Memory seg offset) n value = write_operand insn cpu (Memory seg offset) n value

-- CMPXCHG after the comparison: equal, E gets G; else the accumulator gets E, and E keeps its number
unfoldable pub compared : Insn → Cpu → Operand → ℕ → ℕ → Tree Cpu
compared insn cpu operand n value =
    if reads insn cpu n ax == value then write_operand insn cpu operand n (reads insn cpu n (reg_of insn))
    else put_back insn (writes insn cpu n ax value) operand n value

abbrev pub cmpxchg_row : Insn → Cpu → Tree Finish
cmpxchg_row insn cpu = do
  let n = size_by_opcode insn
  b ← read_for_write insn cpu (operand_of insn cpu) n
  after ← compared insn (with_flags cpu (alu_flags (8 * n) Cmp (low n (reads insn cpu n ax)) (low n b) cpu.rflags)) (operand_of insn cpu) n b
  ends insn after

-- ---- CMPXCHG8B, and CMPXCHG16B with REX.W

-- the bytes of each half
abbrev pub half_size : Insn → ℕ
half_size insn = if insn.opsize == 8 then 8 else 4

-- two halves as one number
abbrev pub joined : ℕ → ℕ → ℕ → ℕ
joined n high word = low n high * 2 ^ (8 * n) + low n word

-- rDX:rAX and rCX:rBX
abbrev pub expected : Insn → Cpu → ℕ
expected insn cpu = let n = half_size insn in joined n (reads insn cpu n dx) (reads insn cpu n ax)

abbrev pub replacement : Insn → Cpu → ℕ
replacement insn cpu = let n = half_size insn in joined n (reads insn cpu n cx) (reads insn cpu n bx)

-- what is stored, where memory held this number
abbrev pub pair_stored : Insn → Cpu → ℕ → ℕ
pair_stored insn cpu old = if old == expected insn cpu then replacement insn cpu else old

-- the registers then: ZF says whether the numbers were equal; where they weren't, rDX:rAX gets what memory holds
abbrev pub pair_loaded : Insn → Cpu → ℕ → Cpu
pair_loaded insn cpu old =
    let n = half_size insn in
    if old == expected insn cpu then with_flags cpu (with_zero cpu.rflags true)
    else writes insn (writes insn (with_flags cpu (with_zero cpu.rflags false)) n ax (old % 2 ^ (8 * n))) n dx (old / 2 ^ (8 * n))

abbrev pub pair_row : Insn → Cpu → SegName → ℕ → Tree Finish
pair_row insn cpu seg offset = do
  old ← load_for_write seg offset (2 * half_size insn)
  _ ← store seg offset (2 * half_size insn) (pair_stored insn cpu old)
  ends insn (pair_loaded insn cpu old)

-- in 64-bit code, where alone there are 16 bytes, FS and GS have a base
abbrev pub long_base : Cpu → SegName → ℕ
long_base cpu Es = 0
long_base cpu Cs = 0
long_base cpu Ss = 0
long_base cpu Ds = 0
long_base cpu Fs = cpu.fs.base
long_base cpu Gs = cpu.gs.base

-- 16 bytes lie at a multiple of 16, before anything else is looked at
abbrev pub is_misaligned : Insn → Cpu → SegName → ℕ → Bool
is_misaligned insn cpu seg offset = insn.opsize == 8 && not ((long_base cpu seg + offset) % 2 ^ 64 % 16 == 0)

-- a register has no such form: it is undefined
abbrev pub pair_at : Insn → Cpu → Operand → Tree Finish
pair_at insn cpu (Register r) = fault (plain_exception invalid_opcode)
pair_at insn cpu (Memory seg offset) = if is_misaligned insn cpu seg offset then fault (exception (mode_of cpu) general_protection 0) else pair_row insn cpu seg offset

abbrev pub cmpxchg8b_row : Insn → Cpu → Tree Finish
cmpxchg8b_row insn cpu = pair_at insn cpu (operand_of insn cpu)
