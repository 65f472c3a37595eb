use Rattle.std.specs.Prelude.{◌/◌, ◌%◌, ◌^◌, ◌==◌, ◌||◌, if◌then◌else◌}
use Rattle.xe_ctx.specs.Definition.{ℕ, Bool, Cpu, Insn, Tree, ◌>>=◌, give, ax, cx, dx, bx, operand_of, opcode_register, reads, writes, read_operand, write_operand, ends}
use Rattle.xe_base.specs.Registers.{segment}
use Rattle.xe_base.specs.declared.segment.SegName.{SegName}
use Rattle.xe_base.specs.declared.segment.SegName.TheVariants.{Es, Cs, Ss, Ds, Fs, Gs}
use Rattle.xe_ctx.specs.Stack.{released, stack_load, push}
use Rattle.xe_ctx.specs.declared.operand.Operand.{Operand}
use Rattle.xe_ctx.specs.declared.operand.Operand.TheVariants.{Register}
use Rattle.xe_ctx.specs.declared.stop.Finish.{Finish}

-- Numbers on the stack (SDM volume 2, "PUSH", "POP", "PUSHA/PUSHAD" and "POPA/POPAD").

-- the numbers of four more general registers
abbrev pub sp : ℕ
sp = 4

abbrev pub bp : ℕ
bp = 5

abbrev pub si : ℕ
si = 6

abbrev pub di : ℕ
di = 7

-- 50 to 5F: the opcode names the register
abbrev pub is_by_opcode : ℕ → Bool
is_by_opcode opcode = opcode / 2 ^ 4 == 5

-- the operand of PUSH and POP: the register that the opcode names, or E
abbrev pub stack_operand : Insn → Cpu → Operand
stack_operand insn cpu = if is_by_opcode insn.opcode then Register (opcode_register insn) else operand_of insn cpu

-- 68 and 6A: PUSH of an immediate
abbrev pub is_immediate : ℕ → Bool
is_immediate opcode = opcode == 0x68 || opcode == 0x6A

-- the number that PUSH pushes, from before the stack pointer moves
unfoldable pub pushed_value : Insn → Cpu → Tree ℕ
pushed_value insn cpu = if is_immediate insn.opcode then give insn.imm else read_operand insn cpu (stack_operand insn cpu) insn.opsize

abbrev pub push_row : Insn → Cpu → Tree Finish
push_row insn cpu = do
  value ← pushed_value insn cpu
  after ← push cpu insn.opsize value
  ends insn after

-- POP: the stack pointer is behind the number before the operand's address is taken, and before a register is written
abbrev pub pop_row : Insn → Cpu → Tree Finish
pop_row insn cpu = do
  let n = insn.opsize
  value ← stack_load cpu 0 n
  after ← write_operand insn (released cpu n) (stack_operand insn (released cpu n)) n value
  ends insn after

-- ---- PUSH of a segment register

-- bits 5:3 of the opcode name the segment register, in the encodings of one and of two bytes
abbrev pub segment_named : ℕ → SegName
segment_named number = if number == 0 then Es else (if number == 1 then Cs else (if number == 2 then Ss else (if number == 3 then Ds else (if number == 4 then Fs else Gs))))

abbrev pub pushed_segment : Insn → SegName
pushed_segment insn = segment_named (insn.opcode / 2 ^ 3 % 2 ^ 3)

-- the selector, extended with zeros
abbrev pub pushseg_row : Insn → Cpu → Tree Finish
pushseg_row insn cpu = do
  after ← push cpu insn.opsize (segment cpu (pushed_segment insn)).sel
  ends insn after

-- ---- PUSHA and POPA

-- the registers after two numbers were pushed
unfoldable pub push_pair : Cpu → ℕ → ℕ → ℕ → Tree Cpu
push_pair cpu n first second = do
  after ← push cpu n first
  push after n second

-- AX CX DX BX SP BP SI DI, in this order, all as they were before the first push
abbrev pub pusha_row : Insn → Cpu → Tree Finish
pusha_row insn cpu = do
  let n = insn.opsize
  a ← push_pair cpu n (reads insn cpu n ax) (reads insn cpu n cx)
  b ← push_pair a n (reads insn cpu n dx) (reads insn cpu n bx)
  c ← push_pair b n (reads insn cpu n sp) (reads insn cpu n bp)
  after ← push_pair c n (reads insn cpu n si) (reads insn cpu n di)
  ends insn after

-- the registers after a number was popped to one of them
unfoldable pub pop_to : Insn → Cpu → ℕ → Tree Cpu
pop_to insn cpu register = do
  value ← stack_load cpu 0 insn.opsize
  give (writes insn (released cpu insn.opsize) insn.opsize register value)

unfoldable pub pop_pair : Insn → Cpu → ℕ → ℕ → Tree Cpu
pop_pair insn cpu first second = do
  after ← pop_to insn cpu first
  pop_to insn after second

-- the same in reverse; the number that would go to SP isn't read
abbrev pub popa_row : Insn → Cpu → Tree Finish
popa_row insn cpu = do
  a ← pop_pair insn cpu di si
  b ← pop_to insn a bp
  c ← pop_pair insn (released b insn.opsize) bx dx
  after ← pop_pair insn c cx ax
  ends insn after
