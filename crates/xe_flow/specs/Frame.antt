use Rattle.std.specs.Prelude.{zero, suc, ◌-◌, ◌%◌, ◌^◌, ◌==◌, if◌then◌else◌}
use Rattle.xe_ctx.specs.Definition.{ℕ, true, Cpu, Insn, Tree, ◌>>=◌, give, load, probe, reads, writes, ends}
use Rattle.xe_base.specs.Registers.{with_register}
use Rattle.xe_base.specs.declared.segment.SegName.TheVariants.{Ss}
use Rattle.xe_ctx.specs.Stack.{stack_size, stack_offset, stack_pointer, stack_below, with_stack_pointer, released, stack_load, push}
use Rattle.xe_ctx.specs.declared.stop.Finish.{Finish}
use Rattle.xe_flow.specs.Stack.{sp, bp}

-- Stack frames (SDM volume 2, "ENTER" and "LEAVE"; volume 1, "Procedure Calls for Block-Structured Languages").

-- how many frame pointers the new frame gets: one for each level of nesting, of which there are at most 31
abbrev pub nesting : Insn → ℕ
nesting insn = insn.imm2 % 32

-- n bytes below the frame pointer
abbrev pub frame_below : Cpu → ℕ → ℕ
frame_below cpu n = stack_below cpu (stack_offset cpu bp) n

-- the registers with another frame pointer, of which as many bytes are written as the stack size has
abbrev pub with_frame_pointer : Cpu → ℕ → Cpu
with_frame_pointer cpu offset = with_register cpu (stack_size cpu) true bp offset

-- the frame pointer goes down by n bytes, and the number there is pushed
unfoldable pub copy_pointer : Cpu → ℕ → Tree Cpu
copy_pointer cpu n = do
  value ← load Ss (frame_below cpu n) n
  push (with_frame_pointer cpu (frame_below cpu n)) n value

-- so many times
unfoldable pub copy_pointers : ℕ → ℕ → Cpu → Tree Cpu
copy_pointers n zero cpu = give cpu
copy_pointers n (suc count) cpu = copy_pointer cpu n >>= copy_pointers n count

-- a frame within others: the pointers of all that enclose it, and then its own
unfoldable pub nest : Cpu → ℕ → ℕ → ℕ → Tree Cpu
nest cpu n level frame =
    if level == 0 then give cpu
    else copy_pointers n (level - 1) cpu >>= (λ copied. push copied n frame)

-- the stack pointer of the new frame, above which so many bytes are kept for the procedure
abbrev pub frame_end : Insn → Cpu → ℕ
frame_end insn cpu = stack_below cpu (stack_pointer cpu) (insn.imm % 2 ^ 16)

-- ENTER. The frame begins where the old frame pointer was pushed; last comes the check that the new top of the stack could be written
abbrev pub enter_row : Insn → Cpu → Tree Finish
enter_row insn cpu = do
  let n = insn.opsize
  pushed ← push cpu n (reads insn cpu n bp)
  nested ← nest pushed n (nesting insn) (reads insn pushed n sp)
  let framed = writes insn nested n bp (reads insn pushed n sp)
  _ ← probe Ss (frame_end insn framed) 1
  ends insn (with_stack_pointer framed (frame_end insn framed))

-- the registers with the stack pointer at the frame pointer
abbrev pub unwound : Cpu → Cpu
unwound cpu = with_stack_pointer cpu (stack_offset cpu bp)

-- LEAVE
abbrev pub leave_row : Insn → Cpu → Tree Finish
leave_row insn cpu = do
  let n = insn.opsize
  value ← stack_load (unwound cpu) 0 n
  ends insn (writes insn (released (unwound cpu) n) n bp value)
