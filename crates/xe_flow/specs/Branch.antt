use Rattle.std.specs.Prelude.{◌+◌, ◌*◌, ◌%◌, ◌^◌, Result, Ok, Err, if◌then◌else◌}
use Rattle.xe_ctx.specs.Definition.{ℕ, Bool, false, Fault, Cpu, Insn, Tree, ◌>>=◌, give, fault, operand_of, read_operand, ends}
use Rattle.xe_base.specs.Registers.{next_rip}
use Rattle.xe_flags.specs.Conditions.{condition}
use Rattle.xe_seg.specs.Targets.{target}
use Rattle.xe_ctx.specs.Operand.{is_some}
use Rattle.xe_ctx.specs.Stack.{released, stack_load, push}
use Rattle.xe_ctx.specs.declared.stop.Finish.{Finish}

-- Near jumps, calls and returns (SDM volume 2, "JMP", "CALL", "RET" and "Jcc").

-- goes on where a check passes, else raises what it found
abbrev pub or_fault : Result (Unit {0}) Fault → Tree (Unit {0})
or_fault (Ok u) = give tt
or_fault (Err f) = fault f

-- code can go on at this offset of the code segment; else #GP(0)
unfoldable pub can_go_to : Cpu → ℕ → Tree (Unit {0})
can_go_to cpu offset = or_fault (target cpu cpu.cs offset)

-- the low bytes of an offset, as many as the operand has
abbrev pub near : Insn → ℕ → ℕ
near insn offset = offset % 2 ^ (8 * insn.opsize)

-- the immediate counts from the next instruction on
abbrev pub near_target : Insn → Cpu → ℕ
near_target insn cpu = near insn (next_rip cpu insn.len + insn.imm)

-- the instruction finishes with these registers, and code goes on elsewhere
abbrev pub jumps_to : Cpu → ℕ → Finish
jumps_to cpu offset = record { cpu = record cpu { rip = offset }; more = false; retire = 0 }

-- a jump by an immediate where it is taken; otherwise the next instruction comes, and nothing is checked
abbrev pub jump_if : Bool → Insn → Cpu → Cpu → Tree Finish
jump_if taken insn cpu after =
    if taken then can_go_to cpu (near_target insn cpu) >>= (λ _. give (jumps_to after (near_target insn cpu)))
    else ends insn after

-- Jcc: the condition of the opcode's last four bits
abbrev pub jcc_row : Insn → Cpu → Tree Finish
jcc_row insn cpu = jump_if (condition (insn.opcode % 16) cpu.rflags) insn cpu cpu

-- where CALL and JMP go: by the immediate, or to the offset in E
unfoldable pub destination : Insn → Cpu → Tree ℕ
destination insn cpu =
    if is_some insn.modrm then read_operand insn cpu (operand_of insn cpu) insn.opsize
    else give (near_target insn cpu)

abbrev pub jmp_row : Insn → Cpu → Tree Finish
jmp_row insn cpu = do
  offset ← destination insn cpu
  _ ← can_go_to cpu (near insn offset)
  give (jumps_to cpu (near insn offset))

-- CALL: the offset of the next instruction is pushed once the target is known to be one
abbrev pub call_row : Insn → Cpu → Tree Finish
call_row insn cpu = do
  offset ← destination insn cpu
  _ ← can_go_to cpu (near insn offset)
  after ← push cpu insn.opsize (next_rip cpu insn.len)
  give (jumps_to after (near insn offset))

-- RET: the offset is popped, and then so many bytes more are released
abbrev pub ret_row : Insn → Cpu → Tree Finish
ret_row insn cpu = do
  offset ← stack_load cpu 0 insn.opsize
  _ ← can_go_to cpu (near insn offset)
  give (jumps_to (released cpu (insn.opsize + insn.imm % 2 ^ 16)) (near insn offset))
