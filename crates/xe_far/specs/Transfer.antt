use Rattle.std.specs.Prelude.{if◌then◌else◌}
use Rattle.xe_ctx.specs.Definition.{ℕ, false, Cpu, Insn, Tree, ◌>>=◌, give}
use Rattle.xe_base.specs.Registers.{next_rip}
use Rattle.xe_base.specs.State.{mode_of}
use Rattle.xe_base.specs.declared.segment.Seg.{Seg}
use Rattle.xe_seg.specs.Loads.{real_segment}
use Rattle.xe_seg.specs.Targets.{target}
use Rattle.xe_ctx.specs.Privilege.{is_real_mode}
use Rattle.xe_ctx.specs.Stack.{push}
use Rattle.xe_ctx.specs.declared.stop.Finish.{Finish}
use Rattle.xe_desc.specs.DescriptorTable.{mark_accessed}
use Rattle.xe_far.specs.CodeSegment.{or_raise, called_segment, code_to_call}
use Rattle.xe_far.specs.Pointer.{far_pointer}
use Rattle.xe_far.specs.declared.pointer.FarPointer.{FarPointer}

-- Far calls and jumps (SDM volume 2, "CALL" and "JMP").

-- code goes on in this segment, at this offset
abbrev pub goes_to : Cpu → Seg → ℕ → Cpu
goes_to cpu cs offset = record cpu { cs = cs; rip = offset }

-- the instruction is done, and these are the registers
abbrev pub ends_at : Cpu → Finish
ends_at cpu = record { cpu = cpu; more = false; retire = 0 }

-- CS and then the next RIP are pushed
unfoldable pub push_return : Insn → Cpu → Tree Cpu
push_return insn cpu = do
  pushed ← push cpu insn.opsize cpu.cs.sel
  push pushed insn.opsize (next_rip cpu insn.len)

-- ---- JMP

-- in real mode the target lies within the limit that CS has, and keeps
unfoldable pub real_jump : Cpu → FarPointer → Tree Cpu
real_jump cpu p = do
  _ ← or_raise (target cpu cpu.cs p.offset)
  give (goes_to cpu (real_segment cpu.cs p.sel) p.offset)

unfoldable pub protected_jump : Cpu → FarPointer → Tree Cpu
protected_jump cpu p = do
  d ← code_to_call cpu p
  _ ← mark_accessed cpu p.sel d
  give (goes_to cpu (called_segment cpu p.sel d) p.offset)

unfoldable pub jump : Cpu → FarPointer → Tree Cpu
jump cpu p = if is_real_mode (mode_of cpu) then real_jump cpu p else protected_jump cpu p

abbrev pub jmpf_row : Insn → Cpu → Tree Finish
jmpf_row insn cpu = do
  p ← far_pointer insn cpu
  after ← jump cpu p
  give (ends_at after)

-- ---- CALL: all checks, then the pushes on the stack as it is

unfoldable pub real_call : Insn → Cpu → FarPointer → Tree Cpu
real_call insn cpu p = do
  _ ← or_raise (target cpu cpu.cs p.offset)
  pushed ← push_return insn cpu
  give (goes_to pushed (real_segment cpu.cs p.sel) p.offset)

unfoldable pub protected_call : Insn → Cpu → FarPointer → Tree Cpu
protected_call insn cpu p = do
  d ← code_to_call cpu p
  pushed ← push_return insn cpu
  _ ← mark_accessed cpu p.sel d
  give (goes_to pushed (called_segment cpu p.sel d) p.offset)

unfoldable pub call : Insn → Cpu → FarPointer → Tree Cpu
call insn cpu p = if is_real_mode (mode_of cpu) then real_call insn cpu p else protected_call insn cpu p

abbrev pub callf_row : Insn → Cpu → Tree Finish
callf_row insn cpu = do
  p ← far_pointer insn cpu
  after ← call insn cpu p
  give (ends_at after)
