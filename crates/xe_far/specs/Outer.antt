use Rattle.std.specs.Prelude.{ℕ, Bool, not, ◌+◌, ◌/◌, ◌%◌, ◌^◌, ◌&&◌, nat_lt, if◌then◌else◌}
use Rattle.xe_base.specs.declared.cpu.Cpu.{Cpu}
use Rattle.xe_base.specs.declared.segment.Seg.{Seg}
use Rattle.xe_base.specs.declared.segment.SegName.TheVariants.{Ss}
use Rattle.xe_opmap.specs.declared.insn.Insn.{Insn}
use Rattle.xe_seg.specs.Attributes.{is_present, is_conforming}
use Rattle.xe_seg.specs.Loads.{rpl_of, is_null, null_segment, loaded, load}
use Rattle.xe_seg.specs.Targets.{target}
use Rattle.xe_seg.specs.declared.descriptor.Descriptor.{Descriptor}
use Rattle.xe_ctx.specs.Stack.{stack_above, with_stack_pointer}
use Rattle.xe_ctx.specs.Tree.{Tree, ◌>>=◌, give}
use Rattle.xe_desc.specs.DescriptorTable.{read_descriptor, mark_accessed}
use Rattle.xe_far.specs.CodeSegment.{or_raise}
use Rattle.xe_far.specs.Pointer.{pop_pointer}
use Rattle.xe_far.specs.declared.pointer.FarPointer.{FarPointer}

-- Far returns that load the stack, and what they leave of the data segments (SDM volume 3, "Returning from a Called Procedure"; volume 2,
-- "RET" and "IRET").

-- the registers with the code segment and the level that a return leads to
abbrev pub lands : Cpu → FarPointer → Descriptor → Cpu
lands cpu p d = record cpu { cs = loaded p.sel d; rip = p.offset; cpl = rpl_of p.sel }

-- the descriptor of SS. A null selector has none: one of zeros stands for it, of which nothing is read
unfoldable pub stack_descriptor : Cpu → ℕ → Tree Descriptor
stack_descriptor cpu sel = if is_null sel then give (record { raw = 0 }) else read_descriptor cpu sel

-- ---- the data segments of an outer return

-- present, of more privilege than the new level, and data or nonconforming code by its type alone
abbrev pub is_lost : ℕ → Seg → Bool
is_lost level s = is_present s.attr && (nat_lt (s.attr / 2 ^ 5 % 2 ^ 2) level && not (is_conforming s.attr))

abbrev pub left_of : ℕ → Seg → Seg
left_of level s = if is_lost level s then null_segment 0 else s

abbrev pub without_lost : Cpu → Cpu
without_lost cpu = record cpu {
  es = left_of cpu.cpl cpu.es;
  ds = left_of cpu.cpl cpu.ds;
  fs = left_of cpu.cpl cpu.fs;
  gs = left_of cpu.cpl cpu.gs;
}

-- a return to less privilege, and only that, takes them away
unfoldable pub with_data_left : ℕ → Cpu → Cpu
with_data_left level cpu = if nat_lt level cpu.cpl then without_lost cpu else cpu

-- ---- the return

-- the registers with the stack that was loaded: its pointer is written in the stack size of the new mode and SS, so many bytes further up
abbrev pub with_stack : Cpu → Seg → ℕ → ℕ → Cpu
with_stack cpu ss offset extra =
    let left : Cpu = record cpu { ss = ss } in
    with_stack_pointer left (stack_above left offset extra)

-- SP and SS are loaded above the bytes that were taken so far; SS is checked at the new level; then the target
unfoldable pub return_with_stack : Insn → Cpu → FarPointer → Descriptor → ℕ → ℕ → Tree Cpu
return_with_stack insn cpu p d taken extra = do
  stack ← pop_pointer insn cpu (taken + extra)
  e ← stack_descriptor cpu stack.sel
  ss ← or_raise (load (lands cpu p d) Ss stack.sel e)
  _ ← or_raise (target cpu (loaded p.sel d) p.offset)
  _ ← mark_accessed cpu p.sel d
  _ ← mark_accessed cpu stack.sel e
  give (with_stack (with_data_left cpu.cpl (lands cpu p d)) ss stack.offset extra)
