use Rattle.std.specs.Prelude.{ℕ, Bool, not, ◌+◌, ◌-◌, ◌*◌, ◌/◌, ◌%◌, ◌==◌, ◌&&◌, ◌||◌, nat_lt, Result, Ok, Err, if◌then◌else◌}
use Rattle.xe_base.specs.Bits.{bit}
use Rattle.xe_base.specs.Exceptions.{exception, stack_fault, general_protection, segment_not_present}
use Rattle.xe_base.specs.Registers.{segment}
use Rattle.xe_base.specs.State.{mode_of, is_long}
use Rattle.xe_base.specs.declared.access.Fault.{Fault}
use Rattle.xe_base.specs.declared.cpu.Cpu.{Cpu}
use Rattle.xe_base.specs.declared.cpu.Mode.{Mode}
use Rattle.xe_base.specs.declared.cpu.Mode.TheVariants.{Real, Protected, Compat, Long}
use Rattle.xe_base.specs.declared.segment.Seg.{Seg}
use Rattle.xe_base.specs.declared.segment.SegName.{SegName}
use Rattle.xe_base.specs.declared.segment.SegName.TheVariants.{Es, Cs, Ss, Ds, Fs, Gs}
use Rattle.xe_seg.specs.Accesses.{protection_fault}
use Rattle.xe_seg.specs.Attributes.{is_conforming, is_readable, is_writable}
use Rattle.xe_seg.specs.Descriptors.{base_of, limit_of, attr_of, s_of, dpl_of, present_of}
use Rattle.xe_seg.specs.declared.descriptor.Descriptor.{Descriptor}

-- The load of a data or stack segment register from a selector and its descriptor (SDM volume 3, "Segment Selectors" and "Privilege
-- Level Checking When Accessing Data Segments"; volume 2, "MOV"). The order of the checks, and the exception of each, are this project's choice.

-- RPL: bits 1:0 of a selector
abbrev pub rpl_of : ℕ → ℕ
rpl_of sel = sel % 4

-- bits 15:2 are 0
abbrev pub is_null : ℕ → Bool
is_null sel = sel / 4 == 0

-- an exception whose error code is the selector with bits 1:0 cleared
abbrev pub selector_fault : Cpu → ℕ → ℕ → Fault
selector_fault cpu vector sel = exception (mode_of cpu) vector (sel - rpl_of sel)

-- the register after the load of a null selector, which keeps its RPL
abbrev pub null_segment : ℕ → Seg
null_segment sel = record { sel = sel; base = 0; limit = 0; attr = 0 }

-- the attributes with the accessed bit, type bit 0, set
abbrev pub accessed : ℕ → ℕ
accessed attr = if bit attr 0 then attr else attr + 1

-- the register after the load of a code or data segment
abbrev pub loaded : ℕ → Descriptor → Seg
loaded sel d = record { sel = sel; base = base_of d; limit = limit_of d; attr = accessed (attr_of d) }

-- the register after a load in real mode, where limit and attributes stay (SDM volume 3, "Address Translation in Real-Address Mode")
abbrev pub real_segment : Seg → ℕ → Seg
real_segment old sel = record old { sel = sel; base = sel * 16 }

-- DS, ES, FS and GS: data, or code that can be read; nobody of lower privilege, but for conforming code; present
abbrev pub data_load : Cpu → ℕ → Descriptor → Result Seg Fault
data_load cpu sel d =
    if is_null sel then Ok (null_segment sel) else
    (if not (s_of d) || not (is_readable (attr_of d)) then Err (selector_fault cpu general_protection sel) else
    (if not (is_conforming (attr_of d)) && (nat_lt (dpl_of d) (rpl_of sel) || nat_lt (dpl_of d) cpu.cpl) then Err (selector_fault cpu general_protection sel) else
    (if not (present_of d) then Err (selector_fault cpu segment_not_present sel) else
    Ok (loaded sel d))))

-- a null selector serves as a stack in 64-bit mode below level 3, with the RPL of the level
abbrev pub is_null_stack : Cpu → ℕ → Bool
is_null_stack cpu sel = is_long cpu && (nat_lt cpu.cpl 3 && (rpl_of sel == cpu.cpl))

-- SS: writable data of the current level, by RPL and DPL; present
abbrev pub stack_load : Cpu → ℕ → Descriptor → Result Seg Fault
stack_load cpu sel d =
    if is_null sel then (if is_null_stack cpu sel then Ok (null_segment sel) else Err (protection_fault cpu)) else
    (if not (rpl_of sel == cpu.cpl) then Err (selector_fault cpu general_protection sel) else
    (if not (s_of d) || not (is_writable (attr_of d)) then Err (selector_fault cpu general_protection sel) else
    (if not (dpl_of d == cpu.cpl) then Err (selector_fault cpu general_protection sel) else
    (if not (present_of d) then Err (selector_fault cpu stack_fault sel) else
    Ok (loaded sel d)))))

-- outside real mode, by the register. CS isn't loaded so
abbrev pub protected_load : Cpu → SegName → ℕ → Descriptor → Result Seg Fault
protected_load cpu Ss sel d = stack_load cpu sel d
protected_load cpu Es sel d = data_load cpu sel d
protected_load cpu Cs sel d = data_load cpu sel d
protected_load cpu Ds sel d = data_load cpu sel d
protected_load cpu Fs sel d = data_load cpu sel d
protected_load cpu Gs sel d = data_load cpu sel d

abbrev pub load_in : Mode → Cpu → SegName → ℕ → Descriptor → Result Seg Fault
load_in Real cpu seg sel d = Ok (real_segment (segment cpu seg) sel)
load_in Protected cpu seg sel d = protected_load cpu seg sel d
load_in Compat cpu seg sel d = protected_load cpu seg sel d
load_in Long cpu seg sel d = protected_load cpu seg sel d

unfoldable pub load : Cpu → SegName → ℕ → Descriptor → Result Seg Fault
load cpu seg sel d = load_in (mode_of cpu) cpu seg sel d
