use Rattle.std.specs.Prelude.{ℕ, Bool, true, false, not, ◌+◌, ◌%◌, ◌^◌, ◌&&◌, nat_lt, nat_le, Result, Ok, Err, if◌then◌else◌}
use Rattle.xe_base.specs.Exceptions.{exception, stack_fault, general_protection}
use Rattle.xe_base.specs.Registers.{segment}
use Rattle.xe_base.specs.State.{mode_of, is_long, address_bits, is_canonical, seg_db}
use Rattle.xe_base.specs.declared.access.Fault.{Fault}
use Rattle.xe_base.specs.declared.cpu.Cpu.{Cpu}
use Rattle.xe_base.specs.declared.cpu.Mode.{Mode}
use Rattle.xe_base.specs.declared.cpu.Mode.TheVariants.{Real, Protected, Compat, Long}
use Rattle.xe_base.specs.declared.segment.Seg.{Seg}
use Rattle.xe_base.specs.declared.segment.SegName.{SegName}
use Rattle.xe_base.specs.declared.segment.SegName.TheVariants.{Es, Cs, Ss, Ds, Fs, Gs}
use Rattle.xe_seg.specs.Attributes.{is_present, is_expand_down, allows}
use Rattle.xe_seg.specs.Each.{each}

-- ---- linear addresses (SDM volume 3, "Logical and Linear Addresses" and "Segmentation in IA-32e Mode")

-- the segments whose base counts in 64-bit mode
abbrev pub has_base_in_long : SegName → Bool
has_base_in_long Fs = true
has_base_in_long Gs = true
has_base_in_long Es = false
has_base_in_long Cs = false
has_base_in_long Ss = false
has_base_in_long Ds = false

-- the base that counts: in 64-bit mode 0 for ES, CS, SS and DS
abbrev pub counted_base : Cpu → SegName → ℕ
counted_base cpu seg = if is_long cpu && not (has_base_in_long seg) then 0 else (segment cpu seg).base

-- base + offset, which wraps at 64 bits in 64-bit mode and at 32 elsewhere
abbrev pub linear_address : Cpu → SegName → ℕ → ℕ
linear_address cpu seg offset = (counted_base cpu seg + offset) % 2 ^ address_bits cpu

-- ---- the exceptions of a failed check

-- the vector of a segment: the stack fault for SS, general protection for the others
abbrev pub segment_vector : SegName → ℕ
segment_vector Ss = stack_fault
segment_vector Es = general_protection
segment_vector Cs = general_protection
segment_vector Ds = general_protection
segment_vector Fs = general_protection
segment_vector Gs = general_protection

-- #SS(0) for SS and #GP(0) for the others
abbrev pub segment_fault : Cpu → SegName → Fault
segment_fault cpu seg = exception (mode_of cpu) (segment_vector seg) 0

-- #GP(0)
abbrev pub protection_fault : Cpu → Fault
protection_fault cpu = exception (mode_of cpu) general_protection 0

-- ---- limits (SDM volume 3, "Limit Checking"). Offsets are whole numbers here: one past the last doesn't come back to 0

-- the greatest offset of data that grows downwards
abbrev pub highest : Seg → ℕ
highest s = if seg_db s then 0xFFFFFFFF else 0xFFFF

-- the offset lies in the segment: at or below the limit; in data that grows downwards above the limit, and at or below the greatest
abbrev pub is_inside : Seg → ℕ → Bool
is_inside s offset = if is_expand_down s.attr then nat_lt s.limit offset && nat_le offset (highest s) else nat_le offset s.limit

-- ---- the check of a data access: the linear address of n bytes at an offset of a segment, or the exception that the access raises

-- real mode (SDM volume 3, "Exceptions in Real-Address Mode"): the limit alone, upwards, whatever the attributes say
abbrev pub real_access : Cpu → SegName → ℕ → ℕ → Result ℕ Fault
real_access cpu seg offset n =
    if not (each n (λ i. nat_le (offset + i) (segment cpu seg).limit)) then Err (segment_fault cpu seg) else
    Ok (linear_address cpu seg offset)

-- protected and compatibility mode (SDM volume 3, "Limit Checking" and "Type Checking"): the segment is present; its type allows the
-- access; each byte lies in it. That the type doesn't allow it is general protection for SS too
abbrev pub protected_access : Cpu → SegName → ℕ → ℕ → Bool → Result ℕ Fault
protected_access cpu seg offset n write =
    if not (is_present (segment cpu seg).attr) then Err (segment_fault cpu seg) else
    (if not (allows (segment cpu seg).attr write) then Err (protection_fault cpu) else
    (if not (each n (λ i. is_inside (segment cpu seg) (offset + i))) then Err (segment_fault cpu seg) else
    Ok (linear_address cpu seg offset)))

-- 64-bit mode (SDM volume 3, "Limit Checking in 64-bit Mode"; volume 1, "Canonical Addressing"): each byte has a canonical address.
-- Neither P nor the type nor the limit is looked at
abbrev pub long_access : Cpu → SegName → ℕ → ℕ → Result ℕ Fault
long_access cpu seg offset n =
    if not (each n (λ i. is_canonical cpu (linear_address cpu seg (offset + i)))) then Err (segment_fault cpu seg) else
    Ok (linear_address cpu seg offset)

abbrev pub access_in : Mode → Cpu → SegName → ℕ → ℕ → Bool → Result ℕ Fault
access_in Real cpu seg offset n write = real_access cpu seg offset n
access_in Protected cpu seg offset n write = protected_access cpu seg offset n write
access_in Compat cpu seg offset n write = protected_access cpu seg offset n write
access_in Long cpu seg offset n write = long_access cpu seg offset n

unfoldable pub access : Cpu → SegName → ℕ → ℕ → Bool → Result ℕ Fault
access cpu seg offset n write = access_in (mode_of cpu) cpu seg offset n write
