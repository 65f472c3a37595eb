use Rattle.std.specs.Prelude.{ℕ, Bool, true, false, ◌≡◌, ◌<◌, ◌≤◌, ◌+◌, ◌-◌, ◌/◌, ◌%◌, ◌^◌, ◌⊎◌, ◌↔◌, Ok, Err, if◌then◌else◌}
use Rattle.xe_base.specs.Bits.{bit}
use Rattle.xe_base.specs.Exceptions.{exception, stack_fault, general_protection}
use Rattle.xe_base.specs.Registers.{segment}
use Rattle.xe_base.specs.State.{mode_of, is_long, linear_bits, is_canonical, seg_db}
use Rattle.xe_base.specs.declared.access.Fault.{Fault}
use Rattle.xe_base.specs.declared.cpu.Cpu.{Cpu}
use Rattle.xe_base.specs.declared.cpu.Mode.TheVariants.{Real, Protected, Compat, Long}
use Rattle.xe_base.specs.declared.segment.Seg.{Seg}
use Rattle.xe_base.specs.declared.segment.SegName.{SegName}
use Rattle.xe_base.specs.declared.segment.SegName.TheVariants.{Ss}
use Rattle.xe_seg.specs.Accesses.{access, linear_address}
use Rattle.xe_seg.specs.Attributes.{is_expand_down}
use Rattle.xe_seg.specs.Descriptors.{attr_of, kind_of, s_of, dpl_of, present_of, l_of, db_of, g_of}
use Rattle.xe_seg.specs.Targets.{target}
use Rattle.xe_seg.specs.declared.descriptor.Descriptor.{Descriptor}

-- What the checks come to, said of each byte and of single bits.

-- a byte at this offset lies in the segment
pub record LiesIn (s : Seg) (offset : ℕ) : Type 0 where
  pub up : is_expand_down s.attr ≡ false → offset ≤ s.limit
  pub down : is_expand_down s.attr ≡ true → s.limit < offset
  pub width : is_expand_down s.attr ≡ true → offset < 2 ^ (if seg_db s then 32 else 16)

-- what protected and compatibility mode ask of an access: P; a write only to data (type bit 3 is 0) that is writable (bit 1), a read of
-- code (bit 3) only where it is readable (bit 1); and each byte lies in the segment
pub record Passes (s : Seg) (offset n : ℕ) (write : Bool) : Type 0 where
  pub present : bit s.attr 7 ≡ true
  pub data_written : write ≡ true → bit s.attr 3 ≡ false
  pub writable : write ≡ true → bit s.attr 1 ≡ true
  pub readable : write ≡ false → bit s.attr 3 ≡ true → bit s.attr 1 ≡ true
  pub inside : (i : ℕ) → i < n → LiesIn s (offset + i)

abbrev pub ProtectedAccesses : Type 0
ProtectedAccesses = (cpu : Cpu) (seg : SegName) (offset n : ℕ) (write : Bool) → (mode_of cpu ≡ Protected) ⊎ (mode_of cpu ≡ Compat) →
    (access cpu seg offset n write ≡ Ok (linear_address cpu seg offset)) ↔ Passes (segment cpu seg) offset n write

-- real mode asks only that each offset is at most the limit
abbrev pub RealAccesses : Type 0
RealAccesses = (cpu : Cpu) (seg : SegName) (offset n : ℕ) (write : Bool) → mode_of cpu ≡ Real →
    (access cpu seg offset n write ≡ Ok (linear_address cpu seg offset)) ↔ ((i : ℕ) → i < n → offset + i ≤ (segment cpu seg).limit)

-- the canonical addresses are the lowest and the highest of the 2^64, together as many as have so many bits
abbrev pub IsCanonical : Cpu → ℕ → Type 0
IsCanonical cpu x = (x < 2 ^ (linear_bits cpu - 1)) ⊎ (2 ^ 64 - 2 ^ (linear_bits cpu - 1) ≤ x)

abbrev pub CanonicalAddresses : Type 0
CanonicalAddresses = (cpu : Cpu) (x : ℕ) → x < 2 ^ 64 → (is_canonical cpu x ≡ true) ↔ IsCanonical cpu x

-- 64-bit mode asks only that each address is canonical, where addresses wrap at 64 bits
abbrev pub LongAccesses : Type 0
LongAccesses = (cpu : Cpu) (seg : SegName) (offset n : ℕ) (write : Bool) → mode_of cpu ≡ Long →
    (access cpu seg offset n write ≡ Ok (linear_address cpu seg offset)) ↔ ((i : ℕ) → i < n → IsCanonical cpu ((linear_address cpu seg offset + i) % 2 ^ 64))

-- code can go on at an offset, with this code segment loaded: at a canonical one where the mode is then 64-bit mode, else at one within the limit
pub record IsReachable (cpu : Cpu) (cs : Seg) (offset : ℕ) : Type 0 where
  pub long : is_long (record cpu { cs = cs }) ≡ true → IsCanonical cpu offset
  pub other : is_long (record cpu { cs = cs }) ≡ false → offset ≤ cs.limit

abbrev pub TargetsPass : Type 0
TargetsPass = (cpu : Cpu) (cs : Seg) (offset : ℕ) → offset < 2 ^ 64 → (target cpu cs offset ≡ Ok tt) ↔ IsReachable cpu cs offset

-- whatever fails is #GP(0), or #SS(0) of an access through SS
abbrev pub FailedAccesses : Type 0
FailedAccesses = (cpu : Cpu) (seg : SegName) (offset n : ℕ) (write : Bool) (f : Fault) → access cpu seg offset n write ≡ Err f →
    (f ≡ exception (mode_of cpu) general_protection 0) ⊎ ((seg ≡ Ss) × (f ≡ exception (mode_of cpu) stack_fault 0))

-- the attributes that a descriptor gives are its fields, at the places that they have in a segment register
pub record AttributesOf (d : Descriptor) : Type 0 where
  pub kind : attr_of d % 2 ^ 4 ≡ kind_of d
  pub s : bit (attr_of d) 4 ≡ s_of d
  pub dpl : attr_of d / 2 ^ 5 % 2 ^ 2 ≡ dpl_of d
  pub present : bit (attr_of d) 7 ≡ present_of d
  pub l : bit (attr_of d) 9 ≡ l_of d
  pub db : bit (attr_of d) 10 ≡ db_of d
  pub g : bit (attr_of d) 11 ≡ g_of d
