use Rattle.std.specs.Prelude.{ℕ, true, false, ◌≡◌, ◌≢◌, ◌<◌, ◌≤◌, ◌^◌, ◌↔◌, Ok}
use Rattle.xe_base.specs.Bits.{bit}
use Rattle.xe_base.specs.Registers.{segment}
use Rattle.xe_base.specs.State.{mode_of, attr_is_valid}
use Rattle.xe_base.specs.declared.cpu.Cpu.{Cpu}
use Rattle.xe_base.specs.declared.cpu.Mode.TheVariants.{Real, Long}
use Rattle.xe_base.specs.declared.segment.Seg.{Seg}
use Rattle.xe_base.specs.declared.segment.SegName.{SegName}
use Rattle.xe_base.specs.declared.segment.SegName.TheVariants.{Ss}
use Rattle.xe_seg.specs.Attributes.{is_conforming}
use Rattle.xe_seg.specs.Descriptors.{attr_of, s_of, dpl_of, present_of}
use Rattle.xe_seg.specs.Loads.{load, is_null, rpl_of, null_segment, loaded}
use Rattle.xe_seg.specs.declared.descriptor.Descriptor.{Descriptor}

-- What the load of a segment register comes to, said of privilege levels and single bits.

-- a segment that DS, ES, FS and GS take: present, code or data, code only where it is readable; and unless it is conforming code, neither the
-- selector asks for a level of lower privilege than the segment's (a greater number), nor has the program such a one
pub record ServesAsData (cpu : Cpu) (sel : ℕ) (d : Descriptor) : Type 0 where
  pub present : present_of d ≡ true
  pub code_or_data : s_of d ≡ true
  pub readable : bit (attr_of d) 3 ≡ true → bit (attr_of d) 1 ≡ true
  pub rpl : is_conforming (attr_of d) ≡ false → rpl_of sel ≤ dpl_of d
  pub cpl : is_conforming (attr_of d) ≡ false → cpu.cpl ≤ dpl_of d

-- a segment that SS takes: present, writable data, of the level that the selector asks for and that the program has
pub record ServesAsStack (cpu : Cpu) (sel : ℕ) (d : Descriptor) : Type 0 where
  pub present : present_of d ≡ true
  pub code_or_data : s_of d ≡ true
  pub data_segment : bit (attr_of d) 3 ≡ false
  pub writable : bit (attr_of d) 1 ≡ true
  pub rpl : rpl_of sel ≡ cpu.cpl
  pub dpl : dpl_of d ≡ cpu.cpl

abbrev pub DataLoads : Type 0
DataLoads = (cpu : Cpu) (seg : SegName) (sel : ℕ) (d : Descriptor) → mode_of cpu ≢ Real → seg ≢ Ss → is_null sel ≡ false →
    (load cpu seg sel d ≡ Ok (loaded sel d)) ↔ ServesAsData cpu sel d

abbrev pub StackLoads : Type 0
StackLoads = (cpu : Cpu) (sel : ℕ) (d : Descriptor) → mode_of cpu ≢ Real → is_null sel ≡ false →
    (load cpu Ss sel d ≡ Ok (loaded sel d)) ↔ ServesAsStack cpu sel d

-- a null selector is taken by DS, ES, FS and GS always
abbrev pub NullLoads : Type 0
NullLoads = (cpu : Cpu) (seg : SegName) (sel : ℕ) (d : Descriptor) → mode_of cpu ≢ Real → seg ≢ Ss → is_null sel ≡ true →
    load cpu seg sel d ≡ Ok (null_segment sel)

-- where SS takes a null selector
pub record ServesAsNullStack (cpu : Cpu) (sel : ℕ) : Type 0 where
  pub mode : mode_of cpu ≡ Long
  pub level : cpu.cpl < 3
  pub rpl : rpl_of sel ≡ cpu.cpl

abbrev pub NullStackLoads : Type 0
NullStackLoads = (cpu : Cpu) (sel : ℕ) (d : Descriptor) → mode_of cpu ≢ Real → is_null sel ≡ true →
    (load cpu Ss sel d ≡ Ok (null_segment sel)) ↔ ServesAsNullStack cpu sel

-- what a load leaves keeps the rules of a valid state on segment registers: bases below 2^32, and attributes of twelve bits where those
-- before had so many
pub record KeepsRules (old new : Seg) : Type 0 where
  pub base : new.base < 2 ^ 32
  pub attr : attr_is_valid old ≡ true → attr_is_valid new ≡ true

abbrev pub LoadsKeepRules : Type 0
LoadsKeepRules = (cpu : Cpu) (seg : SegName) (sel : ℕ) (d : Descriptor) (s : Seg) → sel < 2 ^ 16 →
    load cpu seg sel d ≡ Ok s → KeepsRules (segment cpu seg) s
