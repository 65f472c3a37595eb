use Rattle.std.specs.Prelude.{ℕ}
use Rattle.xe_base.specs.declared.segment.SegName.{SegName}
use Rattle.xe_base.specs.declared.segment.SegName.TheVariants.{Es, Cs, Ss, Ds, Fs, Gs}

-- the number of a segment register in the encoding (SDM volume 2, "Encoding of the Segment Register (sreg) Field")
abbrev pub segment_number : SegName → ℕ
segment_number Es = 0
segment_number Cs = 1
segment_number Ss = 2
segment_number Ds = 3
segment_number Fs = 4
segment_number Gs = 5
