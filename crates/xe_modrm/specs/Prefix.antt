use Rattle.std.specs.Prelude.{ℕ, Bool, true, false, ◌==◌, ◌||◌, ◌&&◌, nat_le, nat_lt, List, take, length, Option, Some, None, if◌then◌else◌, unwrap_or}
use Rattle.std.specs.List.{list_any, last_or, filter, prefix_len}
use Rattle.xe_base.specs.declared.cpu.CodeSize.{CodeSize}
use Rattle.xe_base.specs.declared.cpu.CodeSize.TheVariants.{B16, B32, B64}
use Rattle.xe_base.specs.declared.segment.SegName.{SegName}
use Rattle.xe_base.specs.declared.segment.SegName.TheVariants.{Es, Cs, Ss, Ds, Fs, Gs}
use Rattle.xe_modrm.specs.declared.part.Part.{Part}
use Rattle.xe_modrm.specs.declared.part.Part.TheVariants.{Got, More}
use Rattle.xe_modrm.specs.declared.part.Prefixes.{Prefixes}

-- Prefixes: SDM volume 2, section 2.1.1; REX, and the prefixes that 64-bit code ignores:
-- section 2.2.1 and volume 1, section 3.4.2.1. The manual leaves open what a prefix does that an
-- instruction has no use for, and what two of one group do. Here the first is ignored, since the
-- padding that assemblers write has such prefixes, and of a group the last counts.

abbrev pub is_64_bit : CodeSize → Bool
is_64_bit B16 = false
is_64_bit B32 = false
is_64_bit B64 = true

-- REPNE and REP
abbrev pub is_rep : ℕ → Bool
is_rep b = b == 0xF2 || b == 0xF3

-- ES, CS, SS and DS, which 64-bit code ignores
abbrev pub is_old_segment : ℕ → Bool
is_old_segment b = b == 0x26 || b == 0x2E || b == 0x36 || b == 0x3E

-- a segment prefix that counts
abbrev pub is_segment : CodeSize → ℕ → Bool
is_segment size b = b == 0x64 || b == 0x65 || (if is_64_bit size then false else is_old_segment b)

abbrev pub segment_of : ℕ → SegName
segment_of b = if b == 0x26 then Es else (if b == 0x2E then Cs else (if b == 0x36 then Ss else (if b == 0x3E then Ds else (if b == 0x64 then Fs else Gs))))

-- the legacy prefixes: LOCK, REPNE and REP, the segments, operand size, address size
abbrev pub is_legacy : ℕ → Bool
is_legacy b = b == 0xF0 || is_rep b || is_old_segment b || b == 0x64 || b == 0x65 || b == 0x66 || b == 0x67

abbrev pub is_rex : CodeSize → ℕ → Bool
is_rex size b = is_64_bit size && (nat_le 0x40 b && nat_le b 0x4F)

-- a byte that can stand before the opcode
abbrev pub is_prefix : CodeSize → ℕ → Bool
is_prefix size b = is_legacy b || is_rex size b

-- the last byte that passes a test
abbrev pub last_that : (ℕ → Bool) → List ℕ → Option ℕ
last_that p bs = last_or None (filter p bs)

abbrev pub option_if : (ℕ → Bool) → Option ℕ → Option ℕ
option_if p None = None
option_if p (Some b) = if p b then Some b else None

abbrev pub map_segment : Option ℕ → Option SegName
map_segment None = None
map_segment (Some b) = Some (segment_of b)

-- what the prefix bytes say: of F2 and F3 the last counts, of the segment prefixes the last, and
-- REX is a REX byte that is the last of them all
unfoldable pub prefixes_of : CodeSize → List ℕ → Prefixes
prefixes_of size bs = record {
  lock = list_any (λ b. b == 0xF0) bs;
  rep = unwrap_or (last_that is_rep bs) 0;
  seg = map_segment (last_that (is_segment size) bs);
  opsize = list_any (λ b. b == 0x66) bs;
  adsize = list_any (λ b. b == 0x67) bs;
  rex = option_if (is_rex size) (last_or None bs);
}

-- the prefixes with one more byte after them
abbrev pub prefixes_then : CodeSize → Prefixes → ℕ → Prefixes
prefixes_then size s b = record {
  lock = b == 0xF0 || s.lock;
  rep = if is_rep b then b else s.rep;
  seg = if is_segment size b then Some (segment_of b) else s.seg;
  opsize = b == 0x66 || s.opsize;
  adsize = b == 0x67 || s.adsize;
  rex = if is_rex size b then Some b else None;
}

-- all the prefix bytes at the front, where one more byte follows
unfoldable pub prefix_part : CodeSize → List ℕ → Part Prefixes
prefix_part size bytes =
    let n = prefix_len (is_prefix size) bytes in
    if nat_lt n (length bytes) then Got (prefixes_of size (take n bytes)) n else More
