use Rattle.std.specs.Prelude.{ℕ, Bool, not, ◌&&◌, ◌||◌, if◌then◌else◌}
use Rattle.xe_base.specs.Bits.{bit}

-- What the attributes of a segment say: type 3:0, S 4, DPL 6:5, P 7, AVL 8, L 9, DB 10, G 11 (SDM volume 3, "Segment Descriptors" and
-- "Code- and Data-Segment Descriptor Types"). A cached segment is judged by its type alone, whatever S is.

-- P: the segment is present
abbrev pub is_present : ℕ → Bool
is_present attr = bit attr 7

-- type bit 3: code, and otherwise data
abbrev pub is_code : ℕ → Bool
is_code attr = bit attr 3

-- code with type bit 2: it runs at the level of its caller
abbrev pub is_conforming : ℕ → Bool
is_conforming attr = is_code attr && bit attr 2

-- data with type bit 2: it grows downwards
abbrev pub is_expand_down : ℕ → Bool
is_expand_down attr = not (is_code attr) && bit attr 2

-- data is always readable, code where its type bit 1 is 1
abbrev pub is_readable : ℕ → Bool
is_readable attr = not (is_code attr) || bit attr 1

-- data is writable where its type bit 1 is 1, code never
abbrev pub is_writable : ℕ → Bool
is_writable attr = not (is_code attr) && bit attr 1

-- what the type of a segment allows: a write, or a read
abbrev pub allows : ℕ → Bool → Bool
allows attr write = if write then is_writable attr else is_readable attr
