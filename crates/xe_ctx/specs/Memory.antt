use Rattle.std.specs.Prelude.{ℕ, zero, suc, ◌+◌, ◌-◌, ◌%◌, ◌^◌, List, [], ◌∷◌, Bool, true, false, nat_le, if◌then◌else◌, take, drop, length, flat_map, ◌≡◌, ◌≤◌, Result, Ok, Err}
use Rattle.std.specs.List.{range_with_len}
use Rattle.xe_base.specs.Access.{number_of}
use Rattle.xe_base.specs.Bytes.{num, le}
use Rattle.xe_base.specs.Ram.{Area, in_ram, bytes_of, put_bytes}
use Rattle.xe_base.specs.State.{is_long, lma}
use Rattle.xe_base.specs.declared.access.Access.{Access}
use Rattle.xe_base.specs.declared.access.Fault.{Fault}
use Rattle.xe_base.specs.declared.access.Space.TheVariants.{Mem}
use Rattle.xe_base.specs.declared.cpu.Cpu.{Cpu}
use Rattle.xe_base.specs.declared.segment.SegName.{SegName}
use Rattle.xe_seg.specs.Accesses.{access}
use Rattle.xe_walk.specs.Walk.{Reached, walk}
use Rattle.xe_walk.specs.declared.rights.Kind.{Kind}
use Rattle.xe_walk.specs.declared.walk.WalkStop.{WalkStop}
use Rattle.xe_ctx.specs.Chunks.{chunks}
use Rattle.xe_ctx.specs.Ending.{Raises}
use Rattle.xe_ctx.specs.Part.{Part, ◌>>=◌, give, stop, look, change, ask, gather, each}
use Rattle.xe_ctx.specs.Translate.{marked, walk_ending}
use Rattle.xe_ctx.specs.declared.chunk.Chunk.{Chunk}

-- Accesses to memory: the segment check, the cut at page ends, the translation of all pieces, and then the bytes, piece by piece from the lowest on.

-- ---- devices

abbrev pub mem_read : ℕ → ℕ → Access
mem_read pa size = record { space = Mem; write = false; address = pa; size = size; value = 0 }

abbrev pub mem_write : ℕ → ℕ → ℕ → Access
mem_write pa size value = record { space = Mem; write = true; address = pa; size = size; value = value }

-- a chunk read gives its bytes
unfoldable pub chunk_read : Chunk → Part (List ℕ)
chunk_read c = do
  a ← ask (mem_read c.pa c.size)
  give (le c.size (number_of a))

-- a chunk write takes its bytes of those of the access
unfoldable pub chunk_write : List ℕ → Chunk → Part (Unit {0})
chunk_write bytes c = do
  _ ← ask (mem_write c.pa c.size (num (take c.size (drop c.at bytes))))
  give tt

-- n bytes of devices
unfoldable pub devices_read : ℕ → ℕ → Part (List ℕ)
devices_read pa n = gather chunk_read (chunks pa n)

-- the bytes go to devices
unfoldable pub devices_write : ℕ → List ℕ → Part (Unit {0})
devices_write pa bytes = each (chunk_write bytes) (chunks pa (length bytes))

-- ---- kinds

-- an access to data, through a segment
abbrev pub data_kind : Bool → Kind
data_kind write = record { write = write; fetch = false; system = false }

-- an access of the processor's own to a descriptor table or the TSS
abbrev pub system_kind : Bool → Kind
system_kind write = record { write = write; fetch = false; system = true }

-- in how many bits the addresses of a system access wrap: in all modes of long mode they have 64 (SDM volume 3, "Segmentation in IA-32e Mode")
abbrev pub system_bits : Cpu → ℕ
system_bits cpu = if lma cpu then 64 else 32

-- the addresses of an access of this kind have 64 bits, and not 32
abbrev pub is_wide : Cpu → Kind → Bool
is_wide cpu kind = if kind.system then lma cpu else is_long cpu

-- in how many bits they wrap
abbrev pub bits_of : Cpu → Kind → ℕ
bits_of cpu kind = if is_wide cpu kind then 64 else 32

-- ---- pieces

-- a piece of an access: its linear address, its place in the access and its length
pub record Piece : Type 0 where
  pub la : ℕ
  pub at : ℕ
  pub n : ℕ

-- a piece that was translated: its physical address
pub record Place : Type 0 where
  pub pa : ℕ
  pub at : ℕ
  pub n : ℕ

-- the linear address behind the page's end, where addresses have so many bits
abbrev pub next_page : ℕ → ℕ → ℕ
next_page bits la = (la + (4096 - la % 4096)) % 2 ^ bits

-- at most 4096 bytes, cut at a page's end
unfoldable pub pieces : ℕ → ℕ → ℕ → List Piece
pieces bits la n =
    if nat_le (la % 4096 + n) 4096
    then record { la = la; at = 0; n = n } ∷ []
    else record { la = la; at = 0; n = 4096 - la % 4096 } ∷ record { la = next_page bits la; at = 4096 - la % 4096; n = n - (4096 - la % 4096) } ∷ []

-- the places of the bytes of some pieces in the access, one piece after another
abbrev pub piece_places : List Piece → List ℕ
piece_places ps = flat_map (λ (p : Piece). range_with_len p.at p.n) ps

-- the piece lies in one page
abbrev pub IsInPage : Piece → Type 0
IsInPage p = p.la % 4096 + p.n ≤ 4096

-- the piece is a part of the access that begins at this linear address, where addresses have so many bits
abbrev pub IsPieceOf : ℕ → ℕ → Piece → Type 0
IsPieceOf bits la p = p.la ≡ (la + p.at) % 2 ^ bits

-- what follows a walk: the entries that it used are marked in the RAM as the step sees it; or the step ends
abbrev pub landed : Kind → Result Reached WalkStop → Part ℕ
landed kind (Ok r) = do
  cpu ← look (λ v. v.start.cpu)
  _ ← change (marked cpu kind r.used)
  give r.pa
landed kind (Err s) = stop (walk_ending s)

-- the physical address of a linear one: the walk goes over the RAM as the step sees it, so over what the step has stored and marked before
unfoldable pub place : Kind → ℕ → Part ℕ
place kind la = do
  found ← look (λ v. walk v.work v.start.cpu la kind)
  landed kind found

unfoldable pub place_piece : Kind → Piece → Part (List Place)
place_piece kind p = do
  pa ← place kind p.la
  give (record { pa = pa; at = p.at; n = p.n } ∷ [])

-- ---- bytes

-- each of the n bytes is RAM
unfoldable pub are_ram : List Area → ℕ → ℕ → Bool
are_ram ram pa zero = true
are_ram ram pa (suc n) = if in_ram ram pa then are_ram ram (pa + 1) n else false

unfoldable pub read_if : Bool → Place → Part (List ℕ)
read_if true p = look (λ v. bytes_of v.work p.pa p.n)
read_if false p = devices_read p.pa p.n

-- a piece is read: of the RAM as the step sees it, or of devices
unfoldable pub read_place : Place → Part (List ℕ)
read_place p = do
  here ← look (λ v. are_ram v.work p.pa p.n)
  read_if here p

unfoldable pub write_if : Bool → ℕ → List ℕ → Part (Unit {0})
write_if true pa bytes = change (λ ram. put_bytes ram pa bytes)
write_if false pa bytes = devices_write pa bytes

-- bytes within a page go into the RAM as the step sees it, or to devices
unfoldable pub write_bytes : ℕ → List ℕ → Part (Unit {0})
write_bytes pa bytes = do
  here ← look (λ v. are_ram v.work pa (length bytes))
  write_if here pa bytes

unfoldable pub write_place : List ℕ → Place → Part (Unit {0})
write_place bytes p = write_bytes p.pa (take p.n (drop p.at bytes))

-- how many bits the linear addresses of such an access have in this step
unfoldable pub width : Kind → Part ℕ
width kind = look (λ v. bits_of v.start.cpu kind)

-- all pieces are translated before any byte moves
unfoldable pub load_at : Kind → ℕ → ℕ → Part (List ℕ)
load_at kind la n = do
  bits ← width kind
  places ← gather (place_piece kind) (pieces bits la n)
  gather read_place places

unfoldable pub store_at : Kind → ℕ → List ℕ → Part (Unit {0})
store_at kind la bytes = do
  bits ← width kind
  places ← gather (place_piece kind) (pieces bits la (length bytes))
  each (write_place bytes) places

unfoldable pub probe_at : ℕ → ℕ → Part (Unit {0})
probe_at la n = do
  bits ← width (data_kind true)
  _ ← gather (place_piece (data_kind true)) (pieces bits la n)
  give tt

-- ---- the segment

abbrev pub judged : Result ℕ Fault → Part ℕ
judged (Ok la) = give la
judged (Err f) = stop (Raises f)

-- the linear address, or the exception
unfoldable pub locate : SegName → ℕ → ℕ → Bool → Part ℕ
locate seg offset n write = do
  found ← look (λ v. access v.start.cpu seg offset n write)
  judged found

-- ---- the system's addresses

-- the linear address of a system access: no segment, no check; cut to the width that it has in this mode
unfoldable pub system_address : ℕ → Part ℕ
system_address la = look (λ v. la % 2 ^ system_bits v.start.cpu)
