use Rattle.std.specs.Prelude.{ℕ, zero, suc, ◌+◌, ◌%◌, ◌^◌, List, [], ◌∷◌, Bool, true, false, nat_lt, nat_le, length, slice_index, if◌then◌else◌, Result, Ok, Err, ◌≡◌, ◌<◌}
use Rattle.xe_base.specs.Ram.{in_ram, byte_of, AreRam}
use Rattle.xe_base.specs.Exceptions.{exception, general_protection}
use Rattle.xe_base.specs.State.{mode_of, is_long, address_bits, is_canonical}
use Rattle.xe_base.specs.declared.cpu.Cpu.{Cpu}
use Rattle.xe_base.specs.declared.segment.SegName.TheVariants.{Cs}
use Rattle.xe_seg.specs.Accesses.{linear_address}
use Rattle.xe_walk.specs.Walk.{Reached, walk}
use Rattle.xe_walk.specs.declared.rights.Kind.{Kind}
use Rattle.xe_walk.specs.declared.walk.WalkStop.{WalkStop}
use Rattle.xe_ctx.specs.Ending.{Ending, Raises, HandsOver, stop_of}
use Rattle.xe_ctx.specs.State.{State}
use Rattle.xe_ctx.specs.Translate.{walk_ending}
use Rattle.xe_ctx.specs.declared.stop.Handoff.TheVariants.{Fetch}
use Rattle.xe_ctx.specs.declared.stop.Stop.{Stop}

-- #GP(0): the byte is past the limit of CS, not at a canonical address, or a sixteenth one (SDM volume 2, "Instruction Format")
abbrev pub fetch_fault : State → Ending
fetch_fault s = Raises (exception (mode_of s.cpu) general_protection 0)

-- ---- where a byte lies (SDM volume 3, "Limit Checking" and "Limit Checking in 64-bit Mode")

-- the offset in the code segment of byte i behind RIP
abbrev pub code_offset : Cpu → ℕ → ℕ
code_offset cpu i = (cpu.rip + i) % 2 ^ address_bits cpu

-- its linear address; in 64-bit mode the base of CS doesn't count
abbrev pub code_address : Cpu → ℕ → ℕ
code_address cpu i = linear_address cpu Cs (code_offset cpu i)

-- it may be fetched: in 64-bit mode its address is canonical, elsewhere the limit of CS is not passed
abbrev pub may_fetch : Cpu → ℕ → Bool
may_fetch cpu i = if is_long cpu then is_canonical cpu (code_address cpu i) else nat_le (code_offset cpu i) cpu.cs.limit

-- ---- the byte there. All bytes are those of the RAM at the start of the step, and so are the page tables

-- a fetch of code
abbrev pub fetch_kind : Kind
fetch_kind = record { write = false; fetch = true; system = false }

-- the byte at a physical address
abbrev pub fetched_at : State → ℕ → Result ℕ Ending
fetched_at s pa = if in_ram s.ram pa then Ok (byte_of s.ram pa) else Err (HandsOver (Fetch pa))

-- the byte that a translation leads to
abbrev pub fetched_by : State → Result Reached WalkStop → Result ℕ Ending
fetched_by s (Ok r) = fetched_at s r.pa
fetched_by s (Err stop) = Err (walk_ending stop)

-- the byte at a linear address
abbrev pub fetched_from : State → ℕ → Result ℕ Ending
fetched_from s la = fetched_by s (walk s.ram s.cpu la fetch_kind)

-- byte i behind RIP, or why it can't be had
unfoldable pub code_byte : State → ℕ → Result ℕ Ending
code_byte s i = if may_fetch s.cpu i then fetched_from s (code_address s.cpu i) else Err (fetch_fault s)

-- ---- the bytes of an instruction

-- those that can be had, and why the next can't
pub record Avail : Type 0 where
  pub bytes : List ℕ
  pub reason : Ending

abbrev pub before : Result ℕ Ending → Avail → Avail
before (Ok b) rest = record rest { bytes = b ∷ rest.bytes }
before (Err e) rest = record { bytes = []; reason = e }

-- at most so many bytes, from byte i on
unfoldable pub avail_from : State → ℕ → ℕ → Avail
avail_from s zero i = record { bytes = []; reason = fetch_fault s }
avail_from s (suc n) i = before (code_byte s i) (avail_from s n (i + 1))

-- the longest list of at most 15 bytes (SDM volume 2, "Instruction Format")
unfoldable pub avail : State → Avail
avail s = avail_from s 15 0

-- byte i of these, or why there is none
abbrev pub byte_at : Avail → ℕ → Result ℕ Stop
byte_at a i = if nat_lt i (length a.bytes) then Ok (slice_index a.bytes i) else Err (stop_of a.reason)

-- ---- how the code reads them: many at once

-- so many linear addresses from byte i on follow one another, and their bytes may be fetched
pub record MayFetch (cpu : Cpu) (i la n : ℕ) : Type 0 where
  pub each : (k : ℕ) → k < n → may_fetch cpu (i + k) ≡ true
  pub address : (k : ℕ) → k < n → code_address cpu (i + k) ≡ la + k

-- the bytes of so many linear addresses lie one behind another, from a physical address on
pub record IsPlaced (s : State) (la pa n : ℕ) : Type 0 where
  pub each : (k : ℕ) → k < n → fetched_from s (la + k) ≡ fetched_at s (pa + k)

-- n bytes of the instruction, from byte i on, lie in RAM one behind another, from a physical address on
pub record IsRun (s : State) (i pa n : ℕ) : Type 0 where
  pub ram : AreRam s.ram pa n
  pub bytes : (k : ℕ) → k < n → code_byte s (i + k) ≡ Ok (byte_of s.ram (pa + k))
