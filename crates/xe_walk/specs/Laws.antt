use Rattle.std.specs.Prelude.{ℕ, ◌≡◌, ◌<◌, ◌+◌, ◌%◌, ◌^◌, ◌==◌, List, [], ◌∷◌, length, Result, Ok, Err, Some, true, false, if◌then◌else◌, All}
use Rattle.xe_base.specs.Bits.{bit}
use Rattle.xe_base.specs.Ram.{Area, in_ram, byte_of}
use Rattle.xe_base.specs.State.{pae, lma, pg}
use Rattle.xe_base.specs.declared.cpu.Cpu.{Cpu}
use Rattle.xe_walk.specs.Entry.{are_ram, value_at}
use Rattle.xe_walk.specs.Format.{levels_of, has_reserved}
use Rattle.xe_walk.specs.Walk.{Reached, walk, entries}
use Rattle.xe_walk.specs.declared.entry.Used.{Used}
use Rattle.xe_walk.specs.declared.format.Level.{Level}
use Rattle.xe_walk.specs.declared.rights.Kind.{Kind}
use Rattle.xe_walk.specs.declared.walk.WalkStop.{WalkStop}
use Rattle.xe_walk.specs.declared.walk.WalkStop.TheVariants.{Page, EntryNotRam}

-- What the definition of the walk comes to, in the manual's words.

-- ---- how many entries are used (SDM volume 3, the tables of paging structures by format)

-- a page of 2 ^ low bytes uses so many entries: in long mode 4 of 4 KiB, 3 of 2 MiB, 2 of 1 GiB; in PAE paging 3 of 4 KiB, 2 of 2 MiB; in 32-bit paging 2 of 4 KiB, 1 of 4 MiB
abbrev pub used_for : Cpu → ℕ → ℕ
used_for cpu low =
    if lma cpu then (if low == 12 then 4 else (if low == 21 then 3 else (if low == 30 then 2 else 0))) else
    (if pae cpu then (if low == 12 then 3 else (if low == 21 then 2 else 0)) else
    (if low == 12 then 2 else (if low == 22 then 1 else 0)))

-- the page of a translation: 2 ^ low bytes, of which the linear address gives the place
pub record IsPage (cpu : Cpu) (la : ℕ) (r : Reached) (low : ℕ) : Type 0 where
  pub used : length r.used ≡ used_for cpu low
  pub some : 0 < length r.used
  pub offset : r.pa % 2 ^ low ≡ la % 2 ^ low

-- a walk that ends well used as many entries as its page's size says
abbrev pub UsesAsPageSizeSays : Type 0
UsesAsPageSizeSays = (ram : List Area) (cpu : Cpu) (la : ℕ) (kind : Kind) (r : Reached) → pg cpu ≡ true → walk ram cpu la kind ≡ Ok r → (low : ℕ) × IsPage cpu la r low

-- ---- what the entries used are

-- an entry of a level that may be used: it is what RAM holds there, present, and has no reserved bit set
pub record IsUsable (ram : List Area) (cpu : Cpu) (level : Level) (u : Used) : Type 0 where
  pub size : u.size ≡ level.size
  pub is_ram : are_ram ram u.pa u.size ≡ true
  pub value : u.value ≡ value_at ram u.pa u.size
  pub present : bit u.value 0 ≡ true
  pub clear : has_reserved cpu level u.value ≡ false

-- the entries are those of the levels from the top
abbrev pub AreUsable : List Area → Cpu → List Level → List Used → Type 0
AreUsable ram cpu levels [] = Unit {0}
AreUsable ram cpu [] (u ∷ us) = ⊥
AreUsable ram cpu (level ∷ levels) (u ∷ us) = IsUsable ram cpu level u × AreUsable ram cpu levels us

-- every entry that a walk used was present, and had no reserved bit set
abbrev pub UsesPresentEntries : Type 0
UsesPresentEntries = (ram : List Area) (cpu : Cpu) (la : ℕ) (kind : Kind) (r : Reached) → walk ram cpu la kind ≡ Ok r → AreUsable ram cpu (levels_of cpu) r.used

-- ---- what a walk depends on

-- the two have the same n bytes there, and the same of them are RAM
pub record SameBytes (one other : List Area) (pa n : ℕ) : Type 0 where
  pub in_ram : (k : ℕ) → k < n → in_ram other (pa + k) ≡ in_ram one (pa + k)
  pub bytes : (k : ℕ) → k < n → byte_of other (pa + k) ≡ byte_of one (pa + k)

-- they agree on the bytes of these entries
abbrev pub Agree : List Area → List Area → List Used → Type 0
Agree one other us = All (λ (u : Used). SameBytes one other u.pa u.size) us

-- a walk depends on no other byte of RAM than those of the entries that it visits
abbrev pub DependsOnEntriesAlone : Type 0
DependsOnEntriesAlone =
    (one other : List Area) (cpu : Cpu) (la : ℕ) (kind : Kind) → Agree one other (entries one cpu la)
    → (walk other cpu la kind ≡ walk one cpu la kind) × (entries other cpu la ≡ entries one cpu la)

-- ---- the bytes of a page

-- a translation of the byte that lies k further: its place is k further, and CR2 of a page fault is its own address
abbrev pub further : ℕ → ℕ → Result Reached WalkStop → Result Reached WalkStop
further la k (Ok r) = Ok (record { pa = r.pa + k; used = r.used })
further la k (Err (Page f)) = Err (Page (record f { cr2 = Some (la + k) }))
further la k (Err (EntryNotRam pa)) = Err (EntryNotRam pa)

-- the bytes of a page of 4 KiB are translated together: by the same entries, each to its place in the page or to the same fault
abbrev pub TranslatesPagesTogether : Type 0
TranslatesPagesTogether =
    (ram : List Area) (cpu : Cpu) (la k : ℕ) (kind : Kind) → la % 4096 + k < 4096
    → (walk ram cpu (la + k) kind ≡ further la k (walk ram cpu la kind)) × (entries ram cpu (la + k) ≡ entries ram cpu la)
