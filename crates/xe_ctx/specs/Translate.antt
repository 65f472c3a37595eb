use Rattle.std.specs.Prelude.{ℕ, ◌+◌, ◌^◌, ◌≡◌, ◌≤◌, List, [], ◌∷◌, All, Bool, true, if◌then◌else◌}
use Rattle.xe_base.specs.Ram.{Area, in_ram, set_bits}
use Rattle.xe_base.specs.declared.cpu.Cpu.{Cpu}
use Rattle.xe_walk.specs.Rights.{limiting}
use Rattle.xe_walk.specs.declared.entry.Used.{Used}
use Rattle.xe_walk.specs.declared.rights.Kind.{Kind}
use Rattle.xe_walk.specs.declared.walk.WalkStop.{WalkStop}
use Rattle.xe_walk.specs.declared.walk.WalkStop.TheVariants.{Page, EntryNotRam}
use Rattle.xe_ctx.specs.Ending.{Ending, Raises, HandsOver}
use Rattle.xe_ctx.specs.declared.stop.Handoff.TheVariants.{Entry}

-- What a translation leaves in page tables (SDM volume 3, "Accessed and Dirty Flags"). When it takes effect is this project's choice: with the step that it
-- is part of.

-- bits of an entry, which all lie in its lowest byte: accessed, and dirty
abbrev pub accessed_bit : ℕ
accessed_bit = 0x20

abbrev pub dirty_bit : ℕ
dirty_bit = 0x40

-- what is set in the entry that maps the page
abbrev pub page_bits : Bool → ℕ
page_bits write = if write then accessed_bit + dirty_bit else accessed_bit

-- the accessed bit of each of these entries, and for a write the dirty bit of the last one, are set; an entry that stands twice gets both
unfoldable pub marks : Bool → List Used → List Area → List Area
marks write [] ram = ram
marks write (u ∷ []) ram = set_bits ram u.pa (page_bits write)
marks write (u ∷ v ∷ us) ram = marks write (v ∷ us) (set_bits ram u.pa accessed_bit)

-- the RAM after a translation of a kind used these entries: directory pointers of PAE paging have no such bits
unfoldable pub marked : Cpu → Kind → List Used → List Area → List Area
marked cpu kind used ram = marks kind.write (limiting cpu used) ram

-- how a step ends at a translation that fails: a page fault, or an entry outside RAM, which is handed over
abbrev pub walk_ending : WalkStop → Ending
walk_ending (Page f) = Raises f
walk_ending (EntryNotRam pa) = HandsOver (Entry pa)

-- an entry whose lowest byte is RAM, as that of each entry is that a walk used
pub record IsEntry (ram : List Area) (u : Used) : Type 0 where
  pub here : in_ram ram u.pa ≡ true
  pub low : u.pa ≤ 2 ^ 40

abbrev pub AreEntries : List Area → List Used → Type 0
AreEntries ram us = All (IsEntry ram) us
