use Rattle.std.specs.Prelude.{ℕ, ◌+◌, ◌%◌, ◌^◌, List, [], ◌∷◌, Result, Ok, Err, Bool, not, if◌then◌else◌}
use Rattle.xe_base.specs.Bits.{bit}
use Rattle.xe_base.specs.Ram.{Area}
use Rattle.xe_base.specs.State.{pg}
use Rattle.xe_base.specs.declared.cpu.Cpu.{Cpu}
use Rattle.xe_walk.specs.Entry.{are_ram, value_at}
use Rattle.xe_walk.specs.Format.{levels_of, root_of, place, frame, is_large, has_reserved}
use Rattle.xe_walk.specs.Rights.{limiting, allows, fault_at}
use Rattle.xe_walk.specs.declared.entry.Used.{Used}
use Rattle.xe_walk.specs.declared.format.Level.{Level}
use Rattle.xe_walk.specs.declared.rights.Kind.{Kind}
use Rattle.xe_walk.specs.declared.rights.Why.{Why}
use Rattle.xe_walk.specs.declared.rights.Why.TheVariants.{NotPresent, Reserved, Rights}
use Rattle.xe_walk.specs.declared.walk.Hit.{Hit}
use Rattle.xe_walk.specs.declared.walk.WalkStop.{WalkStop}
use Rattle.xe_walk.specs.declared.walk.WalkStop.TheVariants.{Page, EntryNotRam}

-- The walk through page tables (SDM volume 3, "Linear-Address Translation"). First the way down from table to table, which no right of an entry and no kind of access
-- ends; then the rights, over all entries on the way together.

-- where the way ends: at a page, with its first address and the number of bits that the linear address gives; at an entry that can't be used; at an entry outside RAM
pub data End : Type 0 where
  Lands : ℕ → ℕ → End
  Refuses : Why → End
  Leaves : ℕ → End

-- the entries that were visited, from the top, the one at which the way ends included
pub record Descent : Type 0 where
  pub visited : List Used
  pub end : End

-- the entry of that size there, as RAM holds it; bytes outside RAM are read as 0
abbrev pub entry_at : List Area → ℕ → ℕ → Used
entry_at ram pa size = record { pa = pa; size = size; value = value_at ram pa size }

abbrev pub ends_at : Used → End → Descent
ends_at u end = record { visited = u ∷ []; end = end }

abbrev pub goes_on : Used → Descent → Descent
goes_on u rest = record { visited = u ∷ rest.visited; end = rest.end }

-- at an entry of a level: outside RAM, not present, with a reserved bit set, of a large page, or of a further table
abbrev pub at_entry : Cpu → Level → Bool → Used → Descent → Descent
at_entry cpu level here u rest =
    if not here then ends_at u (Leaves u.pa) else
    (if not (bit u.value 0) then ends_at u (Refuses NotPresent) else
    (if has_reserved cpu level u.value then ends_at u (Refuses Reserved) else
    (if is_large level u.value then ends_at u (Lands (frame level level.shift u.value) level.shift) else goes_on u rest)))

-- the way down the levels from a table on; behind the last level is a page of 4 KiB
unfoldable pub descend : List Area → Cpu → ℕ → List Level → ℕ → Descent
descend ram cpu la [] table = record { visited = []; end = Lands table 12 }
descend ram cpu la (level ∷ rest) table =
    at_entry cpu level (are_ram ram (place level table la) level.size) (entry_at ram (place level table la) level.size)
    (descend ram cpu la rest (frame level 12 (value_at ram (place level table la) level.size)))

unfoldable pub descent : List Area → Cpu → ℕ → Descent
descent ram cpu la = descend ram cpu la (levels_of cpu) (root_of cpu)

-- a physical address, with the entries that were used, from the top
pub record Reached : Type 0 where
  pub pa : ℕ
  pub used : List Used

-- what the end of a way is to an access
abbrev pub concluded : Cpu → ℕ → Kind → List Used → End → Result Reached WalkStop
concluded cpu la kind used (Lands page low) =
    if allows cpu kind (limiting cpu used) then Ok (record { pa = page + la % 2 ^ low; used = used }) else Err (Page (fault_at cpu la kind Rights))
concluded cpu la kind used (Refuses why) = Err (Page (fault_at cpu la kind why))
concluded cpu la kind used (Leaves pa) = Err (EntryNotRam pa)

-- the translation of a linear address; where paging is off, it is a physical one already
unfoldable pub walk : List Area → Cpu → ℕ → Kind → Result Reached WalkStop
walk ram cpu la kind = if pg cpu then concluded cpu la kind (descent ram cpu la).visited (descent ram cpu la).end else Ok (record { pa = la; used = [] })

-- the entries that a walk visits, whatever its kind
unfoldable pub entries : List Area → Cpu → ℕ → List Used
entries ram cpu la = if pg cpu then (descent ram cpu la).visited else []

-- what a call answered, in these words
abbrev pub walked : Result Hit WalkStop → Result Reached WalkStop
walked (Ok hit) = Ok (record { pa = hit.pa; used = hit.used.items })
walked (Err stop) = Err stop
