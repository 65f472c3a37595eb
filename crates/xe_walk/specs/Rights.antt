use Rattle.std.specs.Prelude.{ℕ, ◌+◌, List, [], ◌∷◌, drop, Some, Bool, true, false, not, ◌&&◌, ◌||◌, ◌==◌, if◌then◌else◌}
use Rattle.xe_base.specs.Bits.{bit}
use Rattle.xe_base.specs.Exceptions.{page_fault}
use Rattle.xe_base.specs.State.{pae}
use Rattle.xe_base.specs.declared.access.Fault.{Fault}
use Rattle.xe_base.specs.declared.cpu.Cpu.{Cpu}
use Rattle.xe_walk.specs.Format.{nxe, pointers_of}
use Rattle.xe_walk.specs.declared.rights.Kind.{Kind}
use Rattle.xe_walk.specs.declared.entry.Used.{Used}
use Rattle.xe_walk.specs.declared.rights.Why.{Why}
use Rattle.xe_walk.specs.declared.rights.Why.TheVariants.{NotPresent, Reserved, Rights}

-- Access rights of a page and the page fault (SDM volume 3, "Access Rights" and "Page-Fault Exceptions").

-- CR0.WP: supervisor writes heed RW too
abbrev pub wp : Cpu → Bool
wp cpu = bit cpu.cr0 16

-- CR4.SMEP
abbrev pub smep : Cpu → Bool
smep cpu = bit cpu.cr4 20

-- CR4.SMAP
abbrev pub smap : Cpu → Bool
smap cpu = bit cpu.cr4 21

-- the flag AC
abbrev pub ac : Cpu → Bool
ac cpu = bit cpu.rflags 18

-- an execute-disable bit that is set forbids fetches
abbrev pub has_xd : Cpu → Bool
has_xd cpu = pae cpu && nxe cpu

-- an access at level 3 is a user access, unless it is to a descriptor table or the TSS
abbrev pub is_user : Cpu → Kind → Bool
is_user cpu kind = cpu.cpl == 3 && not kind.system

-- the entries that have rights, accessed and dirty bits: all but PAE directory pointers
abbrev pub limiting : Cpu → List Used → List Used
limiting cpu used = drop (pointers_of cpu) used

-- each of the entries has the bit
unfoldable pub all_have : ℕ → List Used → Bool
all_have k [] = true
all_have k (u ∷ us) = bit u.value k && all_have k us

-- some entry has the bit
unfoldable pub some_has : ℕ → List Used → Bool
some_has k [] = false
some_has k (u ∷ us) = bit u.value k || some_has k us

-- ---- the page of these entries: RW 1, US 2 and XD 63 of all of them together

abbrev pub is_writable : List Used → Bool
is_writable us = all_have 1 us

abbrev pub is_user_page : List Used → Bool
is_user_page us = all_have 2 us

abbrev pub is_executable : Cpu → List Used → Bool
is_executable cpu us = not (has_xd cpu && some_has 63 us)

-- a user access needs a user page; a write, if not by a supervisor while WP is 0, a writable one; a fetch one that is executable
abbrev pub user_may : Cpu → Kind → List Used → Bool
user_may cpu kind us = is_user_page us && (not kind.write || is_writable us) && (not kind.fetch || is_executable cpu us)

-- what a supervisor may do on a user page: SMEP forbids fetches, SMAP other accesses where AC is 0 or they are implicit ones of the system
abbrev pub supervisor_may_touch_user_page : Cpu → Kind → Bool
supervisor_may_touch_user_page cpu kind = if kind.fetch then not (smep cpu) else not (smap cpu) || (ac cpu && not kind.system)

abbrev pub supervisor_may : Cpu → Kind → List Used → Bool
supervisor_may cpu kind us =
    (not kind.write || not (wp cpu) || is_writable us) && (not kind.fetch || is_executable cpu us) && (not (is_user_page us) || supervisor_may_touch_user_page cpu kind)

-- the rights of all entries together allow the access
unfoldable pub allows : Cpu → Kind → List Used → Bool
allows cpu kind us = if is_user cpu kind then user_may cpu kind us else supervisor_may cpu kind us

-- ---- the fault

-- P, RSVD: an entry was present; it had a reserved bit set
abbrev pub cause_code : Why → ℕ
cause_code NotPresent = 0
cause_code Reserved = 9
cause_code Rights = 1

-- the error code: beside the cause W 1, U 2 and I 4; I is told only where fetches have rights of their own
abbrev pub error_code : Cpu → Kind → Why → ℕ
error_code cpu kind why =
    cause_code why + (if kind.write then 2 else 0) + (if is_user cpu kind then 4 else 0) + (if kind.fetch && (has_xd cpu || smep cpu) then 16 else 0)

-- #PF at a linear address, which CR2 is to hold
unfoldable pub fault_at : Cpu → ℕ → Kind → Why → Fault
fault_at cpu la kind why = record { vector = page_fault; code = Some (error_code cpu kind why); cr2 = Some la }
