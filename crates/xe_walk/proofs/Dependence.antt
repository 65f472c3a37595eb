use Rattle.std.proofs.Common.{ℕ, zero, suc, ◌≡◌, ◌+◌, List, [], ◌∷◌, refl, ap, arith, Bool, true, false, not, if◌then◌else◌}
use Rattle.std.proofs.lemmas.List.Elements.{All-head, All-tail}
use Rattle.xe_base.specs.Bytes.{num}
use Rattle.xe_base.specs.Ram.{Area, in_ram, byte_of, bytes_of}
use Rattle.xe_base.specs.State.{pg}
use Rattle.xe_base.specs.declared.cpu.Cpu.{Cpu}
use Rattle.xe_walk.specs.Entry.{are_ram, value_at}
use Rattle.xe_walk.specs.Format.{levels_of, root_of, place, frame}
use Rattle.xe_walk.specs.Laws.{SameBytes, Agree, DependsOnEntriesAlone}
use Rattle.xe_walk.specs.Walk.{Lands, Refuses, Leaves, Descent, descend, descent, entry_at, ends_at, goes_on, walk, entries}
use Rattle.xe_walk.specs.declared.entry.Used.{Used}
use Rattle.xe_walk.specs.declared.format.Level.{Level}
use Rattle.xe_walk.specs.declared.rights.Kind.{Kind}
use Rattle.xe_walk.specs.declared.rights.Why.TheVariants.{NotPresent, Reserved}

-- The walk over another RAM with the same entries.

later : (one other : List Area) (pa n : ℕ) → SameBytes one other pa (suc n) → SameBytes one other (pa + 1) n
later one other pa n s = record {
  in_ram = λ k h. let e : pa + 1 + k ≡ pa + (k + 1) = omega arith in rw e (s.in_ram (k + 1) (omega arith));
  bytes = λ k h. let e : pa + 1 + k ≡ pa + (k + 1) = omega arith in rw e (s.bytes (k + 1) (omega arith));
}

first-in : (one other : List Area) (pa n : ℕ) → SameBytes one other pa (suc n) → in_ram other pa ≡ in_ram one pa
first-in one other pa n s = let e : pa + 0 ≡ pa = omega arith in rw e at (s.in_ram 0 (omega arith))

first-byte : (one other : List Area) (pa n : ℕ) → SameBytes one other pa (suc n) → byte_of other pa ≡ byte_of one pa
first-byte one other pa n s = let e : pa + 0 ≡ pa = omega arith in rw e at (s.bytes 0 (omega arith))

same-ram : (one other : List Area) (pa n : ℕ) → SameBytes one other pa n → are_ram other pa n ≡ are_ram one pa n
unfolding are_ram
same-ram one other pa zero s = refl
same-ram one other pa (suc n) s = rw (first-in one other pa n s, same-ram one other (pa + 1) n (later one other pa n s)) refl

same-bytes : (one other : List Area) (pa n : ℕ) → SameBytes one other pa n → bytes_of other pa n ≡ bytes_of one pa n
unfolding bytes_of
same-bytes one other pa zero s = refl
same-bytes one other pa (suc n) s = rw (first-byte one other pa n s, same-bytes one other (pa + 1) n (later one other pa n s)) refl

same-value : (one other : List Area) (pa n : ℕ) → SameBytes one other pa n → value_at other pa n ≡ value_at one pa n
same-value one other pa n s = ap num (same-bytes one other pa n s)

abbrev Same : List Area → List Area → Used → Type 0
Same one other u = SameBytes one other u.pa u.size

-- the first entry that is visited is the one of this level
first-visited : (one other : List Area) (here present reserved large : Bool) (u : Used) (page low : ℕ) (rest : Descent)
    → Agree one other (if not here then ends_at u (Leaves u.pa) else (if not present then ends_at u (Refuses NotPresent) else (if reserved then ends_at u (Refuses Reserved) else (if large then ends_at u (Lands page low) else goes_on u rest)))).visited
    → SameBytes one other u.pa u.size
first-visited one other false present reserved large u page low rest a = All-head (Same one other) u [] a
first-visited one other true false reserved large u page low rest a = All-head (Same one other) u [] a
first-visited one other true true true large u page low rest a = All-head (Same one other) u [] a
first-visited one other true true false true u page low rest a = All-head (Same one other) u [] a
first-visited one other true true false false u page low rest a = All-head (Same one other) u rest.visited a

-- the rest of the way matters only where the entry goes on to it
same-rest : (one other : List Area) (here present reserved large : Bool) (u : Used) (page low : ℕ) (rest rest' : Descent)
    → Agree one other (if not here then ends_at u (Leaves u.pa) else (if not present then ends_at u (Refuses NotPresent) else (if reserved then ends_at u (Refuses Reserved) else (if large then ends_at u (Lands page low) else goes_on u rest)))).visited
    → (Agree one other rest.visited → rest' ≡ rest)
    → (if not here then ends_at u (Leaves u.pa) else (if not present then ends_at u (Refuses NotPresent) else (if reserved then ends_at u (Refuses Reserved) else (if large then ends_at u (Lands page low) else goes_on u rest'))))
    ≡ (if not here then ends_at u (Leaves u.pa) else (if not present then ends_at u (Refuses NotPresent) else (if reserved then ends_at u (Refuses Reserved) else (if large then ends_at u (Lands page low) else goes_on u rest))))
same-rest one other false present reserved large u page low rest rest' a f = refl
same-rest one other true false reserved large u page low rest rest' a f = refl
same-rest one other true true true large u page low rest rest' a f = refl
same-rest one other true true false true u page low rest rest' a f = refl
same-rest one other true true false false u page low rest rest' a f = ap (goes_on u) (f (All-tail (Same one other) u rest.visited a))

down : (one other : List Area) (cpu : Cpu) (la : ℕ) (ls : List Level) (table : ℕ) → Agree one other (descend one cpu la ls table).visited → descend other cpu la ls table ≡ descend one cpu la ls table
unfolding descend
down one other cpu la [] table a = refl
down one other cpu la (level ∷ ls) table a =
    let u : Used = entry_at one (place level table la) level.size in
    let s : SameBytes one other (place level table la) level.size = first-visited one other _ _ _ _ u _ _ _ a in
    let r = same-ram one other (place level table la) level.size s in
    let v = same-value one other (place level table la) level.size s in
    rw (r, v) (same-rest one other _ _ _ _ u _ _ _ _ a (λ b. down one other cpu la ls (frame level 12 (value_at one (place level table la) level.size)) b))

descents : (one other : List Area) (cpu : Cpu) (la : ℕ) → Agree one other (descent one cpu la).visited → descent other cpu la ≡ descent one cpu la
unfolding descent
descents one other cpu la a = down one other cpu la (levels_of cpu) (root_of cpu) a

by-paging : (b : Bool) (one other : List Area) (cpu : Cpu) (la : ℕ) (kind : Kind) → pg cpu ≡ b → Agree one other (entries one cpu la)
    → (walk other cpu la kind ≡ walk one cpu la kind) × (entries other cpu la ≡ entries one cpu la)
unfolding walk entries
by-paging true one other cpu la kind on a =
    let e = descents one other cpu la (rw on at a) in
    rw (on, e) (refl, refl)
by-paging false one other cpu la kind off a = rw off (refl, refl)

pub depends_on_entries_alone : DependsOnEntriesAlone
depends_on_entries_alone one other cpu la kind a = by-paging (pg cpu) one other cpu la kind refl a
