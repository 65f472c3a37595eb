use Rattle.std.proofs.Common.{ℕ, ◌≡◌, ◌∙◌, ◌<◌, ◌≤◌, ◌+◌, ◌^◌, List, [], ◌∷◌, ◌++◌, length, drop, get_or, refl, sym, ap, arith, Bool, true, false, if◌then◌else◌, Option, Some, None, Result, Err, add-one, nat_lt, ◌-◌}
use Rattle.std.proofs.lemmas.List.{append_assoc, append-nil}
use Rattle.std.proofs.Math.Seq.{drop-cons}
use Rattle.std.proofs.lemmas.List.{drop_all}
use Rattle.xe_base.specs.Bits.{bit}
use Rattle.xe_base.specs.Ram.{Area}
use Rattle.xe_base.specs.State.{pg}
use Rattle.xe_base.specs.declared.cpu.Cpu.{Cpu}
use Rattle.xe_walk.specs.Entry.{entry_of, counted}
use Rattle.xe_walk.specs.Format.{levels_of, root_of, place, frame, is_large, has_reserved}
use Rattle.xe_walk.specs.Rights.{fault_at}
use Rattle.xe_walk.specs.Walk.{Lands, Reached, descend, descent, concluded, walk}
use Rattle.xe_walk.specs.declared.entry.Used.{Used}
use Rattle.xe_walk.specs.declared.format.Level.{Level}
use Rattle.xe_walk.specs.declared.rights.Kind.{Kind}
use Rattle.xe_walk.specs.declared.rights.Why.TheVariants.{NotPresent, Reserved}
use Rattle.xe_walk.specs.declared.walk.WalkStop.{WalkStop}
use Rattle.xe_walk.specs.declared.walk.WalkStop.TheVariants.{Page, EntryNotRam}

-- The way down as the loop over the levels goes it: what is left of it, behind the entries that were used so far.

abbrev pub left : List Area → Cpu → ℕ → Kind → List Level → ℕ → List Used → Result Reached WalkStop
left ram cpu la kind ls table us = concluded cpu la kind (us ++ (descend ram cpu la ls table).visited) (descend ram cpu la ls table).end

-- ---- entries

none-outside : (b : Bool) (v : ℕ) → (if b then Some v else None) ≡ None → b ≡ false
none-outside true v e = absurd cc
none-outside false v e = refl

some-here : (b : Bool) (v e : ℕ) → (if b then Some v else None) ≡ Some e → (b ≡ true) × (v ≡ e)
some-here true v e s = (refl, cc)
some-here false v e s = absurd cc

counted-bounds : (n : ℕ) → (n ≤ counted n) × (counted n ≤ n + 1)
counted-bounds n = elim (nat_lt n (2 ^ 64 - 1)) as (λ b. (n ≤ (if b then n + 1 else n)) × ((if b then n + 1 else n) ≤ n + 1)) [ true ↦ (omega arith, omega arith) | false ↦ (omega arith, omega arith) ]

pub counted-up : (n m : ℕ) → m ≡ counted n → n ≤ m
counted-up n m e = omega (arith, (counted-bounds n).0)

pub counted-by_one : (n m : ℕ) → m ≡ counted n → m ≤ n + 1
counted-by_one n m e = omega (arith, (counted-bounds n).1)

-- ---- one level

module _ (ram : List Area) (cpu : Cpu) (la : ℕ) (kind : Kind) (level : Level) (ls : List Level) (table : ℕ) (us : List Used) where
  abbrev here : ℕ
  here = place level table la

  cons-outside : entry_of ram here level.size ≡ None → left ram cpu la kind (level ∷ ls) table us ≡ Err (EntryNotRam here)
  unfolding descend
  cons-outside e = let f = none-outside _ _ e in rw f refl

  module _ (e : ℕ) (s : entry_of ram here level.size ≡ Some e) where
    cons-absent : bit e 0 ≡ false → left ram cpu la kind (level ∷ ls) table us ≡ Err (Page (fault_at cpu la kind NotPresent))
    unfolding descend
    cons-absent z = let f = some-here _ _ _ s in rw (f.0, f.1, z) refl

    cons-reserved : bit e 0 ≡ true → has_reserved cpu level e ≡ true → left ram cpu la kind (level ∷ ls) table us ≡ Err (Page (fault_at cpu la kind Reserved))
    unfolding descend
    cons-reserved z r = let f = some-here _ _ _ s in rw (f.0, f.1, z, r) refl

    module _ (z : bit e 0 ≡ true) (r : has_reserved cpu level e ≡ false) where
      cons-large : is_large level e ≡ true → left ram cpu la kind (level ∷ ls) table us ≡ concluded cpu la kind (us ++ record { pa = here; size = level.size; value = e } ∷ []) (Lands (frame level level.shift e) level.shift)
      unfolding descend
      cons-large l = let f = some-here _ _ _ s in rw (f.0, f.1, z, r, l) refl

      cons-next : is_large level e ≡ false → left ram cpu la kind (level ∷ ls) table us ≡ left ram cpu la kind ls (frame level 12 e) (us ++ record { pa = here; size = level.size; value = e } ∷ [])
      unfolding descend
      cons-next l = let f = some-here _ _ _ s in rw (f.0, f.1, z, r, l) (rw append_assoc refl)

-- behind the last level
nil-left : (ram : List Area) (cpu : Cpu) (la : ℕ) (kind : Kind) (table : ℕ) (us : List Used) → left ram cpu la kind [] table us ≡ concluded cpu la kind us (Lands table 12)
unfolding descend
nil-left ram cpu la kind table us = rw append-nil refl

-- ---- the loop at an index

module _ (ram : List Area) (cpu : Cpu) (la : ℕ) (kind : Kind) (ls : List Level) (i : ℕ) (d : Level) (h : i < length ls) (table : ℕ) (us : List Used) (pa size : ℕ) (p : pa ≡ place (get_or ls i d) table la) (z : size ≡ (get_or ls i d).size) where
  abbrev now : Result Reached WalkStop
  now = left ram cpu la kind (drop i ls) table us

  split : now ≡ left ram cpu la kind (get_or ls i d ∷ drop (i + 1) ls) table us
  split = rw (drop-cons ls i d h, add-one) refl

  read-as : (o : Option ℕ) → entry_of ram pa size ≡ o → entry_of ram (place (get_or ls i d) table la) (get_or ls i d).size ≡ o
  read-as o e = rw (← p, ← z) e

  pub exit-outside : entry_of ram pa size ≡ None → Err (EntryNotRam pa) ≡ now
  exit-outside e = ap (λ x. Err (EntryNotRam x)) p ∙ sym (split ∙ cons-outside ram cpu la kind (get_or ls i d) (drop (i + 1) ls) table us (read-as None e))

  module _ (e : ℕ) (s : entry_of ram pa size ≡ Some e) where
    pub exit-absent : bit e 0 ≡ false → Err (Page (fault_at cpu la kind NotPresent)) ≡ now
    exit-absent b = sym (split ∙ cons-absent ram cpu la kind (get_or ls i d) (drop (i + 1) ls) table us e (read-as (Some e) s) b)

    module _ (b : bit e 0 ≡ true) where
      pub exit-reserved : has_reserved cpu (get_or ls i d) e ≡ true → Err (Page (fault_at cpu la kind Reserved)) ≡ now
      exit-reserved r = sym (split ∙ cons-reserved ram cpu la kind (get_or ls i d) (drop (i + 1) ls) table us e (read-as (Some e) s) b r)

      module _ (r : has_reserved cpu (get_or ls i d) e ≡ false) where
        pub exit-large : is_large (get_or ls i d) e ≡ true → concluded cpu la kind (us ++ record { pa = pa; size = size; value = e } ∷ []) (Lands (frame (get_or ls i d) (get_or ls i d).shift e) (get_or ls i d).shift) ≡ now
        exit-large l = rw (p, z) (sym (split ∙ cons-large ram cpu la kind (get_or ls i d) (drop (i + 1) ls) table us e (read-as (Some e) s) b r l))

        pub next : is_large (get_or ls i d) e ≡ false → now ≡ left ram cpu la kind (drop (i + 1) ls) (frame (get_or ls i d) 12 e) (us ++ record { pa = pa; size = size; value = e } ∷ [])
        next l = rw (p, z) (split ∙ cons-next ram cpu la kind (get_or ls i d) (drop (i + 1) ls) table us e (read-as (Some e) s) b r l)

pub done : (ram : List Area) (cpu : Cpu) (la : ℕ) (kind : Kind) (ls : List Level) (i table : ℕ) (us : List Used) → length ls ≤ i → concluded cpu la kind us (Lands table 12) ≡ left ram cpu la kind (drop i ls) table us
done ram cpu la kind ls i table us h = rw (drop_all i ls h) (sym (nil-left ram cpu la kind table us))

-- the walk at its top
pub walk-top : (ram : List Area) (cpu : Cpu) (la : ℕ) (kind : Kind) (ls : List Level) (table : ℕ) → pg cpu ≡ true → ls ≡ levels_of cpu → table ≡ root_of cpu → left ram cpu la kind ls table [] ≡ walk ram cpu la kind
unfolding walk descent
walk-top ram cpu la kind ls table on l t = rw (l, t, on) refl
