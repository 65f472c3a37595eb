use Rattle.std.proofs.Common.{ℕ, ◌≡◌, ◌∙◌, ◌<◌, ◌+◌, ◌%◌, ◌^◌, ◌⊎◌, ◌==◌, inl, inr, List, [], ◌∷◌, length, refl, sym, ap, arith, Bool, true, false, not, ◌&&◌, if◌then◌else◌, Ok}
use Rattle.xe_base.specs.Ram.{Area}
use Rattle.xe_base.specs.State.{pae, lma, pg}
use Rattle.xe_base.specs.declared.cpu.Cpu.{Cpu}
use Rattle.xe_walk.proofs.Bounds.{Bounds, IsWithin, Landed, descent-bounds, landed, plain, landing, within}
use Rattle.xe_walk.specs.Entry.{value_at}
use Rattle.xe_walk.specs.Format.{levels_of, levels_32, levels_pae, levels_4, pse, root_of, place, frame}
use Rattle.xe_walk.specs.Laws.{used_for, IsPage, IsUsable, AreUsable, UsesAsPageSizeSays, UsesPresentEntries}
use Rattle.xe_walk.specs.Walk.{Lands, Refuses, Leaves, Descent, Reached, descend, descent, entry_at, ends_at, goes_on, walk}
use Rattle.xe_walk.specs.declared.entry.Used.{Used}
use Rattle.xe_walk.specs.declared.format.Level.{Level}
use Rattle.xe_walk.specs.declared.rights.Kind.{Kind}
use Rattle.xe_walk.specs.declared.rights.Why.TheVariants.{NotPresent, Reserved}

-- How many entries a way down to a page uses, and what they are.

-- a way down these levels to a page of 2 ^ low bytes uses n entries
abbrev PageAt : List Level → ℕ → ℕ → Type 0
PageAt [] n low = (n ≡ 0) × (low ≡ 12)
PageAt (level ∷ ls) n low = ((n ≡ 1) × (level.has_large ≡ true) × (low ≡ level.shift)) ⊎ ((m : ℕ) × (n ≡ m + 1) × PageAt ls m low)

-- what is known of a way that lands
record Ways (ram : List Area) (cpu : Cpu) (ls : List Level) (d : Descent) (low : ℕ) : Type 0 where
  count : PageAt ls (length d.visited) low
  usable : AreUsable ram cpu ls d.visited

and-left : (a b : Bool) → (a && b) ≡ true → a ≡ true
and-left true b h = refl
and-left false b h = absurd cc

step : (ram : List Area) (cpu : Cpu) (level : Level) (ls : List Level) (here present reserved large : Bool) (u : Used) (page low : ℕ) (rest : Descent) (p l : ℕ)
    → (here ≡ true → present ≡ true → reserved ≡ false → IsUsable ram cpu level u) → (large ≡ true → (level.has_large ≡ true) × (low ≡ level.shift)) → (rest.end ≡ Lands p l → Ways ram cpu ls rest l)
    → (if not here then ends_at u (Leaves u.pa) else (if not present then ends_at u (Refuses NotPresent) else (if reserved then ends_at u (Refuses Reserved) else (if large then ends_at u (Lands page low) else goes_on u rest)))).end ≡ Lands p l
    → Ways ram cpu (level ∷ ls) (if not here then ends_at u (Leaves u.pa) else (if not present then ends_at u (Refuses NotPresent) else (if reserved then ends_at u (Refuses Reserved) else (if large then ends_at u (Lands page low) else goes_on u rest)))) l
step ram cpu level ls false present reserved large u page low rest p l us is go e = absurd cc
step ram cpu level ls true false reserved large u page low rest p l us is go e = absurd cc
step ram cpu level ls true true true large u page low rest p l us is go e = absurd cc
step ram cpu level ls true true false true u page low rest p l us is go e =
    let same : low ≡ l = cc in
    let h = is refl in
    record { count = inl (refl, h.0, sym same ∙ h.1); usable = (us refl refl refl, tt) }
step ram cpu level ls true true false false u page low rest p l us is go e =
    let w = go e in
    record { count = inr (length rest.visited, omega arith, w.count); usable = (us refl refl refl, w.usable) }

ways : (ram : List Area) (cpu : Cpu) (la : ℕ) (ls : List Level) (table page low : ℕ) → (descend ram cpu la ls table).end ≡ Lands page low → Ways ram cpu ls (descend ram cpu la ls table) low
unfolding descend
ways ram cpu la [] table page low e = let s : 12 ≡ low = cc in record { count = (refl, sym s); usable = tt }
ways ram cpu la (level ∷ ls) table page low e =
    step ram cpu level ls _ _ _ _ (entry_at ram (place level table la) level.size) _ _ _ page low
    (λ h p r. record { size = refl; is_ram = h; value = refl; present = p; clear = r })
    (λ l. (and-left _ _ l, refl))
    (λ f. ways ram cpu la ls (frame level 12 (value_at ram (place level table la) level.size)) page low f) e

-- ---- by format

in-32 : (large : Bool) (n low : ℕ) → PageAt (levels_32 large) n low → (n ≡ (if low == 12 then 2 else (if low == 22 then 1 else 0))) × (0 < n)
in-32 large n low (inl w) = rw (w.0, w.2) (refl, omega arith)
in-32 large n low (inr (m, e, inl w)) = absurd cc
in-32 large n low (inr (m, e, inr (k, f, w))) = rw (e, f, w.0, w.1) (refl, omega arith)

in-pae : (n low : ℕ) → PageAt levels_pae n low → (n ≡ (if low == 12 then 3 else (if low == 21 then 2 else 0))) × (0 < n)
in-pae n low (inl w) = absurd cc
in-pae n low (inr (m, e, inl w)) = rw (e, w.0, w.2) (refl, omega arith)
in-pae n low (inr (m, e, inr (k, f, inl w))) = absurd cc
in-pae n low (inr (m, e, inr (k, f, inr (j, g, w)))) = rw (e, f, g, w.0, w.1) (refl, omega arith)

in-4 : (n low : ℕ) → PageAt levels_4 n low → (n ≡ (if low == 12 then 4 else (if low == 21 then 3 else (if low == 30 then 2 else 0)))) × (0 < n)
in-4 n low (inl w) = absurd cc
in-4 n low (inr (m, e, inl w)) = rw (e, w.0, w.2) (refl, omega arith)
in-4 n low (inr (m, e, inr (k, f, inl w))) = rw (e, f, w.0, w.2) (refl, omega arith)
in-4 n low (inr (m, e, inr (k, f, inr (j, g, inl w)))) = absurd cc
in-4 n low (inr (m, e, inr (k, f, inr (j, g, inr (i, h, w))))) = rw (e, f, g, h, w.0, w.1) (refl, omega arith)

in-format : (long wide large : Bool) (n low : ℕ) → PageAt (if long then levels_4 else (if wide then levels_pae else levels_32 large)) n low
    → (n ≡ (if long then (if low == 12 then 4 else (if low == 21 then 3 else (if low == 30 then 2 else 0))) else (if wide then (if low == 12 then 3 else (if low == 21 then 2 else 0)) else (if low == 12 then 2 else (if low == 22 then 1 else 0))))) × (0 < n)
in-format true wide large n low = in-4 n low
in-format false true large n low = in-pae n low
in-format false false large n low = in-32 large n low

counts : (cpu : Cpu) (n low : ℕ) → PageAt (levels_of cpu) n low → (n ≡ used_for cpu low) × (0 < n)
unfolding levels_of
counts cpu n low w = in-format (lma cpu) (pae cpu) (pse cpu) n low w

-- ---- the laws

ways-of : (ram : List Area) (cpu : Cpu) (la page low : ℕ) → (descent ram cpu la).end ≡ Lands page low → Ways ram cpu (levels_of cpu) (descent ram cpu la) low
unfolding descent
ways-of ram cpu la page low e = ways ram cpu la (levels_of cpu) (root_of cpu) page low e

page-of : (ram : List Area) (cpu : Cpu) (la : ℕ) (r : Reached) (page low : ℕ) → (descent ram cpu la).end ≡ Lands page low → r.pa ≡ page + la % 2 ^ low → r.used ≡ (descent ram cpu la).visited → IsPage cpu la r low
page-of ram cpu la r page low lands pa used =
    let b : Bounds (length (levels_of cpu)) (descent ram cpu la) = descent-bounds ram cpu la in
    let i : IsWithin page low la = within page low la (landing _ page low lands b.lands) in
    let w : Ways ram cpu (levels_of cpu) (descent ram cpu la) low = ways-of ram cpu la page low lands in
    let n = counts cpu (length (descent ram cpu la).visited) low w.count in
    record { used = ap length used ∙ n.0; some = omega (arith, n.1, ap length used); offset = ap (λ x. x % 2 ^ low) pa ∙ i.whole }

pub uses_as_page_size_says : UsesAsPageSizeSays
uses_as_page_size_says ram cpu la kind r on e =
    let l : Landed cpu la (descent ram cpu la) r = landed ram cpu la kind r on e in
    (l.low, page-of ram cpu la r l.page l.low l.lands l.pa l.used)

none-usable : (ram : List Area) (cpu : Cpu) (ls : List Level) → AreUsable ram cpu ls []
none-usable ram cpu [] = tt
none-usable ram cpu (level ∷ ls) = tt

present-by : (b : Bool) (ram : List Area) (cpu : Cpu) (la : ℕ) (kind : Kind) (r : Reached) → pg cpu ≡ b → walk ram cpu la kind ≡ Ok r → AreUsable ram cpu (levels_of cpu) r.used
present-by true ram cpu la kind r on e =
    let l : Landed cpu la (descent ram cpu la) r = landed ram cpu la kind r on e in
    let w : Ways ram cpu (levels_of cpu) (descent ram cpu la) l.low = ways-of ram cpu la l.page l.low l.lands in
    rw l.used w.usable
present-by false ram cpu la kind r off e = rw (plain ram cpu la kind r off e).1 (none-usable ram cpu (levels_of cpu))

pub uses_present_entries : UsesPresentEntries
uses_present_entries ram cpu la kind r e = present-by (pg cpu) ram cpu la kind r refl e
