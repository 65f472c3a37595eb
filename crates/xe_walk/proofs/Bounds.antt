use Rattle.std.proofs.Common.{ℕ, suc, ◌≡◌, ◌<◌, ◌≤◌, ◌+◌, ◌*◌, ◌/◌, ◌%◌, ◌^◌, ◌⊎◌, inl, inr, List, [], ◌∷◌, length, refl, sym, subst, arith, Bool, true, false, not, if◌then◌else◌, Result, Ok, Err}
use Rattle.std.specs.Prelude.{All, IfOk}
use Rattle.std.specs.List.{AllByRecursion}
use Rattle.std.proofs.lemmas.List.Elements.{All-cons, All-nil, recursion_from_All}
use Rattle.std.proofs.lemmas.Nat.{pow_pos, mod_below, row_fits}
use Rattle.xe_base.specs.Ram.{Area}
use Rattle.xe_base.specs.State.{pae, lma, pg}
use Rattle.xe_base.specs.declared.cpu.Cpu.{Cpu}
use Rattle.xe_walk.proofs.FormatLaws.{are-32, are-pae, are-4, large-shift, levels_length}
use Rattle.xe_walk.specs.Entry.{value_at, IsPlace}
use Rattle.xe_walk.specs.Format.{IsLevel, levels_of, levels_32, levels_pae, levels_4, pse, root_of, place, frame, field}
use Rattle.xe_walk.specs.Walk.{End, Lands, Refuses, Leaves, Descent, Reached, descend, descent, entry_at, ends_at, goes_on, concluded, walk, walked, entries}
use Rattle.xe_walk.specs.declared.entry.Used.{Used}
use Rattle.xe_walk.specs.declared.format.Level.{Level}
use Rattle.xe_walk.specs.declared.rights.Kind.{Kind}
use Rattle.xe_walk.specs.declared.rights.Why.TheVariants.{NotPresent, Reserved}
use Rattle.xe_walk.specs.declared.walk.Hit.{Hit}
use Rattle.xe_walk.specs.declared.walk.WalkStop.{WalkStop}

-- Where entries and pages lie.

-- a page, which begins at a multiple of its size and ends by 2 ^ 40
pub record IsLanding (page low : ℕ) : Type 0 where
  pub size : (low ≡ 12) ⊎ (low ≡ 21) ⊎ (low ≡ 22) ⊎ (low ≡ 30)
  pub whole : page % 2 ^ low ≡ 0
  pub room : page + 2 ^ low ≤ 2 ^ 40

abbrev pub LandsWell : End → Type 0
LandsWell (Lands page low) = IsLanding page low
LandsWell (Refuses why) = Unit {0}
LandsWell (Leaves pa) = Unit {0}

-- a way down of so many levels
pub record Bounds (n : ℕ) (d : Descent) : Type 0 where
  pub places : All IsPlace d.visited
  pub few : length d.visited ≤ n
  pub lands : LandsWell d.end

-- ---- numbers

field-12 : (b x : ℕ) → (b ≡ 32) ⊎ (b ≡ 40) → IsLanding (field b 12 x) 12
field-12 b x (inl e) = rw e (record { size = inl refl; whole = omega arith; room = omega arith })
field-12 b x (inr e) = rw e (record { size = inl refl; whole = omega arith; room = omega arith })

field-21 : (b x : ℕ) → (b ≡ 32) ⊎ (b ≡ 40) → IsLanding (field b 21 x) 21
field-21 b x (inl e) = rw e (record { size = inr (inl refl); whole = omega arith; room = omega arith })
field-21 b x (inr e) = rw e (record { size = inr (inl refl); whole = omega arith; room = omega arith })

field-22 : (b x : ℕ) → (b ≡ 32) ⊎ (b ≡ 40) → IsLanding (field b 22 x) 22
field-22 b x (inl e) = rw e (record { size = inr (inr (inl refl)); whole = omega arith; room = omega arith })
field-22 b x (inr e) = rw e (record { size = inr (inr (inl refl)); whole = omega arith; room = omega arith })

field-30 : (b x : ℕ) → (b ≡ 32) ⊎ (b ≡ 40) → IsLanding (field b 30 x) 30
field-30 b x (inl e) = rw e (record { size = inr (inr (inr refl)); whole = omega arith; room = omega arith })
field-30 b x (inr e) = rw e (record { size = inr (inr (inr refl)); whole = omega arith; room = omega arith })

field-large : (b low x : ℕ) → (b ≡ 32) ⊎ (b ≡ 40) → (low ≡ 21) ⊎ (low ≡ 22) ⊎ (low ≡ 30) → IsLanding (field b low x) low
field-large b low x e (inl l) = rw l (field-21 b x e)
field-large b low x e (inr (inl l)) = rw l (field-22 b x e)
field-large b low x e (inr (inr l)) = rw l (field-30 b x e)

aligned : (t i s : ℕ) → (s ≡ 4) ⊎ (s ≡ 8) → t % 8 ≡ 0 → (t + i * s) % s ≡ 0
aligned t i s (inl e) h = rw e (omega arith)
aligned t i s (inr e) h = rw e (omega arith)

of-page : (t : ℕ) → t % 4096 ≡ 0 → t % 8 ≡ 0
of-page t h = omega arith

-- ---- one level

place-page : (ram : List Area) (level : Level) (table la : ℕ) → IsLevel level → IsLanding table 12 → IsPlace (entry_at ram (place level table la) level.size)
place-page ram level table la l t =
    let i : ℕ = la / 2 ^ level.shift % 2 ^ level.index_bits in
    let b : i < 2 ^ level.index_bits = mod_below (la / 2 ^ level.shift) (2 ^ level.index_bits) (pow_pos level.index_bits) in
    let f : i * level.size + level.size ≤ 2 ^ level.index_bits * level.size = row_fits i level.size (2 ^ level.index_bits) level.size b (omega arith) in
    let w : table % 4096 ≡ 0 = t.whole in
    let r : table + 4096 ≤ 2 ^ 40 = t.room in
    let c : 2 ^ level.index_bits * level.size ≤ 4096 = l.table in
    record { below = omega arith; aligned = aligned table i level.size l.size (of-page table w) }

step : (here present reserved large : Bool) (u : Used) (page low : ℕ) (rest : Descent) (n : ℕ) → IsPlace u → (large ≡ true → IsLanding page low) → Bounds n rest
    → Bounds (suc n) (if not here then ends_at u (Leaves u.pa) else (if not present then ends_at u (Refuses NotPresent) else (if reserved then ends_at u (Refuses Reserved) else (if large then ends_at u (Lands page low) else goes_on u rest))))
step false present reserved large u page low rest n p l b = record { places = All-cons IsPlace u [] p (All-nil IsPlace); few = omega arith; lands = tt }
step true false reserved large u page low rest n p l b = record { places = All-cons IsPlace u [] p (All-nil IsPlace); few = omega arith; lands = tt }
step true true true large u page low rest n p l b = record { places = All-cons IsPlace u [] p (All-nil IsPlace); few = omega arith; lands = tt }
step true true false true u page low rest n p l b = record { places = All-cons IsPlace u [] p (All-nil IsPlace); few = omega arith; lands = l refl }
step true true false false u page low rest n p l b = record { places = All-cons IsPlace u rest.visited p b.places; few = omega (arith, b.few); lands = b.lands }

-- ---- the way down

module _ (ram : List Area) (cpu : Cpu) (la : ℕ) where
  down-level : (level : Level) (ls : List Level) (table n : ℕ) → IsLevel level → IsPlace (entry_at ram (place level table la) level.size)
      → Bounds n (descend ram cpu la ls (frame level 12 (value_at ram (place level table la) level.size))) → Bounds (suc n) (descend ram cpu la (level ∷ ls) table)
  unfolding descend
  down-level level ls table n l p b =
      step _ _ _ _ (entry_at ram (place level table la) level.size) _ _ _ n p
      (λ h. field-large level.address_bits level.shift (value_at ram (place level table la) level.size) l.address_bits (large-shift level _ l h)) b

  down : (ls : List Level) (table : ℕ) → AllByRecursion IsLevel ls → IsLanding table 12 → Bounds (length ls) (descend ram cpu la ls table)
  unfolding descend
  down [] table a t = record { places = All-nil IsPlace; few = omega arith; lands = t }
  down (level ∷ ls) table a t =
      down-level level ls table (length ls) a.0 (place-page ram level table la a.0 t)
      (down ls _ a.1 (field-12 level.address_bits _ a.0.address_bits))

  -- the directory pointers of PAE paging lie in 32 bytes
  pointer : (x : ℕ) → IsPlace (entry_at ram (field 32 5 x + la / 2 ^ 30 % 2 ^ 2 * 8) 8)
  pointer x = record { below = omega arith; aligned = omega arith }

  down-pae : (x : ℕ) → Bounds 3 (descend ram cpu la levels_pae (field 32 5 x))
  down-pae x =
      let a = recursion_from_All IsLevel levels_pae are-pae in
      down-level _ _ (field 32 5 x) 2 a.0 (pointer x) (down _ _ a.1 (field-12 40 _ (inr refl)))

  down-by : (long wide large : Bool) (x : ℕ)
      → Bounds (length (if long then levels_4 else (if wide then levels_pae else levels_32 large)))
      (descend ram cpu la (if long then levels_4 else (if wide then levels_pae else levels_32 large)) (if long then field 40 12 x else (if wide then field 32 5 x else field 32 12 x)))
  down-by true wide large x = down levels_4 _ (recursion_from_All IsLevel levels_4 are-4) (field-12 40 x (inr refl))
  down-by false true large x = down-pae x
  down-by false false large x = down (levels_32 large) _ (recursion_from_All IsLevel (levels_32 large) (are-32 large)) (field-12 32 x (inl refl))

  pub descent-bounds : Bounds (length (levels_of cpu)) (descent ram cpu la)
  unfolding levels_of root_of descent
  descent-bounds = down-by (lma cpu) (pae cpu) (pse cpu) cpu.cr3

-- ---- what a walk that ends well reached

pub record Landed (cpu : Cpu) (la : ℕ) (d : Descent) (r : Reached) : Type 0 where
  pub page : ℕ
  pub low : ℕ
  pub lands : d.end ≡ Lands page low
  pub pa : r.pa ≡ page + la % 2 ^ low
  pub used : r.used ≡ d.visited

landed-if : (b : Bool) (cpu : Cpu) (la page low : ℕ) (us : List Used) (stop : WalkStop) (r : Reached) → (if b then Ok (record { pa = page + la % 2 ^ low; used = us }) else Err stop) ≡ Ok r → Landed cpu la (record { visited = us; end = Lands page low }) r
landed-if true cpu la page low us stop r e = record { page = page; low = low; lands = refl; pa = cc; used = cc }
landed-if false cpu la page low us stop r e = absurd cc

landed-end : (cpu : Cpu) (la : ℕ) (kind : Kind) (us : List Used) (end : End) (r : Reached) → concluded cpu la kind us end ≡ Ok r → Landed cpu la (record { visited = us; end = end }) r
landed-end cpu la kind us (Lands page low) r e = landed-if _ cpu la page low us _ r e
landed-end cpu la kind us (Refuses why) r e = absurd cc
landed-end cpu la kind us (Leaves pa) r e = absurd cc

pub landed : (ram : List Area) (cpu : Cpu) (la : ℕ) (kind : Kind) (r : Reached) → pg cpu ≡ true → walk ram cpu la kind ≡ Ok r → Landed cpu la (descent ram cpu la) r
unfolding walk
landed ram cpu la kind r on e =
    let f : concluded cpu la kind (descent ram cpu la).visited (descent ram cpu la).end ≡ Ok r = rw on at e in
    landed-end cpu la kind (descent ram cpu la).visited (descent ram cpu la).end r f

pub plain : (ram : List Area) (cpu : Cpu) (la : ℕ) (kind : Kind) (r : Reached) → pg cpu ≡ false → walk ram cpu la kind ≡ Ok r → (r.pa ≡ la) × (r.used ≡ [])
unfolding walk
plain ram cpu la kind r off e =
    let f = rw off at e in
    (cc, cc)

-- ---- the clauses

-- the place within a page, and within the larger one
pub record IsWithin (page low la : ℕ) : Type 0 where
  pub offset : (page + la % 2 ^ low) % 4096 ≡ la % 4096
  pub below : page + la % 2 ^ low < 2 ^ 40
  pub whole : (page + la % 2 ^ low) % 2 ^ low ≡ la % 2 ^ low

within-of : (page low la : ℕ) → (low ≡ 12) ⊎ (low ≡ 21) ⊎ (low ≡ 22) ⊎ (low ≡ 30) → page % 2 ^ low ≡ 0 → page + 2 ^ low ≤ 2 ^ 40 → IsWithin page low la
within-of page low la (inl e) w r = let w' : page % 2 ^ 12 ≡ 0 = rw e at w in let r' : page + 2 ^ 12 ≤ 2 ^ 40 = rw e at r in rw e (record { offset = omega arith; below = omega arith; whole = omega arith })
within-of page low la (inr (inl e)) w r = let w' : page % 2 ^ 21 ≡ 0 = rw e at w in let r' : page + 2 ^ 21 ≤ 2 ^ 40 = rw e at r in rw e (record { offset = omega arith; below = omega arith; whole = omega arith })
within-of page low la (inr (inr (inl e))) w r = let w' : page % 2 ^ 22 ≡ 0 = rw e at w in let r' : page + 2 ^ 22 ≤ 2 ^ 40 = rw e at r in rw e (record { offset = omega arith; below = omega arith; whole = omega arith })
within-of page low la (inr (inr (inr e))) w r = let w' : page % 2 ^ 30 ≡ 0 = rw e at w in let r' : page + 2 ^ 30 ≤ 2 ^ 40 = rw e at r in rw e (record { offset = omega arith; below = omega arith; whole = omega arith })

pub within : (page low la : ℕ) → IsLanding page low → IsWithin page low la
within page low la l = within-of page low la l.size l.whole l.room

pub landing : (end : End) (page low : ℕ) → end ≡ Lands page low → LandsWell end → IsLanding page low
landing end page low e w = subst LandsWell e w

-- what is promised of a translation
pub record IsTranslation (ram : List Area) (cpu : Cpu) (la pa : ℕ) (used : List Used) : Type 0 where
  pub offset : pa % 4096 ≡ la % 4096
  pub width : pg cpu ≡ true → pa < 2 ^ 40
  pub plain : pg cpu ≡ false → pa ≡ la
  pub few : length used ≤ length (levels_of cpu)
  pub places : All IsPlace used
  pub visits : used ≡ entries ram cpu la

on-translation : (ram : List Area) (cpu : Cpu) (la : ℕ) (kind : Kind) (r : Reached) → pg cpu ≡ true → walk ram cpu la kind ≡ Ok r → IsTranslation ram cpu la r.pa r.used
unfolding entries
on-translation ram cpu la kind r on e =
    let l : Landed cpu la (descent ram cpu la) r = landed ram cpu la kind r on e in
    let b : Bounds (length (levels_of cpu)) (descent ram cpu la) = descent-bounds ram cpu la in
    let w : IsWithin l.page l.low la = within l.page l.low la (landing _ l.page l.low l.lands b.lands) in
    record {
      offset = rw l.pa w.offset;
      width = λ _. rw l.pa w.below;
      plain = λ off. absurd cc;
      few = rw l.used b.few;
      places = rw l.used b.places;
      visits = rw on l.used;
    }

off-translation : (ram : List Area) (cpu : Cpu) (la : ℕ) (kind : Kind) (r : Reached) → pg cpu ≡ false → walk ram cpu la kind ≡ Ok r → IsTranslation ram cpu la r.pa r.used
unfolding entries
off-translation ram cpu la kind r off e =
    let f = plain ram cpu la kind r off e in
    record {
      offset = rw f.0 refl;
      width = λ on. absurd cc;
      plain = λ _. f.0;
      few = rw f.1 (omega arith);
      places = rw f.1 (All-nil IsPlace);
      visits = rw off f.1;
    }

translation-by : (b : Bool) (ram : List Area) (cpu : Cpu) (la : ℕ) (kind : Kind) (r : Reached) → pg cpu ≡ b → walk ram cpu la kind ≡ Ok r → IsTranslation ram cpu la r.pa r.used
translation-by true = on-translation
translation-by false = off-translation

ok-map : (r : Result Hit WalkStop) (P Q : Hit → Type 0) → ((hit : Hit) → P hit → Q hit) → IfOk r P → IfOk r Q
ok-map (Ok hit) P Q f h = f hit h
ok-map (Err stop) P Q f h = tt

hit-translation : (ram : List Area) (cpu : Cpu) (la : ℕ) (kind : Kind) (r : Result Hit WalkStop) → walked r ≡ walk ram cpu la kind → IfOk r (λ hit. IsTranslation ram cpu la hit.pa hit.used.items)
hit-translation ram cpu la kind (Ok hit) e = translation-by (pg cpu) ram cpu la kind _ refl (sym e)
hit-translation ram cpu la kind (Err stop) e = tt

-- the clauses of a translation, one by one
module _ (ram : List Area) (cpu : Cpu) (la : ℕ) (kind : Kind) (r : Result Hit WalkStop) (e : walked r ≡ walk ram cpu la kind) where
  each : (Q : Hit → Type 0) → ((hit : Hit) → IsTranslation ram cpu la hit.pa hit.used.items → Q hit) → IfOk r Q
  each Q f = ok-map r (λ hit. IsTranslation ram cpu la hit.pa hit.used.items) Q f (hit-translation ram cpu la kind r e)

  pub hit-offset : IfOk r (λ hit. hit.pa % 4096 ≡ la % 4096)
  hit-offset = each _ (λ hit t. t.offset)

  pub hit-width : pg cpu ≡ true → IfOk r (λ hit. hit.pa < 2 ^ 40)
  hit-width on = each _ (λ hit t. t.width on)

  pub hit-few : IfOk r (λ hit. length hit.used.items ≤ 4)
  hit-few = each _ (λ hit t. omega (arith, t.few, levels_length cpu))

  pub hit-places : IfOk r (λ hit. All IsPlace hit.used.items)
  hit-places = each _ (λ hit t. t.places)

  pub hit-visits : IfOk r (λ hit. hit.used.items ≡ entries ram cpu la)
  hit-visits = each _ (λ hit t. t.visits)

-- without paging
pub plain-walk : (ram : List Area) (cpu : Cpu) (la : ℕ) (kind : Kind) → pg cpu ≡ false → walk ram cpu la kind ≡ Ok (record { pa = la; used = [] })
unfolding walk
plain-walk ram cpu la kind off = rw off refl

pub plain-entries : (ram : List Area) (cpu : Cpu) (la : ℕ) → pg cpu ≡ false → entries ram cpu la ≡ []
unfolding entries
plain-entries ram cpu la off = rw off refl
