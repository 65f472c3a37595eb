use Rattle.std.proofs.Common.{ℕ, ◌≡◌, ◌<◌, ◌≤◌, ◌+◌, ◌*◌, ◌/◌, ◌%◌, ◌^◌, ◌⊎◌, inl, inr, List, [], ◌∷◌, refl, ap, arith, Bool, true, false, if◌then◌else◌, Result, Ok, Err}
use Rattle.std.specs.List.{AllByRecursion}
use Rattle.xe_base.specs.Ram.{Area}
use Rattle.xe_base.specs.State.{pae, lma, pg}
use Rattle.xe_base.specs.declared.cpu.Cpu.{Cpu}
use Rattle.xe_walk.proofs.Bounds.{LandsWell, IsLanding, Bounds, descent-bounds}
use Rattle.xe_walk.specs.Entry.{value_at}
use Rattle.xe_walk.specs.Format.{levels_of, levels_32, levels_pae, levels_4, pse, root_of, place, frame}
use Rattle.xe_walk.specs.Laws.{further, TranslatesPagesTogether}
use Rattle.xe_walk.specs.Rights.{fault_at}
use Rattle.xe_walk.specs.Walk.{End, Lands, Refuses, Leaves, Reached, descend, descent, concluded, walk, entries}
use Rattle.xe_walk.specs.declared.entry.Used.{Used}
use Rattle.xe_walk.specs.declared.format.Level.{Level}
use Rattle.xe_walk.specs.declared.rights.Kind.{Kind}
use Rattle.xe_walk.specs.declared.rights.Why.{Why}
use Rattle.xe_walk.specs.declared.rights.Why.TheVariants.{Rights}
use Rattle.xe_walk.specs.declared.walk.WalkStop.{WalkStop}
use Rattle.xe_walk.specs.declared.walk.WalkStop.TheVariants.{Page}

-- The bytes of a page of 4 KiB are translated together.

-- an entry of the level stands for pages of 4 KiB as a whole
abbrev TakesPages : Level → Type 0
TakesPages level = (level.shift ≡ 12) ⊎ (level.shift ≡ 21) ⊎ (level.shift ≡ 22) ⊎ (level.shift ≡ 30) ⊎ (level.shift ≡ 39)

take-pages : (long wide large : Bool) → AllByRecursion TakesPages (if long then levels_4 else (if wide then levels_pae else levels_32 large))
take-pages true wide large = (inr (inr (inr (inr refl))), (inr (inr (inr (inl refl))), (inr (inl refl), (inl refl, tt))))
take-pages false true large = (inr (inr (inr (inl refl))), (inr (inl refl), (inl refl, tt)))
take-pages false false large = (inr (inr (inl refl)), (inl refl, tt))

levels-take : (cpu : Cpu) → AllByRecursion TakesPages (levels_of cpu)
unfolding levels_of
levels-take cpu = take-pages (lma cpu) (pae cpu) (pse cpu)

module _ (la k : ℕ) (h : la % 4096 + k < 4096) where
  same-index : (shift : ℕ) → (shift ≡ 12) ⊎ (shift ≡ 21) ⊎ (shift ≡ 22) ⊎ (shift ≡ 30) ⊎ (shift ≡ 39) → (la + k) / 2 ^ shift ≡ la / 2 ^ shift
  same-index shift (inl e) = rw e (omega arith)
  same-index shift (inr (inl e)) = rw e (omega arith)
  same-index shift (inr (inr (inl e))) = rw e (omega arith)
  same-index shift (inr (inr (inr (inl e)))) = rw e (omega arith)
  same-index shift (inr (inr (inr (inr e)))) = rw e (omega arith)

  same-place : (level : Level) (table : ℕ) → TakesPages level → place level table (la + k) ≡ place level table la
  same-place level table t = ap (λ i. table + i % 2 ^ level.index_bits * level.size) (same-index level.shift t)

  -- the offset in a page of 2 ^ low bytes
  further-in : (low : ℕ) → (low ≡ 12) ⊎ (low ≡ 21) ⊎ (low ≡ 22) ⊎ (low ≡ 30) → (la + k) % 2 ^ low ≡ la % 2 ^ low + k
  further-in low (inl e) = rw e (omega arith)
  further-in low (inr (inl e)) = rw e (omega arith)
  further-in low (inr (inr (inl e))) = rw e (omega arith)
  further-in low (inr (inr (inr e))) = rw e (omega arith)

  module _ (ram : List Area) (cpu : Cpu) where
    same-way : (ls : List Level) (table : ℕ) → AllByRecursion TakesPages ls → descend ram cpu (la + k) ls table ≡ descend ram cpu la ls table
    unfolding descend
    same-way [] table t = refl
    same-way (level ∷ ls) table t = rw (same-place level table t.0, same-way ls (frame level 12 (value_at ram (place level table la) level.size)) t.1) refl

    same-descent : descent ram cpu (la + k) ≡ descent ram cpu la
    unfolding descent
    same-descent = same-way (levels_of cpu) (root_of cpu) (levels-take cpu)

    further-if : (b : Bool) (us : List Used) (pa : ℕ) (kind : Kind) (why : Why) (pa' : ℕ) → pa' ≡ pa + k
        → (if b then Ok (record { pa = pa'; used = us }) else Err (Page (fault_at cpu (la + k) kind why))) ≡ further la k (if b then Ok (record { pa = pa; used = us }) else Err (Page (fault_at cpu la kind why)))
    unfolding fault_at
    further-if true us pa kind why pa' e = rw e refl
    further-if false us pa kind why pa' e = refl

    further-end : (kind : Kind) (us : List Used) (end : End) → LandsWell end → concluded cpu (la + k) kind us end ≡ further la k (concluded cpu la kind us end)
    unfolding fault_at
    further-end kind us (Lands page low) w = let i = further-in low w.size in further-if _ us _ kind Rights _ (omega (arith, i))
    further-end kind us (Refuses why) w = refl
    further-end kind us (Leaves pa) w = refl

    by-paging : (b : Bool) (kind : Kind) → pg cpu ≡ b → (walk ram cpu (la + k) kind ≡ further la k (walk ram cpu la kind)) × (entries ram cpu (la + k) ≡ entries ram cpu la)
    unfolding walk entries
    by-paging true kind on =
        let b = descent-bounds ram cpu la in
        rw (on, same-descent) (further-end kind (descent ram cpu la).visited (descent ram cpu la).end b.lands, refl)
    by-paging false kind off = rw off (refl, refl)

pub translates_pages_together : TranslatesPagesTogether
translates_pages_together ram cpu la k kind h = by-paging la k h ram cpu (pg cpu) kind refl
