use Rattle.std.proofs.Common.{ℕ, ◌≡◌, ◌<◌, ◌^◌, List, [], Ok, Err, Bool, true, false, refl, ◌∙◌, arith, if◌then◌else◌}
use Rattle.std.proofs.Math.Seq.{drop-nil}
use Rattle.xe_base.specs.Ram.{Area}
use Rattle.xe_base.specs.State.{Valid, lma, pg, is_long}
use Rattle.xe_base.specs.declared.cpu.Cpu.{Cpu}
use Rattle.xe_walk.specs.Walk.{walk}
use Rattle.xe_walk.specs.declared.entry.Used.{Used}
use Rattle.xe_walk.specs.declared.rights.Kind.{Kind}
use Rattle.xe_walk.specs.declared.walk.WalkStop.{WalkStop}
use Rattle.xe_ctx.specs.Ending.{stop_of}
use Rattle.xe_ctx.specs.Is.{Sight, Does}
use Rattle.xe_ctx.specs.Memory.{bits_of, place}
use Rattle.xe_ctx.specs.Part.{View}
use Rattle.xe_ctx.specs.Translate.{marks, marked, walk_ending}
use Rattle.xe_ctx.specs.declared.stop.Stop.{Stop}
use Rattle.xe_ctx.proofs.Binds.{does_then, does_give, does_look, does_change, does_stopped}
use Rattle.xe_ctx.proofs.Widths.{unpaged_not_active, unpaged_not_long}

-- The translation of one address, by what the walk answers.

module _ (kind : Kind) (la : ℕ) (v : Sight) where
  pub place-gives : (pa : ℕ) (used : List Used) (w : List Area) (step : View) → Ok (record { pa = pa; used = used }) ≡ walk v.step.work v.step.start.cpu la kind → w ≡ marked v.step.start.cpu kind used v.step.work → step ≡ record v.step { work = w } → Does (place kind la) v (Ok pa) (record v { step = step })
  unfolding place
  place-gives pa used w step e m is = rw is (does_then _ (does_look _ v) (rw (← e) (does_then _ (does_look _ v) (does_then _ (does_change _ v w m) does_give))))

  pub place-stops : (s : WalkStop) (e : Stop) → Err s ≡ walk v.step.work v.step.start.cpu la kind → e ≡ stop_of (walk_ending s) → Does (place kind la) v (Err e) v
  unfolding place
  place-stops s e is end = rw end (does_then _ (does_look _ v) (rw (← is) (does_stopped (walk_ending s))))

  unmarked : (cpu : Cpu) (ram : List Area) → ram ≡ marked cpu kind [] ram
  unfolding marks marked
  unmarked cpu ram = rw drop-nil refl

  unwalked : (ram : List Area) (cpu : Cpu) → pg cpu ≡ false → Ok (record { pa = la; used = [] }) ≡ walk ram cpu la kind
  unfolding walk
  unwalked ram cpu p = rw p refl

  -- without paging an address is a physical one, and nothing changes
  pub place-plain : pg v.step.start.cpu ≡ false → Does (place kind la) v (Ok la) v
  place-plain p = place-gives la [] v.step.work v.step (unwalked v.step.work v.step.start.cpu p) (unmarked v.step.start.cpu v.step.work) refl

-- without paging addresses have 32 bits
narrow : (wide system long active : Bool) → wide ≡ (if system then active else long) → active ≡ false → long ≡ false → wide ≡ false
narrow wide true long active w a l = w ∙ a
narrow wide false long active w a l = w ∙ l

plain-bits : (cpu : Cpu) (kind : Kind) → Valid cpu → pg cpu ≡ false → bits_of cpu kind ≡ 32
plain-bits cpu kind h p =
    let w = narrow _ kind.system (is_long cpu) (lma cpu) refl (unpaged_not_active cpu h p) (unpaged_not_long cpu h p) in
    rw w refl

-- the same of a reference to the registers
pub plain-same : (seen cpu : Cpu) → seen ≡ cpu → pg seen ≡ false → pg cpu ≡ false
plain-same seen cpu e p = rw e at p

pub plain-below : (seen cpu : Cpu) (kind : Kind) (la : ℕ) → seen ≡ cpu → Valid seen → pg seen ≡ false → la < 2 ^ bits_of cpu kind → la < 2 ^ 40
plain-below seen cpu kind la e h p l = let b = plain-bits cpu kind (rw e at h) (rw e at p) in let k : la < 2 ^ 32 = rw b at l in omega arith
