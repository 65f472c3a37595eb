use Rattle.std.proofs.Common.{◌≡◌, List, [], refl, ap, Option}
use Rattle.xe_base.specs.Ram.{Area}
use Rattle.xe_base.specs.declared.access.Made.{Made}
use Rattle.xe_icpt.specs.declared.exit.Exit.{Exit}
use Rattle.xe_icpt.specs.declared.point.Point.{Point}
use Rattle.xe_ctx.specs.Machine.{state_of, cells_of, made_of, work_of}
use Rattle.xe_ctx.specs.Part.{begins}
use Rattle.xe_ctx.specs.View.{running}
use Rattle.xe_ctx.specs.declared.machine.Machine.{Machine}
use Rattle.xe_ctx.proofs.Work.{patched-none}

-- What the machine's own methods leave of the step that runs on it.
module _ (hits : Point → Option Exit) (old new : Machine) (s : state_of new ≡ state_of old) where
  pub running-fresh : cells_of new ≡ [] → made_of new ≡ [] → running new hits ≡ begins (state_of old) hits
  running-fresh c m =
      let cpu : new.cpu ≡ old.cpu = ap (λ t. t.cpu) s in
      let mem : new.mem ≡ old.mem = ap (λ t. t.ram) s in
      rw (c, m, patched-none, cpu, mem) refl

  pub running-noted : (made : List Made) → cells_of new ≡ cells_of old → made_of new ≡ made → running new hits ≡ record (running old hits) { made = made }
  running-noted made c m =
      let cpu : new.cpu ≡ old.cpu = ap (λ t. t.cpu) s in
      let mem : new.mem ≡ old.mem = ap (λ t. t.ram) s in
      rw (c, m, cpu, mem) refl

  pub running-stored : (work : List Area) → work_of new ≡ work → made_of new ≡ made_of old → running new hits ≡ record (running old hits) { work = work }
  running-stored work w m =
      let cpu : new.cpu ≡ old.cpu = ap (λ t. t.cpu) s in
      let mem : new.mem ≡ old.mem = ap (λ t. t.ram) s in
      rw (w, m, cpu, mem) refl
