use Rattle.std.proofs.Common.{◌≡◌, Bool, true, false, refl}
use Rattle.xe_base.specs.declared.cpu.Cpu.{Cpu}
use Rattle.xe_ctx.specs.Finishes.{EachGives}
use Rattle.xe_ctx.specs.Privilege.{or_protection}
use Rattle.xe_ctx.specs.Tree.{Tree, ◌>>=◌}

-- what goes on behind a check goes on where it holds
pub guarded : {A : Type 0} (P : A → Type 0) (cpu : Cpu) (holds : Bool) (f : Unit {0} → Tree A) → (holds ≡ true → EachGives P (f tt)) → EachGives P (or_protection cpu holds >>= f)
unfolding or_protection ◌>>=◌
guarded P cpu true f h = h refl
guarded P cpu false f h = tt
