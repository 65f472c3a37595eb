use Rattle.std.proofs.Common.{◌≡◌, sym, subst}
use Rattle.x86emu_c.specs.Emulated.{seen, machine_in}
use Rattle.x86emu_c.specs.Told.{Told}
use Rattle.x86emu_c.proofs.Runs.{has_run}
use Rattle.x86emu_c.proofs.run.x86emu_run.Goals as goal

pub returns-clause-ran : goal.returns-clause-ran
returns-clause-ran c e h i =
    let w = c.deref_mut.ensures.writes_back in let d = c.deref.ensures in let o = c.of-2.ensures in let same : c.deref.result.now ≡ c.run.new.self = cc in
    has_run c.args.batch e (seen c.deref_mut.result.now) (seen c.run.new.self) (machine_in c.of-2.result) (machine_in c.args.m.now) c.tell.new.self h (rw c.deref_mut.ensures.value c.in-Some.ensures.taken) c.run.ensures.ran c.run.ensures.taken (subst (λ x. Told x.report c.tell.new.self) same c.tell.ensures) (rw (sym same) cc)
