use Rattle.xe_base.specs.State.{code_size_of}
use Rattle.xe_ctx.specs.Fetch.{avail}
use Rattle.xe_ctx.specs.View.{cpu_of, state_in}
use Rattle.xe_opmap.proofs.RelationLaws.{answers_of}
use Rattle.xe_core.proofs.fetch.instruction.Goals as goal

-- an instruction has no more bytes than it was decoded from
pub returns-in-Insn-clause-had : goal.returns-in-Insn-clause-had
returns-in-Insn-clause-had g c =
    let a = answers_of (code_size_of (cpu_of c.args.ctx.now)) (avail (state_in c.args.ctx.now)).bytes _ c.in-Insn.ensures.value in
    a.0
