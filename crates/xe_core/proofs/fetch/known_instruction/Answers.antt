use Rattle.std.proofs.Common.{Option, Some, None, Bor, sym}
use Rattle.std.specs.Prelude.{IfSome}
use Rattle.xe_base.specs.State.{code_size_of}
use Rattle.xe_ctx.specs.Fetch.{avail}
use Rattle.xe_ctx.specs.View.{cpu_of, state_in}
use Rattle.xe_opmap.proofs.RelationLaws.{answers_of}
use Rattle.xe_opmap.specs.declared.insn.Decoded.TheVariants.{Insn as Spelled}
use Rattle.xe_opmap.specs.declared.insn.Insn.{Insn}
use Rattle.xe_core.proofs.fetch.known_instruction.Goals as goal

each : {A : Type 0} (P Q : A → Type 0) (answer : Option A) → ((x : A) → P x → Q x) → IfSome answer P → IfSome answer Q
each P Q (Some x) f h = f x h
each P Q None f h = h

-- an instruction has no more bytes than it was decoded from
pub returns-clause-had : goal.returns-clause-had
returns-clause-had g c = each _ _ c.known.result (λ (insn : Bor Insn) is. (answers_of (code_size_of (cpu_of c.args.ctx.now)) (avail (state_in c.args.ctx.now)).bytes (Spelled insn.now) (sym is)).0) c.known.ensures.is
