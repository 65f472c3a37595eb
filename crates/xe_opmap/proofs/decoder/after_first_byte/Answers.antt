use Rattle.std.proofs.Common.{sym, ◌∙◌, ap}
use Rattle.xe_modrm.specs.declared.part.Part.{Part}
use Rattle.xe_opmap.specs.declared.insn.Judgement.{Judgement}
use Rattle.xe_opmap.specs.Draft.{drafted}
use Rattle.xe_opmap.proofs.DraftLaws.{opcode_got, opcode_more}
use Rattle.xe_opmap.proofs.decoder.after_first_byte.Goals as goal

pub returns-in-Got-after_opcode-clause-value : goal.returns-in-Got-after_opcode-clause-value
returns-in-Got-after_opcode-clause-value c = opcode_got c.args.size c.args.pre.now c.args.first c.args.bytes.now c.in-Got.op c.in-Got.used _ (sym c.opcode.ensures.value ∙ c.in-Got.is) (ap (λ (r : Part Judgement). drafted r c.after_opcode.new.draft) (sym c.in-Got-after_opcode.is) ∙ c.after_opcode.ensures.value)

pub returns-in-More-after_opcode-clause-value : goal.returns-in-More-after_opcode-clause-value
returns-in-More-after_opcode-clause-value c = opcode_got c.args.size c.args.pre.now c.args.first c.args.bytes.now c.in-Got.op c.in-Got.used _ (sym c.opcode.ensures.value ∙ c.in-Got.is) (ap (λ (r : Part Judgement). drafted r c.after_opcode.new.draft) (sym c.in-More-after_opcode.is) ∙ c.after_opcode.ensures.value)

pub returns-in-More-clause-value : goal.returns-in-More-clause-value
returns-in-More-clause-value c = opcode_more c.args.size c.args.pre.now c.args.first c.args.bytes.now (sym c.opcode.ensures.value ∙ c.in-More.is)
