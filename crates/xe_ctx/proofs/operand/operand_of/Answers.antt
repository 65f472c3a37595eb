use Rattle.xe_ctx.proofs.operand.operand_of.Goals as goal

-- src/operand.rt:67:24
pub operand_at-requires-clause-modrm : goal.operand_at-requires-clause-modrm
operand_at-requires-clause-modrm c = c.requires.parts.modrm c.in-Some.modrm c.in-Some.is
