use Rattle.xe_ctx.proofs.operand.reg_of.Goals as goal

-- src/operand.rt:72:1
pub returns-in-Some-clause-register : goal.returns-in-Some-clause-register
returns-in-Some-clause-register c = let fits = c.requires.parts.modrm c.in-Some.modrm c.in-Some.is in fits.reg
