use Rattle.std.specs.Prelude.{◌==◌, ◌||◌}
use Rattle.xe_ctx.specs.Definition.{ℕ, Bool, Insn}

-- The prefixes that repeat a string instruction (SDM volume 2, "REP/REPE/REPZ/REPNE/REPNZ").

-- REPNE, and REP, which is REPE where elements are compared
abbrev pub repne : ℕ
repne = 0xF2

abbrev pub repe : ℕ
repe = 0xF3

-- one of the two counts
abbrev pub is_repeated : Insn → Bool
is_repeated insn = insn.pre.rep == repne || insn.pre.rep == repe
