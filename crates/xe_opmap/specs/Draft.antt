use Rattle.std.specs.Prelude.{ℕ, ◌+◌, ◌==◌, if◌then◌else◌}
use Rattle.xe_modrm.specs.Reader.{Reader, ◌>>=◌, given, one_byte}
use Rattle.xe_opmap.specs.Table.{IsOpcode}
use Rattle.xe_modrm.specs.declared.part.Part.{Part}
use Rattle.xe_modrm.specs.declared.part.Part.TheVariants.{Got, More}
use Rattle.xe_opmap.specs.declared.insn.Insn.{Insn}
use Rattle.xe_opmap.specs.declared.insn.Verdict.{Verdict}
use Rattle.xe_opmap.specs.declared.insn.Verdict.TheVariants as verdict
use Rattle.xe_opmap.specs.declared.insn.Judgement.{Judgement}
use Rattle.xe_opmap.specs.declared.insn.Judgement.TheVariants.{Valid, Invalid, Outside}

-- a verdict whose instruction stands in a draft beside it

abbrev pub verdict_of : Judgement → Insn → Verdict
verdict_of Valid draft = verdict.Valid draft
verdict_of Invalid draft = verdict.Invalid
verdict_of Outside draft = verdict.Outside

abbrev pub drafted : Part Judgement → Insn → Part Verdict
drafted (Got j n) draft = Got (verdict_of j draft) n
drafted More draft = More

-- the opcode with this first byte: 0F has a second one
abbrev pub opcode_part : ℕ → Reader ℕ
opcode_part b = if b == 0x0F then (one_byte >>= λ c. given (0x0F00 + c)) else given b

abbrev pub IsGotOpcode : Part ℕ → Type 0
IsGotOpcode (Got op n) = IsOpcode op
IsGotOpcode More = Unit {0}
