use Rattle.std.specs.Prelude.{bit_and, bit_or, ◌-◌, ◌%◌, ◌^◌}
use Rattle.xe_ctx.specs.Definition.{ℕ, Bool, true, false, not, Cpu, Insn, Tree, ah, ends}
use Rattle.xe_base.specs.Registers.{register_value, with_register}
use Rattle.xe_flags.specs.Status.{at_place, status_of, with_status}
use Rattle.xe_ctx.specs.declared.stop.Finish.{Finish}
use Rattle.xe_move.specs.Sized.{with_flags}

-- Flags by themselves (SDM volume 2, "CMC", "CLC", "STC", "CLD", "STD", "SAHF" and "LAHF").

-- the flags with this CF
abbrev pub with_carry : ℕ → Bool → ℕ
with_carry flags carry = with_status flags (record (status_of flags) { carry = carry })

-- CMC CLC STC: the new carry by the old one
abbrev pub carry_row : (Bool → Bool) → Insn → Cpu → Tree Finish
carry_row new insn cpu = ends insn (with_flags cpu (with_carry cpu.rflags (new (status_of cpu.rflags).carry)))

abbrev pub cmc_row : Insn → Cpu → Tree Finish
cmc_row = carry_row not

abbrev pub clc_row : Insn → Cpu → Tree Finish
clc_row = carry_row (λ old. false)

abbrev pub stc_row : Insn → Cpu → Tree Finish
stc_row = carry_row (λ old. true)

-- the place of DF, the direction of string instructions, in the flags
abbrev pub df : ℕ
df = 10

-- the flags with this DF
abbrev pub with_direction : ℕ → Bool → ℕ
with_direction flags down = bit_or (bit_and flags (2 ^ 64 - 1 - 2 ^ df)) (at_place down df)

-- CLD and STD
abbrev pub direction_row : Bool → Insn → Cpu → Tree Finish
direction_row down insn cpu = ends insn (with_flags cpu (with_direction cpu.rflags down))

-- AH, whatever prefixes stand
abbrev pub high_byte_of_ax : Cpu → ℕ
high_byte_of_ax cpu = register_value cpu 1 false ah

-- SAHF: SF, ZF, AF, PF and CF from their places in AH
abbrev pub sahf_row : Insn → Cpu → Tree Finish
sahf_row insn cpu = ends insn (with_flags cpu (with_status cpu.rflags (record (status_of (high_byte_of_ax cpu)) { overflow = (status_of cpu.rflags).overflow })))

-- LAHF: the low byte of the flags to AH
abbrev pub lahf_row : Insn → Cpu → Tree Finish
lahf_row insn cpu = ends insn (with_register cpu 1 false ah (cpu.rflags % 2 ^ 8))
