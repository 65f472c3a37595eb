use Rattle.std.proofs.Common.{ℕ, ◌≡◌, Bool, true, false, not, ◌-◌, ◌^◌, refl, ◌∙◌, bit_and, Result, Ok, Err, IfOk}
use Rattle.std.proofs.lemmas.Nat.{and_or_apart, and_assoc}
use Rattle.xe_base.specs.Calm.{fixed_flags}
use Rattle.xe_base.specs.State.{Valid}
use Rattle.xe_base.specs.declared.cpu.Cpu.{Cpu}
use Rattle.xe_opmap.specs.declared.insn.Insn.{Insn}
use Rattle.xe_opmap.specs.declared.row.Row.{Row}
use Rattle.xe_opmap.specs.declared.row.Row.TheVariants as row
use Rattle.xe_flags.specs.Status.{at_place}
use Rattle.xe_flags.proofs.FlagSet.{fixed_written}
use Rattle.xe_ctx.specs.Finishes.{EachGives, IsSound}
use Rattle.xe_ctx.specs.Operand.{IsOf}
use Rattle.xe_ctx.specs.Is.{Sight, Is}
use Rattle.xe_ctx.specs.Runs.{finished}
use Rattle.xe_ctx.specs.declared.stop.End.{End}
use Rattle.xe_ctx.specs.declared.stop.Stop.{Stop}
use Rattle.xe_ctx.proofs.FinishLaws.{each_implies, gives_of}
use Rattle.xe_move.specs.Condition.{cmov_row, set_row}
use Rattle.xe_move.specs.Flag.{carry_row, with_direction, direction_row, sahf_row, lahf_row}
use Rattle.xe_move.specs.Moves.{mov_row, lea_row, xchg_row, nop_row, xlat_row, bswap_row}
use Rattle.xe_move.specs.Extend.{cbw_row, cwd_row, movzx_row, movsx_row}
use Rattle.xe_ctx.specs.Plain.{EndsPlainly}
use Rattle.xe_move.specs.Rows.{row_at, or_undefined, row_of, is_row}
use Rattle.xe_ctx.proofs.Tame.{tame_same, tame_flags, tame_register, plain_end, plain_sound, asked_then, written_end}

-- DF is none of the bits that no instruction changes
fixed_placed : (down : Bool) → bit_and (at_place down 10) (2 ^ 64 - 1 - 0x247FD5) ≡ 0
fixed_placed true = refl
fixed_placed false = refl

fixed_direction : (flags : ℕ) (down : Bool) → fixed_flags (with_direction flags down) ≡ fixed_flags flags
fixed_direction flags down =
    and_or_apart (2 ^ 64 - 1 - 0x247FD5) (bit_and flags (2 ^ 64 - 1 - 2 ^ 10)) (at_place down 10) (fixed_placed down)
    ∙ and_assoc (2 ^ 64 - 1 - 0x247FD5) flags (2 ^ 64 - 1 - 2 ^ 10)

-- Each row ends plainly.
module _ (insn : Insn) (cpu : Cpu) where
  calm_mov : EachGives (EndsPlainly insn cpu) (mov_row insn cpu)
  calm_mov = asked_then (EndsPlainly insn cpu) _ _ (λ value. written_end insn cpu cpu _ _ value (tame_same cpu))

  calm_lea : EachGives (EndsPlainly insn cpu) (lea_row insn cpu)
  calm_lea = plain_end insn cpu _ (tame_register _ _ _ _ (tame_same cpu))

  calm_xchg : EachGives (EndsPlainly insn cpu) (xchg_row insn cpu)
  calm_xchg = asked_then (EndsPlainly insn cpu) _ _ (λ value. written_end insn cpu _ _ _ _ (tame_register _ _ _ value (tame_same cpu)))

  calm_nop : EachGives (EndsPlainly insn cpu) (nop_row insn cpu)
  calm_nop = plain_end insn cpu cpu (tame_same cpu)

  calm_carry : (new : Bool → Bool) → EachGives (EndsPlainly insn cpu) (carry_row new insn cpu)
  calm_carry new = plain_end insn cpu _ (tame_flags _ (tame_same cpu) (fixed_written cpu.rflags _))

  calm_direction : (down : Bool) → EachGives (EndsPlainly insn cpu) (direction_row down insn cpu)
  calm_direction down = plain_end insn cpu _ (tame_flags _ (tame_same cpu) (fixed_direction cpu.rflags down))

  calm_sahf : EachGives (EndsPlainly insn cpu) (sahf_row insn cpu)
  calm_sahf = plain_end insn cpu _ (tame_flags _ (tame_same cpu) (fixed_written cpu.rflags _))

  calm_lahf : EachGives (EndsPlainly insn cpu) (lahf_row insn cpu)
  calm_lahf = plain_end insn cpu _ (tame_register _ _ _ _ (tame_same cpu))

  calm_cmov : EachGives (EndsPlainly insn cpu) (cmov_row insn cpu)
  calm_cmov = asked_then (EndsPlainly insn cpu) _ _ (λ value. plain_end insn cpu _ (tame_register _ _ _ _ (tame_same cpu)))

  calm_set : EachGives (EndsPlainly insn cpu) (set_row insn cpu)
  calm_set = written_end insn cpu cpu _ _ _ (tame_same cpu)

  calm_cbw : EachGives (EndsPlainly insn cpu) (cbw_row insn cpu)
  calm_cbw = plain_end insn cpu _ (tame_register _ _ _ _ (tame_same cpu))

  calm_cwd : EachGives (EndsPlainly insn cpu) (cwd_row insn cpu)
  calm_cwd = plain_end insn cpu _ (tame_register _ _ _ _ (tame_same cpu))

  calm_movzx : EachGives (EndsPlainly insn cpu) (movzx_row insn cpu)
  calm_movzx = asked_then (EndsPlainly insn cpu) _ _ (λ value. plain_end insn cpu _ (tame_register _ _ _ _ (tame_same cpu)))

  calm_movsx : EachGives (EndsPlainly insn cpu) (movsx_row insn cpu)
  calm_movsx = asked_then (EndsPlainly insn cpu) _ _ (λ value. plain_end insn cpu _ (tame_register _ _ _ _ (tame_same cpu)))

  calm_xlat : EachGives (EndsPlainly insn cpu) (xlat_row insn cpu)
  calm_xlat = asked_then (EndsPlainly insn cpu) _ _ (λ value. plain_end insn cpu _ (tame_register _ _ _ _ (tame_same cpu)))

  calm_bswap : EachGives (EndsPlainly insn cpu) (bswap_row insn cpu)
  calm_bswap = plain_end insn cpu _ (tame_register _ _ _ _ (tame_same cpu))

  -- a row of this crate
  plain_at : (r : Row) → EachGives (EndsPlainly insn cpu) (or_undefined (row_at r) insn cpu)
  plain_at row.Mov = calm_mov
  plain_at row.Lea = calm_lea
  plain_at row.Xchg = calm_xchg
  plain_at row.Nop = calm_nop
  plain_at row.Cmc = calm_carry not
  plain_at row.Clc = calm_carry (λ old. false)
  plain_at row.Stc = calm_carry (λ old. true)
  plain_at row.Cld = calm_direction false
  plain_at row.Std = calm_direction true
  plain_at row.Sahf = calm_sahf
  plain_at row.Lahf = calm_lahf
  plain_at row.Cmov = calm_cmov
  plain_at row.Set = calm_set
  plain_at row.Cbw = calm_cbw
  plain_at row.Cwd = calm_cwd
  plain_at row.Movzx = calm_movzx
  plain_at row.Movsx = calm_movsx
  plain_at row.Movsxd = calm_movsx
  plain_at row.Xlat = calm_xlat
  plain_at row.Bswap = calm_bswap
  plain_at other = tt

-- the laws of the whole crate
pub rows_plain : (insn : Insn) (cpu : Cpu) → is_row insn.row ≡ true → EachGives (EndsPlainly insn cpu) (row_of insn cpu)
rows_plain insn cpu built = plain_at insn cpu insn.row

pub rows_sound : (insn : Insn) (cpu : Cpu) → is_row insn.row ≡ true → IsOf cpu insn → Valid cpu → EachGives IsSound (row_of insn cpu)
rows_sound insn cpu built of valid = each_implies (EndsPlainly insn cpu) IsSound (plain_sound insn cpu valid) (row_of insn cpu) (rows_plain insn cpu built)

-- an instruction that finishes leaves a valid state
pub finish_sound : (insn : Insn) (cpu after : Cpu) (res : Result End Stop) (old new : Sight) → is_row insn.row ≡ true → IsOf cpu insn → Is (row_of insn cpu) old (finished res after) new → Valid cpu → IfOk (finished res after) IsSound
finish_sound insn cpu after (Ok e) old new built of_ ran valid = gives_of IsSound (row_of insn cpu) _ old new (rows_sound insn cpu built of_ valid) ran
finish_sound insn cpu after (Err s) old new built of_ ran valid = tt
