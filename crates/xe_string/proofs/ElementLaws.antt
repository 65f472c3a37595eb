use Rattle.std.proofs.Common.{ℕ, Bool}
use Rattle.xe_base.specs.Registers.{with_register}
use Rattle.xe_base.specs.declared.cpu.Cpu.{Cpu}
use Rattle.xe_flags.specs.Status.{with_status}
use Rattle.xe_flags.specs.declared.status.Status.{Status}
use Rattle.xe_opmap.specs.declared.insn.Insn.{Insn}
use Rattle.xe_ctx.specs.Finishes.{EachGives}
use Rattle.xe_ctx.proofs.Tame.{asked_then}
use Rattle.xe_string.specs.Compare.{cmps_element, scas_element}
use Rattle.xe_string.specs.Element.{element}
use Rattle.xe_string.specs.Index.{si, di, moved, both_moved}
use Rattle.xe_string.specs.Port.{ins_element, outs_element}
use Rattle.xe_string.specs.Transfer.{movs_element, stos_element, lods_element}
use Rattle.xe_string.specs.declared.element.StringOp.{StringOp}

-- What holds of the registers before an element, and is kept by writes of general registers and of the status flags, holds after it.
module _ (insn : Insn) (cpu : Cpu) (P : Cpu → Type 0) (start : P cpu) (register : (after : Cpu) (n : ℕ) (rex : Bool) (r value : ℕ) → P after → P (with_register after n rex r value)) (flags : (after : Cpu) (s : Status) → P after → P (record after { rflags = with_status cpu.rflags s })) where
  kept-moved : (after : Cpu) (r n : ℕ) → P after → P (moved insn after r n)
  unfolding moved
  kept-moved after r n p = register after _ _ _ _ p

  kept-both : (n : ℕ) → P (both_moved insn cpu n)
  kept-both n = kept-moved (moved insn cpu si n) di n (kept-moved cpu si n start)

  kept-movs : EachGives P (movs_element insn cpu)
  unfolding movs_element
  kept-movs = asked_then P _ _ (λ value. asked_then P _ _ (λ u. kept-both _))

  kept-cmps : EachGives P (cmps_element insn cpu)
  unfolding cmps_element
  kept-cmps = asked_then P _ _ (λ a. asked_then P _ _ (λ b. flags _ _ (kept-both _)))

  kept-stos : EachGives P (stos_element insn cpu)
  unfolding stos_element
  kept-stos = asked_then P _ _ (λ u. kept-moved cpu di _ start)

  kept-lods : EachGives P (lods_element insn cpu)
  unfolding lods_element
  kept-lods = asked_then P _ _ (λ value. kept-moved _ si _ (register cpu _ _ _ value start))

  kept-scas : EachGives P (scas_element insn cpu)
  unfolding scas_element
  kept-scas = asked_then P _ _ (λ b. flags _ _ (kept-moved cpu di _ start))

  kept-ins : EachGives P (ins_element insn cpu)
  unfolding ins_element
  kept-ins = asked_then P _ _ (λ u. asked_then P _ _ (λ v. kept-moved cpu di _ start))

  kept-outs : EachGives P (outs_element insn cpu)
  unfolding outs_element
  kept-outs = asked_then P _ _ (λ u. asked_then P _ _ (λ value. asked_then P _ _ (λ a. kept-moved cpu si _ start)))

  pub element_keeps : (op : StringOp) → EachGives P (element op insn cpu)
  element_keeps StringOp.Movs = kept-movs
  element_keeps StringOp.Cmps = kept-cmps
  element_keeps StringOp.Stos = kept-stos
  element_keeps StringOp.Lods = kept-lods
  element_keeps StringOp.Scas = kept-scas
  element_keeps StringOp.Ins = kept-ins
  element_keeps StringOp.Outs = kept-outs
