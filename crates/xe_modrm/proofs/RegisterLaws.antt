use Rattle.std.proofs.Common.{◌≡◌, ℕ, Bool, true, false, List, length, ◌/◌, refl, arith, ◌∙◌, ap}
use Rattle.std.specs.Prelude.{pos}
use Rattle.std.proofs.lemmas.Bool.{le-ltb}
use Rattle.xe_base.specs.Bytes.{num}
use Rattle.xe_base.specs.declared.cpu.CodeSize.{CodeSize}
use Rattle.xe_modrm.specs.declared.part.Part.TheVariants.{Got}
use Rattle.xe_modrm.specs.declared.part.Prefixes.{Prefixes}
use Rattle.xe_modrm.specs.Reader.{after_bytes, continued, ◌>>=◌, given}
use Rattle.xe_modrm.specs.Operand.{is_short, has_sib, disp_len, sib_part, disp_part, operand_of, operand_after}

no_sib : (short : Bool) (m : ℕ) → m / 64 ≡ 3 → has_sib short m ≡ false
no_sib true m h = refl
no_sib false m h = rw h refl

no_disp : (short : Bool) (m sib : ℕ) → m / 64 ≡ 3 → disp_len short m sib ≡ 0
no_disp short m sib h = rw h refl

disp_none : (bytes : List ℕ) → disp_part 0 bytes ≡ Got (pos 0) 0
unfolding num
disp_none bytes = rw (le-ltb (length bytes) 0 (omega arith)) refl

-- an operand with neither SIB byte nor displacement is its ModRM byte alone
pub lone_rest : (size : CodeSize) (pre : Prefixes) (m : ℕ) (bytes : List ℕ) → has_sib (is_short size pre.adsize) m ≡ false → disp_len (is_short size pre.adsize) m 0 ≡ 0 → operand_after size pre m bytes ≡ Got (operand_of size pre m 0 (pos 0)) 0
unfolding operand_after
lone_rest size pre m bytes sib disp =
    ap (λ (b : Bool). (sib_part b >>= λ sib. disp_part (disp_len (is_short size pre.adsize) m sib) >>= λ disp. given (operand_of size pre m sib disp)) bytes) sib
    ∙ ap (λ (n : ℕ). after_bytes 0 (continued (disp_part n bytes) bytes (λ disp. given (operand_of size pre m 0 disp)))) disp
    ∙ ap (λ p. after_bytes 0 (continued p bytes (λ disp. given (operand_of size pre m 0 disp)))) (disp_none bytes)

-- a register
pub register_rest : (size : CodeSize) (pre : Prefixes) (m : ℕ) (bytes : List ℕ) → m / 64 ≡ 3 → operand_after size pre m bytes ≡ Got (operand_of size pre m 0 (pos 0)) 0
register_rest size pre m bytes h = lone_rest size pre m bytes (no_sib (is_short size pre.adsize) m h) (no_disp (is_short size pre.adsize) m 0 h)
