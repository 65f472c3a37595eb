use Rattle.std.proofs.Common.{◌≡◌, ℕ, Bool, true, false, List, [], ◌∷◌, drop, ◌+◌, ◌/◌, ◌%◌, refl, arith, sym, ◌∙◌, ap}
use Rattle.std.specs.Prelude.{pos, ◌==◌}
use Rattle.xe_base.specs.declared.cpu.CodeSize.{CodeSize}
use Rattle.xe_modrm.specs.declared.part.ModRm.{ModRm}
use Rattle.xe_opmap.specs.declared.form.OperandKind.TheVariants.{Control}
use Rattle.xe_opmap.specs.Encoding.{operand_rest, modrm_part}
use Rattle.xe_modrm.specs.declared.part.Part.{Part}
use Rattle.xe_modrm.specs.declared.part.Part.TheVariants.{Got, More}
use Rattle.xe_modrm.specs.declared.part.Prefixes.{Prefixes}
use Rattle.xe_modrm.specs.Reader.{after_bytes, continued, ◌>>=◌, one_byte}
use Rattle.xe_modrm.specs.Operand.{is_short, has_sib, disp_len, operand_of, operand_after, operand_part}
use Rattle.xe_modrm.proofs.RegisterLaws.{lone_rest, register_rest}

-- memory at a register or two, of the ModRM byte 0
pub memory_rest : (size : CodeSize) (pre : Prefixes) (bytes : List ℕ) → operand_after size pre 0 bytes ≡ Got (operand_of size pre 0 0 (pos 0)) 0
memory_rest size pre bytes = lone_rest size pre 0 bytes (sib (is_short size pre.adsize)) (disp (is_short size pre.adsize))
  where
    sib : (short : Bool) → has_sib short 0 ≡ false
    sib true = refl
    sib false = refl

    disp : (short : Bool) → disp_len short 0 0 ≡ 0
    disp true = refl
    disp false = refl

pub register_alone : (size : CodeSize) (pre : Prefixes) (m : ℕ) → operand_part size pre ((192 + m % 64) ∷ []) ≡ Got (operand_of size pre (192 + m % 64) 0 (pos 0)) 1
unfolding operand_part
register_alone size pre m = ap (after_bytes 1) (register_rest size pre (192 + m % 64) [] (omega arith))

module _ (size : CodeSize) (pre : Prefixes) (bytes : List ℕ) (m used : ℕ) (first : one_byte bytes ≡ Got m used) where
  pub control_got : (modrm : ModRm) (k : ℕ) → Got modrm k ≡ operand_part size pre ((192 + m % 64) ∷ []) → Got modrm used ≡ modrm_part size pre Control bytes
  unfolding modrm_part operand_rest
  control_got modrm k e =
      let same : Got modrm k ≡ Got (operand_of size pre (192 + m % 64) 0 (pos 0)) 1 = e ∙ register_alone size pre m in
      let value : modrm ≡ operand_of size pre (192 + m % 64) 0 (pos 0) = cc in
      let sum : used ≡ used + 0 = omega arith in
      ap (λ (v : ModRm). Got v used) value ∙ ap (Got (operand_of size pre (192 + m % 64) 0 (pos 0))) sum
      ∙ sym (ap (λ p. continued p bytes (operand_rest size pre Control)) first)

  pub control_md : (modrm : ModRm) (k : ℕ) → Got modrm k ≡ operand_part size pre ((192 + m % 64) ∷ []) → (modrm.md == 3) ≡ true
  unfolding operand_of
  control_md modrm k e =
      let same : Got modrm k ≡ Got (operand_of size pre (192 + m % 64) 0 (pos 0)) 1 = e ∙ register_alone size pre m in
      let value : modrm ≡ operand_of size pre (192 + m % 64) 0 (pos 0) = cc in
      let md : modrm.md ≡ (192 + m % 64) / 64 = ap (λ (v : ModRm). v.md) value in
      let three : (192 + m % 64) / 64 ≡ 3 = omega arith in
      ap (λ (n : ℕ). n == 3) (md ∙ three)

  pub control_more : More ≡ operand_part size pre ((192 + m % 64) ∷ []) → More ≡ modrm_part size pre Control bytes
  control_more e =
      let no_more : More ≡ Got (operand_of size pre (192 + m % 64) 0 (pos 0)) 1 = e ∙ register_alone size pre m in
      cc

-- one byte and two more parts, grouped in either way
module _ {A B : Type 0} (f : ℕ → List ℕ → Part A) (g : A → List ℕ → Part B) where
  after_sum : (n m : ℕ) (p : Part B) → after_bytes (n + m) p ≡ after_bytes n (after_bytes m p)
  after_sum n m (Got v k) = ap (Got v) (omega arith)
  after_sum n m More = refl

  regroup : (b : ℕ) (bs : List ℕ) (p : Part A) → continued (after_bytes 1 p) (b ∷ bs) g ≡ after_bytes 1 (continued p bs g)
  regroup b bs (Got v n) = let e : drop (1 + n) (b ∷ bs) ≡ drop n bs = search (arith) in ap (λ t. after_bytes (1 + n) (g v t)) e ∙ after_sum 1 n (g v (drop n bs))
  regroup b bs More = refl

  pub one_first : (bytes : List ℕ) → ((one_byte >>= f) >>= g) bytes ≡ (one_byte >>= λ m. f m >>= g) bytes
  one_first [] = refl
  one_first (b ∷ bs) = regroup b bs (f b bs)
