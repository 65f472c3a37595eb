use Rattle.std.proofs.Common.{◌≡◌, ℕ, Bool, true, false, List, [], ◌∷◌, cond, take, drop, length, length-drop, ◌+◌, ◌-◌, refl, arith, sym, ◌∙◌, ap}
use Rattle.std.specs.Prelude.{◌==◌}
use Rattle.std.proofs.lemmas.List.{take_all}
use Rattle.xe_base.specs.declared.cpu.CodeSize.{CodeSize}
use Rattle.xe_modrm.specs.declared.part.Part.{Part}
use Rattle.xe_modrm.specs.declared.part.Part.TheVariants.{Got, More}
use Rattle.xe_modrm.specs.declared.part.Prefixes.{Prefixes}
use Rattle.xe_modrm.specs.Reader.{Reader, after_bytes, continued, ◌>>=◌, given, one_byte}
use Rattle.xe_opmap.specs.declared.insn.Verdict.{Verdict}
use Rattle.xe_opmap.specs.Encoding.{after_opcode, after_first_byte}
use Rattle.xe_opmap.specs.Draft.{opcode_part}

after_none : {A : Type 0} (p : Part A) → after_bytes 0 p ≡ p
after_none (Got v n) = ap (Got v) (omega arith)
after_none More = refl

-- a part of no bytes, or of one, before another, by a test
either : {B : Type 0} (f : ℕ → Reader B) (t : Bool) (b : ℕ) (bytes : List ℕ) → continued (cond t (one_byte >>= λ c. given (0x0F00 + c)) (given b) bytes) bytes f ≡ cond t (one_byte >>= λ c. f (0x0F00 + c)) (f b) bytes
either f true b [] = refl
either f true b (c ∷ cs) = refl
either f false b bytes = after_none (f b bytes)

module _ (size : CodeSize) (pre : Prefixes) (b : ℕ) (bytes : List ℕ) where
  -- the opcode, and then what follows it
  by_opcode : continued (opcode_part b bytes) bytes (after_opcode size pre) ≡ after_first_byte size pre b bytes
  unfolding after_first_byte
  by_opcode = either (after_opcode size pre) (b == 0x0F) b bytes

  pub opcode_got : (op used : ℕ) (p : Part Verdict) → opcode_part b bytes ≡ Got op used → p ≡ after_opcode size pre op (take (length bytes - used) (drop used bytes)) → after_bytes used p ≡ after_first_byte size pre b bytes
  opcode_got op used p e f =
      let all : take (length bytes - used) (drop used bytes) ≡ drop used bytes = take_all (length bytes - used) (drop used bytes) (omega (arith, length-drop used bytes)) in
      ap (after_bytes used) (f ∙ ap (after_opcode size pre op) all) ∙ sym (ap (λ q. continued q bytes (after_opcode size pre)) e) ∙ by_opcode

  pub opcode_more : opcode_part b bytes ≡ More → More ≡ after_first_byte size pre b bytes
  opcode_more e = sym (ap (λ q. continued q bytes (after_opcode size pre)) e) ∙ by_opcode
