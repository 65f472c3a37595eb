use Rattle.std.proofs.Common.{◌≡◌, ℕ, Bool, true, false, List, [], ◌∷◌, ◌++◌, length, take, ◌+◌, refl, arith, sym, ◌∙◌, ap, subst, nat_lt}
use Rattle.std.specs.Prelude.{ℤ, if◌then◌else◌}
use Rattle.std.proofs.lemmas.Bool.{le-ltb}
use Rattle.std.proofs.lemmas.List.{append-nil, take_all}
use Rattle.xe_base.specs.declared.cpu.CodeSize.{CodeSize}
use Rattle.xe_modrm.specs.Reader.{Decides, ◌>>=◌, given, some_bytes, one_byte}
use Rattle.xe_modrm.specs.Operand.{is_short, has_sib, disp_len, sib_part, disp_part, signed_of, operand_of, operand_after, operand_part}
use Rattle.xe_modrm.specs.OperandLaw.{byte_of, HasOperandParts, GotIsParts, PartsAreGot, MoreGoesOn}
use Rattle.xe_modrm.specs.declared.part.ModRm.{ModRm}
use Rattle.xe_modrm.specs.declared.part.Part.TheVariants.{Got, More}
use Rattle.xe_modrm.specs.declared.part.Prefixes.{Prefixes}
use Rattle.xe_modrm.proofs.ReaderLaws.{both_got, after_got, some_got, splits, joins, one_reader, decided, undecided, goes_again}
use Rattle.xe_modrm.proofs.PartLaws.{sib_reader, disp_reader, operand_reader}

-- An operand is read exactly as its parts, one after another, say.

-- a part of no bytes
pub given_empty : {A : Type 0} (v w : A) (bs : List ℕ) → Decides (given v) bs w → (v ≡ w) × (bs ≡ [])
given_empty v w [] e = let same : v ≡ w = cc in (same, refl)
given_empty v w (b ∷ bs) e = let none : 0 ≡ length (b ∷ bs) = cc in absurd (omega arith)

-- the SIB byte, or none
sib_parts : (t : Bool) (bs : List ℕ) (v : ℕ) → Decides (sib_part t) bs v → (length bs ≡ (if t then 1 else 0)) × (v ≡ byte_of bs)
sib_parts true [] v e = cc
sib_parts true (b ∷ bs) v e = let n : 1 ≡ length (b ∷ bs) = cc in let same : b ≡ v = cc in (sym n, sym same)
sib_parts false [] v e = let same : 0 ≡ v = cc in (refl, sym same)
sib_parts false (b ∷ bs) v e = let none : 0 ≡ length (b ∷ bs) = cc in absurd (omega arith)

sib_read : (t : Bool) (bs : List ℕ) → length bs ≡ (if t then 1 else 0) → Decides (sib_part t) bs (byte_of bs)
sib_read true [] n = absurd (omega (arith, n))
sib_read true (b ∷ bs) n = ap (Got b) (sym n)
sib_read false [] n = refl
sib_read false (b ∷ bs) n = absurd (omega (arith, n))

-- the displacement
disp_parts : (n : ℕ) (bs : List ℕ) (v : ℤ) → Decides (disp_part n) bs v → (length bs ≡ n) × (v ≡ signed_of bs)
disp_parts n bs v e =
    let b = both_got (some_bytes n bs) bs (λ ds. given (signed_of ds)) v (length bs) e in
    let s = some_got n b.n (nat_lt (length bs) n) (take n bs) b.first b.got in
    let end : 0 ≡ b.m = (let same : Got (signed_of b.first) 0 ≡ Got v b.m = b.then in cc) in
    let value : signed_of b.first ≡ v = (let same : Got (signed_of b.first) 0 ≡ Got v b.m = b.then in cc) in
    let len : length bs ≡ n = omega (arith, b.sum, s.2, end) in
    let all : take n bs ≡ bs = take_all n bs (omega (arith, len)) in
    (len, sym value ∙ ap signed_of (sym s.1 ∙ all))

disp_read : (n : ℕ) (bs : List ℕ) → length bs ≡ n → Decides (disp_part n) bs (signed_of bs)
disp_read n bs len =
    let all : take n bs ≡ bs = take_all n bs (omega (arith, len)) in
    let sum : n + 0 ≡ length bs = omega (arith, len) in
    rw (le-ltb (length bs) n (omega (arith, len)), all) (ap (Got (signed_of bs)) sum)

module _ (size : CodeSize) (pre : Prefixes) where
  pub after_parts : (m : ℕ) (rest : List ℕ) (operand : ModRm) → Decides (operand_after size pre m) rest operand → HasOperandParts size pre (m ∷ rest) operand
  unfolding operand_after
  after_parts m rest operand e =
      let a = splits (sib_part (has_sib (is_short size pre.adsize) m)) (λ sib. disp_part (disp_len (is_short size pre.adsize) m sib) >>= λ disp. given (operand_of size pre m sib disp)) (sib_reader (has_sib (is_short size pre.adsize) m)) rest operand e in
      let b = splits (disp_part (disp_len (is_short size pre.adsize) m a.2)) (λ disp. given (operand_of size pre m a.2 disp)) (disp_reader (disp_len (is_short size pre.adsize) m a.2)) a.1 operand a.5 in
      let end = given_empty (operand_of size pre m a.2 b.2) operand b.1 b.5 in
      let sib = sib_parts (has_sib (is_short size pre.adsize) m) a.0 a.2 a.4 in
      let disp = disp_parts (disp_len (is_short size pre.adsize) m a.2) b.0 b.2 b.4 in
      record {
        modrm = m;
        sib = a.0;
        displacement = b.0;
        spelling = ap (λ t. m ∷ t) (a.3 ∙ ap (λ t. a.0 ++ t) (b.3 ∙ ap (λ t. b.0 ++ t) end.1 ∙ append-nil b.0));
        sib_there = sib.0;
        displacement_there = disp.0 ∙ ap (disp_len (is_short size pre.adsize) m) sib.1;
        meaning = sym end.0 ∙ ap (λ (v : ℕ). operand_of size pre m v b.2) sib.1 ∙ ap (operand_of size pre m (byte_of a.0)) disp.1;
      }

  whole_parts : (bytes : List ℕ) (operand : ModRm) → Decides (operand_part size pre) bytes operand → HasOperandParts size pre bytes operand
  unfolding operand_part
  whole_parts [] operand e = absurd (let none : More ≡ Got operand 0 = e in cc)
  whole_parts (m ∷ rest) operand e =
      let a = after_got 1 (length (m ∷ rest)) (operand_after size pre m rest) operand e in
      let len : a.0 ≡ length rest = omega (arith, a.2) in
      after_parts m rest operand (a.1 ∙ ap (Got operand) len)

  after_read : (m : ℕ) (sib disp : List ℕ) → length sib ≡ (if has_sib (is_short size pre.adsize) m then 1 else 0) → length disp ≡ disp_len (is_short size pre.adsize) m (byte_of sib) → Decides (operand_after size pre m) (sib ++ disp) (operand_of size pre m (byte_of sib) (signed_of disp))
  unfolding operand_after
  after_read m sib disp a b =
      let two = joins (disp_part (disp_len (is_short size pre.adsize) m (byte_of sib))) (λ d. given (operand_of size pre m (byte_of sib) d)) (disp_reader (disp_len (is_short size pre.adsize) m (byte_of sib))) disp [] (signed_of disp) (operand_of size pre m (byte_of sib) (signed_of disp)) (disp_read (disp_len (is_short size pre.adsize) m (byte_of sib)) disp b) refl in
      let tail : Decides (disp_part (disp_len (is_short size pre.adsize) m (byte_of sib)) >>= λ d. given (operand_of size pre m (byte_of sib) d)) disp (operand_of size pre m (byte_of sib) (signed_of disp)) = subst (λ t. Decides (disp_part (disp_len (is_short size pre.adsize) m (byte_of sib)) >>= λ d. given (operand_of size pre m (byte_of sib) d)) t (operand_of size pre m (byte_of sib) (signed_of disp))) (append-nil disp) two in
      joins (sib_part (has_sib (is_short size pre.adsize) m)) (λ s. disp_part (disp_len (is_short size pre.adsize) m s) >>= λ d. given (operand_of size pre m s d)) (sib_reader (has_sib (is_short size pre.adsize) m)) sib disp (byte_of sib) (operand_of size pre m (byte_of sib) (signed_of disp)) (sib_read (has_sib (is_short size pre.adsize) m) sib a) tail

  whole_read : (bytes : List ℕ) (operand : ModRm) → HasOperandParts size pre bytes operand → Decides (operand_part size pre) bytes operand
  unfolding operand_part
  whole_read bytes operand p =
      let after = after_read p.modrm p.sib p.displacement p.sib_there p.displacement_there in
      let here : Decides (one_byte >>= operand_after size pre) (p.modrm ∷ (p.sib ++ p.displacement)) (operand_of size pre p.modrm (byte_of p.sib) (signed_of p.displacement)) = joins one_byte (operand_after size pre) one_reader (p.modrm ∷ []) (p.sib ++ p.displacement) p.modrm (operand_of size pre p.modrm (byte_of p.sib) (signed_of p.displacement)) refl after in
      subst (λ t. Decides (one_byte >>= operand_after size pre) t operand) (sym p.spelling) (subst (λ (v : ModRm). Decides (one_byte >>= operand_after size pre) (p.modrm ∷ (p.sib ++ p.displacement)) v) (sym p.meaning) here)

pub got_is_parts : GotIsParts
got_is_parts size pre bytes operand n e =
    let x = decided (operand_part size pre) (operand_reader size pre) bytes operand n e in
    (x.0, whole_parts size pre (take n bytes) operand x.1)

pub parts_are_got : PartsAreGot
parts_are_got size pre bytes rest operand p = goes_again (operand_part size pre) (operand_reader size pre) bytes rest operand (whole_read size pre bytes operand p)

pub more_goes_on : MoreGoesOn
more_goes_on size pre bytes e =
    let x = undecided (operand_part size pre) (operand_reader size pre) bytes e in
    (x.0, x.1, x.2, x.3, whole_parts size pre (bytes ++ x.0) x.1 x.4)
