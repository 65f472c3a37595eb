use Rattle.std.proofs.Common.{◌≡◌, ℕ, List, [], ◌++◌, length, take, drop, ◌≤◌, ◌⊎◌, inl, inr, refl, arith, sym, ◌∙◌, ap, subst}
use Rattle.std.proofs.Common.{nat_eq, false}
use Rattle.std.proofs.lemmas.Bool.Decides.{nat_tests}
use Rattle.std.proofs.lemmas.List.{append-nil, length-take-le, take_all, take-append-drop}
use Rattle.xe_base.specs.declared.cpu.CodeSize.{CodeSize}
use Rattle.xe_modrm.specs.declared.part.Part.{Part}
use Rattle.xe_modrm.specs.declared.part.Part.TheVariants as part
use Rattle.xe_modrm.proofs.ReaderLaws.{no_prefix, covers}
use Rattle.xe_opmap.specs.Encoding.{decode_part, with_len, finished}
use Rattle.xe_opmap.specs.Relations.{Reads, Encodes, HasFront, GoesOn, Answers}
use Rattle.xe_opmap.specs.declared.insn.Insn.{Insn}
use Rattle.xe_opmap.specs.declared.insn.Verdict.{Verdict}
use Rattle.xe_opmap.specs.declared.insn.Verdict.TheVariants as verdict
use Rattle.xe_opmap.specs.declared.insn.Decoded.{Decoded}
use Rattle.xe_opmap.specs.declared.insn.Decoded.TheVariants as decoded
use Rattle.xe_opmap.proofs.DecodeLaws.{decode_reader}

-- what all of the bytes read as, as an answer
encodes_read : (size : CodeSize) (bytes : List ℕ) (v : Verdict) → Reads size bytes v → Encodes size bytes (finished (part.Got v (length bytes)))
encodes_read size bytes (verdict.Valid insn) reads = record { parts = insn; reads = reads; whole = refl }
encodes_read size bytes verdict.Invalid reads = (reads, refl)
encodes_read size bytes verdict.Outside reads = reads

valid_is : (i j : Insn) → verdict.Valid i ≡ verdict.Valid j → i ≡ j
valid_is i j e = cc

-- which of the three a verdict is
abbrev kind : Verdict → ℕ
kind (verdict.Valid insn) = 0
kind verdict.Invalid = 1
kind verdict.Outside = 2

differ : (v w : Verdict) → nat_eq (kind v) (kind w) ≡ false → v ≡ w → ⊥
differ v w no_same e = let same : kind v ≡ kind w = ap kind e in grind (arith, nat_tests)

module _ (size : CodeSize) (xs ys : List ℕ) where
  apart_by : (v w : Verdict) → Reads size xs v → Reads size (xs ++ ys) w → (ys ≡ []) × (v ≡ w)
  apart_by v w a b = no_prefix (decode_part size) (decode_reader size) xs ys v w a b

  same_length : ys ≡ [] → length xs ≡ length (xs ++ ys)
  same_length none = sym (ap (λ t. length (xs ++ t)) none ∙ ap length (append-nil xs))

  pub apart : (d e : Decoded) → Encodes size xs d → Encodes size (xs ++ ys) e → (ys ≡ []) × (d ≡ e)
  apart (decoded.Insn i) (decoded.Insn j) a b =
      let r = apart_by (verdict.Valid a.parts) (verdict.Valid b.parts) a.reads b.reads in
      let parts : a.parts ≡ b.parts = valid_is a.parts b.parts r.1 in
      (r.0, ap decoded.Insn (a.whole ∙ ap (λ (k : Insn). with_len k (length xs)) parts ∙ ap (with_len b.parts) (same_length r.0) ∙ sym b.whole))
  apart (decoded.Insn i) (decoded.Invalid n) a b = let r = apart_by (verdict.Valid a.parts) verdict.Invalid a.reads b.0 in absurd (differ _ _ refl r.1)
  apart (decoded.Insn i) decoded.Outside a b = let r = apart_by (verdict.Valid a.parts) verdict.Outside a.reads b in absurd (differ _ _ refl r.1)
  apart (decoded.Insn i) decoded.More a b = absurd b
  apart (decoded.Invalid m) (decoded.Insn j) a b = let r = apart_by verdict.Invalid (verdict.Valid b.parts) a.0 b.reads in absurd (differ _ _ refl r.1)
  apart (decoded.Invalid m) (decoded.Invalid n) a b = let r = apart_by verdict.Invalid verdict.Invalid a.0 b.0 in (r.0, ap decoded.Invalid (a.1 ∙ same_length r.0 ∙ sym b.1))
  apart (decoded.Invalid m) decoded.Outside a b = let r = apart_by verdict.Invalid verdict.Outside a.0 b in absurd (differ _ _ refl r.1)
  apart (decoded.Invalid m) decoded.More a b = absurd b
  apart decoded.Outside (decoded.Insn j) a b = let r = apart_by verdict.Outside (verdict.Valid b.parts) a b.reads in absurd (differ _ _ refl r.1)
  apart decoded.Outside (decoded.Invalid n) a b = let r = apart_by verdict.Outside verdict.Invalid a b.0 in absurd (differ _ _ refl r.1)
  apart decoded.Outside decoded.Outside a b = let r = apart_by verdict.Outside verdict.Outside a b in (r.0, refl)
  apart decoded.Outside decoded.More a b = absurd b
  apart decoded.More e a b = absurd a

pub cover : (size : CodeSize) (bytes : List ℕ) → HasFront size bytes ⊎ GoesOn size bytes
cover size bytes = elim (covers (decode_part size) (decode_reader size) bytes) [
  | inl x ↦ inl (x.0, finished (part.Got x.1 (length (take x.0 bytes))), x.2, encodes_read size (take x.0 bytes) x.1 x.3)
  | inr x ↦ inr (x.0, finished (part.Got x.1 (length (bytes ++ x.0))), x.2, x.3, encodes_read size (bytes ++ x.0) x.1 x.4)
]

-- where nothing is decided no front of the bytes reads as anything
no_read : (size : CodeSize) (bytes : List ℕ) (n : ℕ) (v : Verdict) → decode_part size bytes ≡ part.More → Reads size (take n bytes) v → ⊥
no_read size bytes n v e reads =
    let whole : take (length (take n bytes)) (take n bytes) ≡ take n bytes = take_all (length (take n bytes)) (take n bytes) (omega arith) in
    let again = ((decode_reader size).fixed (take n bytes) v (length (take n bytes)) reads).again (drop n bytes) in
    let got : decode_part size bytes ≡ part.Got v (length (take n bytes)) = ap (decode_part size) (sym (take-append-drop n bytes)) ∙ ap (λ t. decode_part size (t ++ drop n bytes)) (sym whole) ∙ again in
    let no_more : part.More ≡ part.Got v (length (take n bytes)) = sym e ∙ got in
    cc

no_front : (size : CodeSize) (bytes : List ℕ) → decode_part size bytes ≡ part.More → (n : ℕ) (d : Decoded) → Encodes size (take n bytes) d → ⊥
no_front size bytes e n (decoded.Insn insn) is = no_read size bytes n (verdict.Valid is.parts) e is.reads
no_front size bytes e n (decoded.Invalid m) is = no_read size bytes n verdict.Invalid e is.0
no_front size bytes e n decoded.Outside is = no_read size bytes n verdict.Outside e is
no_front size bytes e n decoded.More is = is

-- what the decoder answers is true of the bytes' front
pub answers : (size : CodeSize) (bytes : List ℕ) (p : Part Verdict) → decode_part size bytes ≡ p → Answers size bytes (finished p)
answers size bytes (part.Got v n) e =
    let x = (decode_reader size).fixed bytes v n e in
    let len : length (take n bytes) ≡ n = length-take-le n bytes x.within in
    let reads : Reads size (take n bytes) v = ap (decode_part size) (sym (append-nil (take n bytes))) ∙ x.again [] ∙ ap (part.Got v) (sym len) in
    got v reads len x.within
  where
    got : (v : Verdict) → Reads size (take n bytes) v → length (take n bytes) ≡ n → n ≤ length bytes → Answers size bytes (finished (part.Got v n))
    got (verdict.Valid insn) reads len within = (within, record { parts = insn; reads = reads; whole = ap (with_len insn) (sym len) })
    got verdict.Invalid reads len within = (within, reads)
    got verdict.Outside reads len within = (n, within, reads)
answers size bytes part.More e = elim (cover size bytes) [
  | inl x ↦ absurd (no_front size bytes e x.0 x.1 x.3)
  | inr x ↦ x
]

pub answers_of : (size : CodeSize) (bytes : List ℕ) (d : Decoded) → d ≡ finished (decode_part size bytes) → Answers size bytes d
answers_of size bytes d is = subst (Answers size bytes) (sym is) (answers size bytes (decode_part size bytes) refl)
