use Rattle.std.proofs.Common.{lit<, ◌≡◌, ℕ, zero, suc, List, [], ◌∷◌, ◌++◌, length, take, drop, ◌<◌, ◌+◌, ◌*◌, ◌^◌, ◌/◌, ◌%◌, refl, arith, sym, ◌∙◌, ap, bit_and, pow-add, length-drop}
use Rattle.std.proofs.Math.Arith.{mod-mul}
use Rattle.std.proofs.lemmas.Nat.{and_mask, mod-mul-add}
use Rattle.std.proofs.lemmas.Nat.{pow_pos}
use Rattle.std.proofs.lemmas.List.{take-take, take-append-drop, length-take-le, drop-take, append-nil}
use Rattle.std.proofs.lemmas.List.Elements.{All-head, All-tail, All-take, All-drop}
use Rattle.xe_base.specs.declared.cpu.CodeSize.{CodeSize}
use Rattle.xe_base.specs.Bytes.{num}
use Rattle.xe_modrm.specs.Reader.{AreBytes}
use Rattle.xe_modrm.specs.declared.part.Part.{Part}
use Rattle.xe_modrm.specs.declared.part.Part.TheVariants as part
use Rattle.xe_opmap.specs.Encoding.{decode_part, with_len, finished}
use Rattle.xe_opmap.specs.Known.{IsMask, IsSplit, IsPlace}
use Rattle.xe_opmap.specs.Valid.{IsDecoded}
use Rattle.xe_opmap.specs.declared.insn.Insn.{Insn}
use Rattle.xe_opmap.specs.declared.known.Place.{Place}
use Rattle.xe_opmap.specs.declared.insn.Verdict.{Verdict}
use Rattle.xe_opmap.specs.declared.insn.Verdict.TheVariants as verdict
use Rattle.xe_opmap.specs.declared.insn.Decoded.TheVariants as decoded
use Rattle.xe_opmap.proofs.DecodeLaws.{decode_reader}

-- the lowest byte, and the others, of a number under a mask
low : (n b k : ℕ) → b < 256 → (n * 256 + b) % 2 ^ (8 * suc k) ≡ (n % 2 ^ (8 * k)) * 256 + b
low n b k h =
    let e : 8 * suc k ≡ 8 * k + 8 = omega arith in
    let p : 2 ^ (8 * k + 8) ≡ 2 ^ (8 * k) * 256 = pow-add 2 (8 * k) 8 in
    let m : (n * 256 + b) % (2 ^ (8 * k) * 256) ≡ ((n * 256 + b) / 256 % 2 ^ (8 * k)) * 256 + (n * 256 + b) % 256 = mod-mul (n * 256 + b) (pow_pos (8 * k)) (lit< tt) in
    let d : (n * 256 + b) / 256 ≡ n = omega (arith, h) in
    let r : (n * 256 + b) % 256 ≡ b = mod-mul-add n 256 b h in
    ap (λ j. (n * 256 + b) % 2 ^ j) e ∙ ap (λ j. (n * 256 + b) % j) p ∙ m ∙ ap (λ j. (j % 2 ^ (8 * k)) * 256 + (n * 256 + b) % 256) d ∙ ap (λ j. (n % 2 ^ (8 * k)) * 256 + j) r

-- bytes whose numbers agree under a mask agree as far as it goes
same : (k : ℕ) (xs ys : List ℕ) → AreBytes xs → AreBytes ys → length xs ≡ length ys → num xs % 2 ^ (8 * k) ≡ num ys % 2 ^ (8 * k) → take k xs ≡ take k ys
unfolding num
same zero xs ys a b l e = refl
same (suc k) [] [] a b l e = refl
same (suc k) [] (y ∷ ys) a b l e = absurd (omega (arith, l))
same (suc k) (x ∷ xs) [] a b l e = absurd (omega (arith, l))
same (suc k) (x ∷ xs) (y ∷ ys) a b l e =
    let hx : x < 256 = All-head (λ b. b < 256) x xs a in
    let hy : y < 256 = All-head (λ b. b < 256) y ys b in
    let both : (num xs % 2 ^ (8 * k)) * 256 + x ≡ (num ys % 2 ^ (8 * k)) * 256 + y = sym (low (num xs) x k hx) ∙ e ∙ low (num ys) y k hy in
    let head : x ≡ y = omega (arith, hx, hy, both) in
    let rest : num xs % 2 ^ (8 * k) ≡ num ys % 2 ^ (8 * k) = omega (arith, hx, hy, both) in
    let tail = same k xs ys (All-tail (λ b. b < 256) x xs a) (All-tail (λ b. b < 256) y ys b) (omega (arith, l)) rest in
    ap (λ z. z ∷ take k xs) head ∙ ap (λ z. y ∷ z) tail

under : (k m : ℕ) (xs ys : List ℕ) → IsMask k m → AreBytes xs → AreBytes ys → length xs ≡ length ys → bit_and (num xs) m ≡ bit_and (num ys) m → take k xs ≡ take k ys
under k m xs ys is a b l e = same k xs ys a b l (sym (and_mask (num xs) (8 * k)) ∙ ap (bit_and (num xs)) (sym is) ∙ e ∙ ap (bit_and (num ys)) is ∙ and_mask (num ys) (8 * k))

-- the first n bytes by the two parts
joined : (n a b : ℕ) (xs : List ℕ) → IsSplit n a b → take n xs ≡ take a (take 8 xs) ++ take b (drop 7 xs)
joined n a zero xs s =
    let e : n ≡ a = omega (arith, s.sum) in
    ap (λ j. take j xs) e ∙ sym (take-take a 8 xs (omega (arith, s.at_most))) ∙ sym (append-nil (take a (take 8 xs)))
joined n a (suc b) xs s =
    let e : a ≡ 7 = s.full (omega arith) in
    let m : n ≡ 7 + suc b = omega (arith, s.sum, e) in
    let l : take n xs ≡ take (7 + suc b) xs = ap (λ j. take j xs) m in
    let c : take (7 + suc b) xs ≡ take 7 xs ++ take (suc b) (drop 7 xs) = take_sum 7 (suc b) xs in
    let r : take a (take 8 xs) ≡ take 7 xs = ap (λ j. take j (take 8 xs)) e ∙ take-take 7 8 xs (omega arith) in
    l ∙ c ∙ sym (ap (λ z. z ++ take (suc b) (drop 7 xs)) r)
  where
    take_sum : (n m : ℕ) (xs : List ℕ) → take (n + m) xs ≡ take n xs ++ take m (drop n xs)
    take_sum n m xs = sym (take-append-drop n (take (n + m) xs)) ∙ rw (take-take n (n + m) xs (omega arith), drop-take n m xs) refl

-- what is decoded from some bytes is decoded from all that begin with as many of the same
again : (size : CodeSize) (insn : Insn) (p : Part Verdict) (xs ys : List ℕ) → decode_part size xs ≡ p → finished p ≡ decoded.Insn insn → take insn.len xs ≡ take insn.len ys → finished (decode_part size ys) ≡ decoded.Insn insn
again size insn (part.Got (verdict.Valid parts) n) xs ys e is same =
    let i : with_len parts n ≡ insn = cc in
    let len : n ≡ insn.len = ap (λ (i : Insn). i.len) i in
    let x = (decode_reader size).fixed xs (verdict.Valid parts) n e in
    let front : take n xs ≡ take n ys = ap (λ j. take j xs) len ∙ same ∙ sym (ap (λ j. take j ys) len) in
    let got : decode_part size ys ≡ part.Got (verdict.Valid parts) n = ap (decode_part size) (sym (take-append-drop n ys)) ∙ sym (ap (λ z. decode_part size (z ++ drop n ys)) front) ∙ x.again (drop n ys) in
    ap finished got ∙ is
again size insn (part.Got verdict.Invalid n) xs ys e is same = cc
again size insn (part.Got verdict.Outside n) xs ys e is same = cc
again size insn part.More xs ys e is same = cc

-- a place that is filled so is one of the table's
pub filled : (p : Place) (a b : ℕ) (bytes : List ℕ) → AreBytes bytes → length bytes ≡ 15 → finished (decode_part p.size bytes) ≡ decoded.Insn p.insn → IsDecoded p.size (decoded.Insn p.insn) → IsSplit p.insn.len a b → IsMask a p.front_mask → IsMask b p.back_mask → p.front ≡ bit_and (num (take 8 bytes)) p.front_mask → p.back ≡ bit_and (num (drop 7 bytes)) p.back_mask → IsPlace p
filled p a b xs are l is ranges s fm bm f k = record {
  gives = λ x y ex ey ys ares ly fx fy.
      let first : take a (take 8 xs) ≡ take a (take 8 ys) = under a p.front_mask (take 8 xs) (take 8 ys) fm (All-take (λ b. b < 256) 8 xs are) (All-take (λ b. b < 256) 8 ys ares) (omega (arith, length-take-le 8 xs, length-take-le 8 ys, l, ly)) (sym f ∙ sym ex ∙ sym (ap (λ z. bit_and z p.front_mask) fx)) in
      let rest : take b (drop 7 xs) ≡ take b (drop 7 ys) = under b p.back_mask (drop 7 xs) (drop 7 ys) bm (All-drop (λ b. b < 256) 7 xs are) (All-drop (λ b. b < 256) 7 ys ares) (omega (arith, length-drop 7 xs, length-drop 7 ys, l, ly)) (sym k ∙ sym ey ∙ sym (ap (λ z. bit_and z p.back_mask) fy)) in
      let same : take p.insn.len xs ≡ take p.insn.len ys = joined p.insn.len a b xs s ∙ ap (λ z. z ++ take b (drop 7 xs)) first ∙ ap (λ z. take a (take 8 ys) ++ z) rest ∙ sym (joined p.insn.len a b ys s) in
      again p.size p.insn (decode_part p.size xs) xs ys refl is same;
  ranges = λ x y ex ey. ranges;
}
