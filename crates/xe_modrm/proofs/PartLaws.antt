use Rattle.std.proofs.Common.{lit<, ◌≡◌, ℕ, Bool, true, false, List, [], ◌∷◌, ◌++◌, length, take, get_or, ◌<◌, ◌≤◌, ◌+◌, refl, arith, sym, ◌∙◌, ap, cond, length-append, length-take, nat_lt}
use Rattle.std.specs.List.{prefix_len}
use Rattle.std.proofs.lemmas.Bool.{ltb-true, lt-ltb}
use Rattle.std.proofs.lemmas.List.Sums.{prefix_len_is, prefix_len_passes, prefix_len_stops}
use Rattle.std.proofs.lemmas.List.{get_or_append_left, get_or-take, take-append-le, take-take}
use Rattle.xe_base.specs.declared.cpu.CodeSize.{CodeSize}
use Rattle.xe_base.specs.declared.cpu.CodeSize.TheVariants.{B16, B32, B64}
use Rattle.xe_modrm.specs.declared.part.Part.TheVariants.{Got, More}
use Rattle.xe_modrm.specs.declared.part.Prefixes.{Prefixes}
use Rattle.std.proofs.lemmas.List.Elements.{All-replicate}
use Rattle.xe_modrm.specs.Reader.{AreBytes, given, some_bytes}
use Rattle.xe_modrm.specs.Prefix.{is_prefix, prefix_part, prefixes_of}
use Rattle.xe_modrm.specs.Operand.{operand_after, operand_part, sib_part, disp_part, signed_of}
use Rattle.xe_modrm.proofs.ReaderLaws.{IsReader, LooksAhead, both_reader, given_reader, one_reader, some_reader}

-- Prefixes look one byte ahead, and a ModRM operand is a reader.

pub prefix_got : (n m : ℕ) (b : Bool) (v w : Prefixes) → cond b (Got v n) More ≡ Got w m → (b ≡ true) × (v ≡ w) × (n ≡ m)
prefix_got n m true v w e = (refl, cc, cc)
prefix_got n m false v w e = cc

zero_ends : (size : CodeSize) → is_prefix size 0 ≡ false
zero_ends B16 = refl
zero_ends B32 = refl
zero_ends B64 = refl

front_at : (xs ys : List ℕ) (n k : ℕ) → n < length xs → k ≤ n → get_or (take (n + 1) xs ++ ys) k 0 ≡ get_or xs k 0
front_at xs ys n k h l =
    let inside : k < length (take (n + 1) xs) = omega (arith, length-take (n + 1) xs) in
    get_or_append_left (take (n + 1) xs) ys 0 k inside ∙ get_or-take (n + 1) xs k 0 (omega arith)

-- the prefixes end at the same place whatever follows the byte after them
same_prefix : (p : ℕ → Bool) (xs ys : List ℕ) (n : ℕ) → prefix_len p xs ≡ n → n < length xs → prefix_len p (take (n + 1) xs ++ ys) ≡ n
same_prefix p xs ys n is h =
    prefix_len_is p (take (n + 1) xs ++ ys) n 0 (omega (arith, length-append (take (n + 1) xs) ys, length-take (n + 1) xs))
    (λ k l. ap p (front_at xs ys n k h (omega arith)) ∙ prefix_len_passes p xs k 0 (omega arith))
    (λ _. ap p (front_at xs ys n n h (omega arith)) ∙ (let stop = prefix_len_stops p xs 0 (omega arith) in ap (λ (k : ℕ). p (get_or xs k 0)) (sym is) ∙ stop))

prefix_ends : (p : ℕ → Bool) (xs : List ℕ) → p 0 ≡ false → prefix_len p (xs ++ 0 ∷ []) < length (xs ++ 0 ∷ [])
prefix_ends p [] e = rw e (omega arith)
prefix_ends p (x ∷ xs) e = elim (p x) as (λ b. cond b (1 + prefix_len p (xs ++ 0 ∷ [])) 0 < length (x ∷ xs ++ 0 ∷ [])) [ true ↦ omega (arith, prefix_ends p xs e) | false ↦ omega arith ]

zero_byte : AreBytes (0 ∷ [])
zero_byte = All-replicate (λ b. b < 256) 1 0 (lit< tt)

pub prefix_ahead : (size : CodeSize) → LooksAhead (prefix_part size)
unfolding prefix_part
prefix_ahead size = record {
  ahead = λ xs v n e.
      let r = prefix_got (prefix_len (is_prefix size) xs) n (nat_lt (prefix_len (is_prefix size) xs) (length xs)) (prefixes_of size (take (prefix_len (is_prefix size) xs) xs)) v e in
      let inside : n < length xs = omega (arith, ltb-true (prefix_len (is_prefix size) xs) (length xs) r.0, r.2) in
      record {
        within = inside;
        again = λ ys.
            let same = same_prefix (is_prefix size) xs ys n r.2 inside in
            let long : n < length (take (n + 1) xs ++ ys) = omega (arith, length-append (take (n + 1) xs) ys, length-take (n + 1) xs) in
            let front : take n (take (n + 1) xs ++ ys) ≡ take n xs = take-append-le n (take (n + 1) xs) ys (omega (arith, length-take (n + 1) xs)) ∙ take-take n (n + 1) xs (omega arith) in
            let value : prefixes_of size (take n xs) ≡ v = ap (λ (k : ℕ). prefixes_of size (take k xs)) (sym r.2) ∙ r.1 in
            rw (same, lt-ltb n (length (take (n + 1) xs ++ ys)) long, front) (ap (λ u. Got u n) value);
      };
  goes_on = λ xs. (0 ∷ [], zero_byte, rw (lt-ltb (prefix_len (is_prefix size) (xs ++ 0 ∷ [])) (length (xs ++ 0 ∷ [])) (prefix_ends (is_prefix size) xs (zero_ends size))) tt);
}

pub sib_reader : (b : Bool) → IsReader (sib_part b)
sib_reader true = one_reader
sib_reader false = given_reader 0

pub disp_reader : (n : ℕ) → IsReader (disp_part n)
disp_reader n = both_reader (some_bytes n) (λ ds. given (signed_of ds)) (some_reader n) (λ ds. given_reader (signed_of ds))

pub after_reader : (size : CodeSize) (pre : Prefixes) (m : ℕ) → IsReader (operand_after size pre m)
unfolding operand_after
after_reader size pre m = both_reader _ _ (sib_reader _) (λ sib. both_reader _ _ (disp_reader _) (λ disp. given_reader _))

pub operand_reader : (size : CodeSize) (pre : Prefixes) → IsReader (operand_part size pre)
unfolding operand_part
operand_reader size pre = both_reader _ _ one_reader (after_reader size pre)
