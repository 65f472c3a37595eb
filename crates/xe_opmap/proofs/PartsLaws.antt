use Rattle.std.proofs.Common.{◌≡◌, ℕ, Bool, true, false, List, [], ◌∷◌, ◌++◌, length, take, drop, get_or, ◌<◌, ◌+◌, refl, arith, sym, ◌∙◌, ap, cond, length-append, nat_lt}
use Rattle.std.specs.List.{prefix_len, list_all}
use Rattle.std.proofs.lemmas.Bool.{and_parts, lt-ltb, ltb-true}
use Rattle.std.proofs.lemmas.List.{take_at, drop_at, take-append-drop, length-drop}
use Rattle.xe_modrm.specs.declared.part.Part.TheVariants.{Got}
use Rattle.xe_base.specs.declared.cpu.CodeSize.{CodeSize}
use Rattle.xe_opmap.specs.declared.insn.Verdict.{Verdict}
use Rattle.xe_modrm.specs.Reader.{Decides, after_bytes, continued, ◌>>=◌, one_byte}
use Rattle.xe_modrm.specs.Prefix.{is_prefix, prefix_part, prefixes_of}
use Rattle.xe_opmap.specs.Encoding.{after_first_byte, decode_part}
use Rattle.xe_opmap.specs.Relations.{HasParts}
use Rattle.xe_modrm.proofs.ReaderLaws.{both_got, after_got}
use Rattle.xe_modrm.proofs.PartLaws.{prefix_got}
use Rattle.xe_modrm.specs.declared.part.Prefixes.{Prefixes}
use Rattle.std.proofs.Common.{one-add}
use Rattle.std.proofs.lemmas.List.{drop_more}
use Rattle.std.proofs.lemmas.List.Sums.{prefix_len_stops}

-- all of the front passes and the next byte doesn't: so the prefixes are the front
front_len : (p : ℕ → Bool) (xs : List ℕ) (y : ℕ) (ys : List ℕ) → list_all p xs ≡ true → p y ≡ false → prefix_len p (xs ++ y ∷ ys) ≡ length xs
front_len p [] y ys all ends = rw ends refl
front_len p (x ∷ xs) y ys all ends =
    let parts = and_parts (p x) (list_all p xs) all in
    rw parts.0 (omega (arith, front_len p xs y ys parts.1 ends))

front_part : (size : CodeSize) (xs : List ℕ) (y : ℕ) (ys : List ℕ) → list_all (is_prefix size) xs ≡ true → is_prefix size y ≡ false → prefix_part size (xs ++ y ∷ ys) ≡ Got (prefixes_of size xs) (length xs)
unfolding prefix_part
front_part size xs y ys all ends =
    let n = front_len (is_prefix size) xs y ys all ends in
    let inside : length xs < length (xs ++ y ∷ ys) = omega (arith, length-append xs (y ∷ ys)) in
    rw (n, lt-ltb (length xs) (length (xs ++ y ∷ ys)) inside, take_at xs (y ∷ ys) (length xs) refl) refl

-- what is spelled so is decided so
pub reads_from_parts : (size : CodeSize) (bytes : List ℕ) (v : Verdict) → HasParts size bytes v → Decides (decode_part size) bytes v
unfolding decode_part
reads_from_parts size bytes v s =
    let whole = s.prefix ++ s.first ∷ s.rest in
    let front = front_part size s.prefix s.first s.rest s.all s.ends in
    let cut : drop (length s.prefix) (s.prefix ++ s.first ∷ s.rest) ≡ s.first ∷ s.rest = drop_at s.prefix (s.first ∷ s.rest) (length s.prefix) refl in
    let len : length s.prefix + (1 + length s.rest) ≡ length (s.prefix ++ s.first ∷ s.rest) = omega (arith, length-append s.prefix (s.first ∷ s.rest)) in
    rw s.spelling
    (ap (λ p. continued p (s.prefix ++ s.first ∷ s.rest) (λ pre. one_byte >>= after_first_byte size pre)) front
    ∙ ap (λ t. after_bytes (length s.prefix) ((one_byte >>= after_first_byte size (prefixes_of size s.prefix)) t)) cut
    ∙ ap (λ p. after_bytes (length s.prefix) (after_bytes 1 p)) s.goes_on
    ∙ ap (Got v) len)

passes : (p : ℕ → Bool) (xs : List ℕ) → list_all p (take (prefix_len p xs) xs) ≡ true
passes p [] = refl
passes p (x ∷ xs) = go (p x) refl (passes p xs)
  where
    go : (b : Bool) → p x ≡ b → list_all p (take (prefix_len p xs) xs) ≡ true → list_all p (take (cond b (1 + prefix_len p xs) 0) (x ∷ xs)) ≡ true
    go true e rest = rw (one-add, e) rest
    go false e rest = refl

-- what is decided is spelled so
pub parts_from_reads : (size : CodeSize) (bytes : List ℕ) (v : Verdict) → Decides (decode_part size) bytes v → HasParts size bytes v
unfolding decode_part prefix_part
parts_from_reads size bytes v e =
    let b = both_got (prefix_part size bytes) bytes (λ pre. one_byte >>= after_first_byte size pre) v (length bytes) e in
    let p = prefix_got (prefix_len (is_prefix size) bytes) b.n (nat_lt (prefix_len (is_prefix size) bytes) (length bytes)) (prefixes_of size (take (prefix_len (is_prefix size) bytes) bytes)) b.first b.got in
    let inside : prefix_len (is_prefix size) bytes < length bytes = ltb-true (prefix_len (is_prefix size) bytes) (length bytes) p.0 in
    let n = prefix_len (is_prefix size) bytes in
    let cut = drop_more bytes (prefix_len (is_prefix size) bytes) 0 inside in
    let then : (one_byte >>= after_first_byte size (prefixes_of size (take (prefix_len (is_prefix size) bytes) bytes))) (get_or bytes (prefix_len (is_prefix size) bytes) 0 ∷ drop (prefix_len (is_prefix size) bytes + 1) bytes) ≡ Got v b.m
    = ap (one_byte >>= after_first_byte size (prefixes_of size (take (prefix_len (is_prefix size) bytes) bytes))) (sym cut ∙ ap (λ (k : ℕ). drop k bytes) p.2) ∙ ap (λ (q : Prefixes). (one_byte >>= after_first_byte size q) (drop b.n bytes)) p.1 ∙ b.then in
    let a = after_got 1 b.m (after_first_byte size (prefixes_of size (take (prefix_len (is_prefix size) bytes) bytes)) (get_or bytes (prefix_len (is_prefix size) bytes) 0) (drop (prefix_len (is_prefix size) bytes + 1) bytes)) v then in
    let len : a.0 ≡ length (drop (prefix_len (is_prefix size) bytes + 1) bytes) = omega (arith, a.2, b.sum, p.2, length-drop (prefix_len (is_prefix size) bytes + 1) bytes) in
    record {
      prefix = take (prefix_len (is_prefix size) bytes) bytes;
      first = get_or bytes (prefix_len (is_prefix size) bytes) 0;
      rest = drop (prefix_len (is_prefix size) bytes + 1) bytes;
      spelling = sym (take-append-drop (prefix_len (is_prefix size) bytes) bytes) ∙ ap (λ t. take (prefix_len (is_prefix size) bytes) bytes ++ t) cut;
      all = passes (is_prefix size) bytes;
      ends = prefix_len_stops (is_prefix size) bytes 0 inside;
      goes_on = a.1 ∙ ap (Got v) len;
    }
