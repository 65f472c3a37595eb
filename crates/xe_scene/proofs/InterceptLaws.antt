-- Words that name an intercept are ASCII, so that text that is no UTF-8 names none.
use Rattle.std.proofs.Common.{ℕ, ◌≡◌, ◌<◌, List, [], ◌∷◌, Bool, true, false, ◌&&◌, if◌then◌else◌, nat_lt, Option, Some, None, Err, refl, subst, ap, ◌==◌, length, inl, inr, ◌⊎◌, arith}
use Rattle.std.proofs.lemmas.Bool.Decides.{nat_tests}
use Rattle.std.proofs.lemmas.Slice.Eq.{bytes_eq-Decides}
use Rattle.std.proofs.lemmas.Str.{IsUtf8-from_ascii}
use Rattle.std.proofs.lemmas.Str.Ascii.{IsAscii-nil, IsAscii-cons}
use Rattle.std.specs.Str.{IsUtf8, IsAscii, bytes_eq}
use Rattle.std.specs.Option.{option_map, ok_or}
use Rattle.bitflags.specs.Sets.{Row, find_row, find_name}
use Rattle.xe_icpt.specs.SvmNames.{svm_bit, svm_table}
use Rattle.xe_icpt.specs.declared.svm_name.SvmName.{SvmName}
use Rattle.xe_scene.specs.declared.reason.Reason.TheVariants.{UnknownName}
use Rattle.xe_scene.specs.Names.{intercept_of, intercept_name}

abbrev is-small : ℕ → Bool
is-small c = nat_lt c 128

abbrev all-small : List ℕ → Bool
all-small [] = true
all-small (c ∷ cs) = is-small c && all-small cs

both : (a b : Bool) → a && b ≡ true → (a ≡ true) × (b ≡ true)
both true b h = (refl, h)
both false b h = absurd (cc)

below : (c : ℕ) → nat_lt c 128 ≡ true → c < 128
below c h = grind (arith, nat_tests)

ascii : (cs : List ℕ) → all-small cs ≡ true → IsAscii cs
ascii [] h = IsAscii-nil
ascii (c ∷ cs) h = let p = both (nat_lt c 128) (all-small cs) h in IsAscii-cons c cs (below c p.0) (ascii cs p.1)

abbrev all-rows : List Row → Bool
all-rows [] = true
all-rows (row ∷ rows) = all-small row.0 && all-rows rows

which : (hit : Bool) (n b : ℕ) (o : Option ℕ) → (if hit then Some n else o) ≡ Some b → (hit ≡ true) ⊎ (o ≡ Some b)
which true n b o e = inl refl
which false n b o e = inr e

found : (rows : List Row) (word : List ℕ) (b : ℕ) → all-rows rows ≡ true → find_row rows word ≡ Some b → IsUtf8 word
unfolding find_row
found [] word b h e = absurd (cc)
found (row ∷ rows) word b h e =
    let p = both (all-small row.0) (all-rows rows) h in
    elim (which (bytes_eq row.0 word) row.1 b (find_row rows word) e) [
      | inl t ↦ subst IsUtf8 ((bytes_eq-Decides row.0 word).0 t) (IsUtf8-from_ascii row.0 (ascii row.0 p.0))
      | inr r ↦ found rows word b p.1 r
    ]

names-are-ascii : all-rows svm_table ≡ true
names-are-ascii = refl

some-length : (b n : ℕ) (o : Option ℕ) → (if n == 0 then None else o) ≡ Some b → o ≡ Some b
some-length b n o e = grind (arith, nat_tests)

named : (word : List ℕ) (o : Option ℕ) → svm_bit word ≡ o → (IsUtf8 word → ⊥) → o ≡ None
unfolding svm_bit
named word None e h = refl
named word (Some b) e h = absurd (h (found svm_table word b names-are-ascii (some-length b (length word) (find_row svm_table word) e)))

-- text that is no UTF-8
pub no_name : (word : List ℕ) → (IsUtf8 word → ⊥) → intercept_name word ≡ Err UnknownName
unfolding intercept_name
no_name word h = ap intercept_of (named word (svm_bit word) refl h)

-- text that is
pub has_name : (word text : List ℕ) (o : Option SvmName) → text ≡ word → option_map (λ (n : SvmName). n.0) o ≡ find_name svm_table text → ok_or o UnknownName ≡ intercept_name word
unfolding intercept_name svm_bit
has_name word text None is e = let f = rw is at e in ap intercept_of f
has_name word text (Some n) is e = let f = rw is at e in ap intercept_of f
