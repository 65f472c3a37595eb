use Rattle.std.proofs.Common.{arith, ◌≡◌, ℕ, Bool, true, false, ◌||◌, List, [], ◌∷◌, ◌++◌, length, take, get_or, ◌<◌, ◌≤◌, ◌+◌, refl, sym, ◌∙◌, ap, cond, Option, Some, None}
use Rattle.std.specs.Prelude.{◌==◌, unwrap_or}
use Rattle.std.specs.List.{list_any, last_or, filter}
use Rattle.std.proofs.lemmas.List.Sums.{prefix_len-drop_no, prefix_len-drop_yes}
use Rattle.std.proofs.lemmas.List.{take_more}
use Rattle.std.proofs.lemmas.Bool.{lt-ltb, le-ltb}
use Rattle.std.specs.List.{prefix_len}
use Rattle.xe_modrm.specs.Prefix.{prefix_part}
use Rattle.xe_modrm.specs.declared.part.Part.TheVariants.{Got, More}
use Rattle.std.proofs.lemmas.List.Folds.{list_any-append}
use Rattle.xe_modrm.specs.Prefix.{is_prefix, is_rep, is_segment, is_rex, prefixes_of, prefixes_then, last_that, option_if, map_segment}
use Rattle.xe_base.specs.declared.cpu.CodeSize.{CodeSize}
use Rattle.xe_modrm.specs.declared.part.Prefixes.{Prefixes}

pub last_or_push : {A : Type 0} (o : Option A) (xs : List A) (x : A) → last_or o (xs ++ x ∷ []) ≡ Some x
last_or_push o [] x = refl
last_or_push o (y ∷ ys) x = last_or_push (Some y) ys x

last_or_filter_push : (p : ℕ → Bool) (o : Option ℕ) (xs : List ℕ) (x : ℕ) → last_or o (filter p (xs ++ x ∷ [])) ≡ cond (p x) (Some x) (last_or o (filter p xs))
last_or_filter_push p o [] x = elim (p x) as (λ b. last_or o (cond b (x ∷ []) []) ≡ cond b (Some x) o) [ true ↦ refl | false ↦ refl ]
last_or_filter_push p o (y ∷ ys) x = elim (p y) as (λ b. last_or o (cond b (y ∷ filter p (ys ++ x ∷ [])) (filter p (ys ++ x ∷ []))) ≡ cond (p x) (Some x) (last_or o (cond b (y ∷ filter p ys) (filter p ys)))) [ true ↦ last_or_filter_push p (Some y) ys x | false ↦ last_or_filter_push p o ys x ]

list_any_push : (p : ℕ → Bool) (xs : List ℕ) (x : ℕ) → list_any p (xs ++ x ∷ []) ≡ (p x || list_any p xs)
list_any_push p xs x = list_any-append p xs (x ∷ []) ∙ turn_or (list_any p xs) (p x)
  where
    turn_or : (a b : Bool) → (a || (b || false)) ≡ (b || a)
    turn_or true true = refl
    turn_or true false = refl
    turn_or false true = refl
    turn_or false false = refl

of_cond : {A B : Type 0} (f : A → B) (b : Bool) (x y : A) → f (cond b x y) ≡ cond b (f x) (f y)
of_cond f true x y = refl
of_cond f false x y = refl

-- one more prefix byte
pub prefixes_of_push : (size : CodeSize) (bs : List ℕ) (b : ℕ) → prefixes_of size (bs ++ b ∷ []) ≡ prefixes_then size (prefixes_of size bs) b
unfolding prefixes_of
prefixes_of_push size bs b =
    let lock = list_any_push (λ b. b == 0xF0) bs b in
    let opsize = list_any_push (λ b. b == 0x66) bs b in
    let adsize = list_any_push (λ b. b == 0x67) bs b in
    let rep = ap (λ (o : Option ℕ). unwrap_or o 0) (last_or_filter_push is_rep None bs b) ∙ of_cond (λ (o : Option ℕ). unwrap_or o 0) (is_rep b) (Some b) (last_that is_rep bs) in
    let seg = ap map_segment (last_or_filter_push (is_segment size) None bs b) ∙ of_cond map_segment (is_segment size b) (Some b) (last_that (is_segment size) bs) in
    let rex = ap (option_if (is_rex size)) (last_or_push None bs b) in
    λ i. record { lock = lock i; rep = rep i; seg = seg i; opsize = opsize i; adsize = adsize i; rex = rex i }

pub some_if : {A : Type 0} (b : Bool) (x y : A) → Some x ≡ cond b (Some y) None → (b ≡ true) × (x ≡ y)
some_if true x y e = (refl, cc)
some_if false x y e = cc

pub none_if : {A : Type 0} (b : Bool) (y : A) → None ≡ cond b (Some y) None → b ≡ false
none_if true y e = cc
none_if false y e = refl

-- a step of the loop
pub step_found : (size : CodeSize) (bs : List ℕ) (i : ℕ) (found next : Prefixes) → i < length bs → found ≡ prefixes_of size (take i bs) → next ≡ prefixes_then size found (get_or bs i 0) → next ≡ prefixes_of size (take (i + 1) bs)
step_found size bs i found next within here is =
    let more = take_more bs i 0 within in
    let pushed = prefixes_of_push size (take i bs) (get_or bs i 0) in
    is ∙ ap (λ (s : Prefixes). prefixes_then size s (get_or bs i 0)) here ∙ sym pushed ∙ ap (prefixes_of size) (sym more)

pub got_at : (size : CodeSize) (bs : List ℕ) (i : ℕ) (found : Prefixes) → i < length bs → prefix_len (is_prefix size) bs ≡ i → found ≡ prefixes_of size (take i bs) → Got found i ≡ prefix_part size bs
unfolding prefix_part
got_at size bs i found within here is = rw (here, lt-ltb i (length bs) within, is) refl

pub more_at : (size : CodeSize) (bs : List ℕ) (i : ℕ) → length bs ≤ i → prefix_len (is_prefix size) bs ≡ i → More ≡ prefix_part size bs
unfolding prefix_part
more_at size bs i over here = rw (here, le-ltb i (length bs) over) refl

-- no prefix before the first byte
pub plain_first : (size : CodeSize) (bs : List ℕ) → 0 < length bs → is_prefix size (get_or bs 0 0) ≡ false → Got (record { lock = false; rep = 0; seg = None; opsize = false; adsize = false; rex = None }) 0 ≡ prefix_part size bs
unfolding prefixes_of
plain_first size bs some plain = got_at size bs 0 (record { lock = false; rep = 0; seg = None; opsize = false; adsize = false; rex = None }) some (prefix_len-drop_no (is_prefix size) bs 0 0 some plain) refl

-- one prefix
pub lone_first : (size : CodeSize) (bs : List ℕ) (found : Prefixes) → 1 < length bs → is_prefix size (get_or bs 0 0) ≡ true → is_prefix size (get_or bs 1 0) ≡ false → found ≡ prefixes_then size (record { lock = false; rep = 0; seg = None; opsize = false; adsize = false; rex = None }) (get_or bs 0 0) → Got found 1 ≡ prefix_part size bs
unfolding prefixes_of
lone_first size bs found room taken refused is =
    let one = prefix_len-drop_yes (is_prefix size) bs 0 0 (omega arith) taken in
    let none = prefix_len-drop_no (is_prefix size) bs 1 0 room refused in
    let here = step_found size bs 0 (record { lock = false; rep = 0; seg = None; opsize = false; adsize = false; rex = None }) found (omega arith) refl is in
    got_at size bs 1 found room (omega arith) here
