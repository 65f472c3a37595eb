use Rattle.std.proofs.Common.{lit<, ◌≡◌, ℕ, Bool, true, false, List, [], ◌∷◌, ◌++◌, length, take, drop, ◌<◌, ◌≤◌, ◌+◌, ◌-◌, ◌⊎◌, inl, inr, refl, arith, sym, ◌∙◌, ap, subst, cond, append_assoc, length-append, length-drop, length-take, nat_lt}
use Rattle.std.proofs.lemmas.Bool.{ltb-false, le-ltb, cases_lt}
use Rattle.std.proofs.Common.{replicate}
use Rattle.std.proofs.Math.ListN.{length-replicate}
use Rattle.std.proofs.lemmas.List.{take-append-drop, take-take, drop-take, take_at, drop_at, length-take-le, take_all, append-nil, take-append-le}
use Rattle.xe_modrm.specs.declared.part.Part.{Part}
use Rattle.xe_modrm.specs.declared.part.Part.TheVariants.{Got, More}
use Rattle.std.proofs.lemmas.List.Elements.{All-nil, All-append, All-replicate, All-take}
use Rattle.xe_modrm.specs.Reader.{AreBytes, Decides, after_bytes, continued, ◌>>=◌, given, some_bytes, one_byte}

abbrev pub IsGot : {A : Type 0} → Part A → Type 0
IsGot (Got v n) = Unit {0}
IsGot More = ⊥

-- what is got lies in the bytes, and whatever follows those bytes it is got again
pub record Fixed {A : Type 0} (f : List ℕ → Part A) (xs : List ℕ) (v : A) (n : ℕ) : Type 0 where
  pub within : n ≤ length xs
  pub again : (ys : List ℕ) → f (take n xs ++ ys) ≡ Got v n

-- a reader decides by the bytes that it takes, and some more bytes let it decide
pub record IsReader {A : Type 0} (f : List ℕ → Part A) : Type 0 where
  pub fixed : (xs : List ℕ) (v : A) (n : ℕ) → f xs ≡ Got v n → Fixed f xs v n
  pub goes_on : (xs : List ℕ) → (ys : List ℕ) × AreBytes ys × IsGot (f (xs ++ ys))

no_bytes : AreBytes []
no_bytes = All-nil (λ b. b < 256)

zeros : (n : ℕ) → AreBytes (replicate n 0)
zeros n = All-replicate (λ b. b < 256) n 0 (lit< tt)

pub joined_bytes : (xs ys : List ℕ) → AreBytes xs → AreBytes ys → AreBytes (xs ++ ys)
joined_bytes xs ys a b = All-append (λ b. b < 256) xs ys a b

-- ---- what one part and then another got
pub record Both {A B : Type 0} (p : Part A) (xs : List ℕ) (g : A → List ℕ → Part B) (w : B) (k : ℕ) : Type 0 where
  pub first : A
  pub n : ℕ
  pub m : ℕ
  pub got : p ≡ Got first n
  pub then : g first (drop n xs) ≡ Got w m
  pub sum : k ≡ n + m

pub after_got : {A : Type 0} (n k : ℕ) (q : Part A) (w : A) → after_bytes n q ≡ Got w k → (m : ℕ) × (q ≡ Got w m) × (k ≡ n + m)
after_got n k (Got v m) w e = let x : v ≡ w = cc in let y : n + m ≡ k = cc in (m, ap (λ u. Got u m) x, sym y)
after_got n k More w e = cc

pub both_got : {A B : Type 0} (p : Part A) (xs : List ℕ) (g : A → List ℕ → Part B) (w : B) (k : ℕ) → continued p xs g ≡ Got w k → Both p xs g w k
both_got (Got v n) xs g w k e = let r = after_got n k (g v (drop n xs)) w e in record { first = v; n = n; m = r.0; got = refl; then = r.1; sum = r.2 }
both_got More xs g w k e = cc

take_sum : (n m : ℕ) (xs : List ℕ) → take (n + m) xs ≡ take n xs ++ take m (drop n xs)
take_sum n m xs = sym (take-append-drop n (take (n + m) xs)) ∙ rw (take-take n (n + m) xs (omega arith), drop-take n m xs) refl

is_got : {A : Type 0} (p : Part A) → IsGot p → (v : A) × (n : ℕ) × (p ≡ Got v n)
is_got (Got v n) h = (v, n, refl)
is_got More h = absurd h

after_is_got : {A : Type 0} (n : ℕ) (q : Part A) → IsGot q → IsGot (after_bytes n q)
after_is_got n (Got v m) h = tt
after_is_got n More h = h

module _ {A B : Type 0} (f : List ℕ → Part A) (g : A → List ℕ → Part B) (first : IsReader f) (next : (v : A) → IsReader (g v)) where
  both_fixed : (xs : List ℕ) (w : B) (k : ℕ) → (f >>= g) xs ≡ Got w k → Fixed (f >>= g) xs w k
  both_fixed xs w k e =
      let b = both_got (f xs) xs g w k e in
      let one = first.fixed xs b.first b.n b.got in
      let two = (next b.first).fixed (drop b.n xs) w b.m b.then in
      record {
        within = omega (arith, one.within, two.within, length-drop b.n xs, b.sum);
        again = λ ys.
            let cut : take k xs ++ ys ≡ take b.n xs ++ (take b.m (drop b.n xs) ++ ys) = ap (λ j. take j xs ++ ys) b.sum ∙ ap (λ t. t ++ ys) (take_sum b.n b.m xs) ∙ append_assoc (take b.n xs) (take b.m (drop b.n xs)) ys in
            let rest : drop b.n (take b.n xs ++ (take b.m (drop b.n xs) ++ ys)) ≡ take b.m (drop b.n xs) ++ ys = drop_at (take b.n xs) (take b.m (drop b.n xs) ++ ys) b.n (length-take-le b.n xs one.within) in
            ap (f >>= g) cut ∙ ap (λ p. continued p (take b.n xs ++ (take b.m (drop b.n xs) ++ ys)) g) (one.again (take b.m (drop b.n xs) ++ ys)) ∙ ap (λ t. after_bytes b.n (g b.first t)) rest ∙ ap (after_bytes b.n) (two.again ys) ∙ ap (Got w) (sym b.sum);
      }

  both_goes_on : (xs : List ℕ) → (ys : List ℕ) × AreBytes ys × IsGot ((f >>= g) (xs ++ ys))
  both_goes_on xs =
      let a = first.goes_on xs in
      let r = is_got (f (xs ++ a.0)) a.2 in
      let one = first.fixed (xs ++ a.0) r.0 r.1 r.2 in
      let b = (next r.0).goes_on (drop r.1 (xs ++ a.0)) in
      let cut : xs ++ (a.0 ++ b.0) ≡ take r.1 (xs ++ a.0) ++ (drop r.1 (xs ++ a.0) ++ b.0) = sym (append_assoc xs a.0 b.0) ∙ ap (λ t. t ++ b.0) (sym (take-append-drop r.1 (xs ++ a.0))) ∙ append_assoc (take r.1 (xs ++ a.0)) (drop r.1 (xs ++ a.0)) b.0 in
      let rest : drop r.1 (take r.1 (xs ++ a.0) ++ (drop r.1 (xs ++ a.0) ++ b.0)) ≡ drop r.1 (xs ++ a.0) ++ b.0 = drop_at (take r.1 (xs ++ a.0)) (drop r.1 (xs ++ a.0) ++ b.0) r.1 (length-take-le r.1 (xs ++ a.0) one.within) in
      let is : (f >>= g) (xs ++ (a.0 ++ b.0)) ≡ after_bytes r.1 (g r.0 (drop r.1 (xs ++ a.0) ++ b.0)) = ap (f >>= g) cut ∙ ap (λ p. continued p (take r.1 (xs ++ a.0) ++ (drop r.1 (xs ++ a.0) ++ b.0)) g) (one.again (drop r.1 (xs ++ a.0) ++ b.0)) ∙ ap (λ t. after_bytes r.1 (g r.0 t)) rest in
      (a.0 ++ b.0, joined_bytes a.0 b.0 a.1 b.1, subst (λ q. IsGot q) (sym is) (after_is_got r.1 (g r.0 (drop r.1 (xs ++ a.0) ++ b.0)) b.2))

  pub both_reader : IsReader (f >>= g)
  both_reader = record { fixed = both_fixed; goes_on = both_goes_on }

pub given_reader : {A : Type 0} (v : A) → IsReader (given v)
given_reader v = record { fixed = λ xs w n e. record { within = let z : 0 ≡ n = cc in omega arith; again = λ ys. e }; goes_on = λ xs. ([], no_bytes, tt) }

pub one_reader : IsReader one_byte
one_reader = record { fixed = one_fixed; goes_on = one_on }
  where
    one_fixed : (xs : List ℕ) (w n : ℕ) → one_byte xs ≡ Got w n → Fixed one_byte xs w n
    one_fixed [] w n e = cc
    one_fixed (x ∷ xs) w n e = let y : 1 ≡ n = cc in record { within = omega arith; again = λ ys. let z : x ≡ w = cc in rw (← y) (ap (λ u. Got u 1) z) }

    one_on : (xs : List ℕ) → (ys : List ℕ) × AreBytes ys × IsGot (one_byte (xs ++ ys))
    one_on [] = (0 ∷ [], zeros 1, tt)
    one_on (x ∷ xs) = ([], no_bytes, tt)

pub cond_reader : {A : Type 0} (b : Bool) (f g : List ℕ → Part A) → IsReader f → IsReader g → IsReader (cond b f g)
cond_reader true f g p q = p
cond_reader false f g p q = q

pub some_got : (n k : ℕ) (b : Bool) (v w : List ℕ) → cond b More (Got v n) ≡ Got w k → (b ≡ false) × (v ≡ w) × (n ≡ k)
some_got n k true v w e = cc
some_got n k false v w e = (refl, cc, cc)

pub some_reader : (n : ℕ) → IsReader (some_bytes n)
some_reader n = record { fixed = some_fixed; goes_on = some_on }
  where
    some_fixed : (xs w : List ℕ) (k : ℕ) → some_bytes n xs ≡ Got w k → Fixed (some_bytes n) xs w k
    some_fixed xs w k e =
        let r = some_got n k (nat_lt (length xs) n) (take n xs) w e in
        let enough = ltb-false (length xs) n r.0 in
        record {
          within = omega (arith, r.2);
          again = λ ys.
              let size = length-take-le n xs enough in
              let long : n ≤ length (take n xs ++ ys) = omega (arith, length-append (take n xs) ys) in
              rw (← r.2, le-ltb (length (take n xs ++ ys)) n long) (ap (λ t. Got t n) (take_at (take n xs) ys n size ∙ r.1));
        }

    some_on : (xs : List ℕ) → (ys : List ℕ) × AreBytes ys × IsGot (some_bytes n (xs ++ ys))
    some_on xs =
        let long : n ≤ length (xs ++ replicate n 0) = omega (arith, length-append xs (replicate n 0), length-replicate {A = ℕ} n 0) in
        (replicate n 0, zeros n, rw (le-ltb (length (xs ++ replicate n 0)) n long) tt)

-- ---- a reader that looks at one byte more than it takes
pub record Ahead {A : Type 0} (f : List ℕ → Part A) (xs : List ℕ) (v : A) (n : ℕ) : Type 0 where
  pub within : n < length xs
  pub again : (ys : List ℕ) → f (take (n + 1) xs ++ ys) ≡ Got v n

pub record LooksAhead {A : Type 0} (f : List ℕ → Part A) : Type 0 where
  pub ahead : (xs : List ℕ) (v : A) (n : ℕ) → f xs ≡ Got v n → Ahead f xs v n
  pub goes_on : (xs : List ℕ) → (ys : List ℕ) × AreBytes ys × IsGot (f (xs ++ ys))

module _ {A B : Type 0} (f : List ℕ → Part A) (g : A → List ℕ → Part B) (first : LooksAhead f) (next : (v : A) → IsReader (g v)) (takes : (v : A) (xs : List ℕ) (w : B) (n : ℕ) → g v xs ≡ Got w n → 1 ≤ n) where
  ahead_fixed : (xs : List ℕ) (w : B) (k : ℕ) → (f >>= g) xs ≡ Got w k → Fixed (f >>= g) xs w k
  ahead_fixed xs w k e =
      let b = both_got (f xs) xs g w k e in
      let one = first.ahead xs b.first b.n b.got in
      let two = (next b.first).fixed (drop b.n xs) w b.m b.then in
      let some = takes b.first (drop b.n xs) w b.m b.then in
      record {
        within = omega (arith, one.within, two.within, length-drop b.n xs, b.sum);
        again = λ ys.
            let more : k ≡ (b.n + 1) + (b.m - 1) = omega (arith, b.sum) in
            let cut : take k xs ++ ys ≡ take b.n xs ++ (take b.m (drop b.n xs) ++ ys) = ap (λ j. take j xs ++ ys) b.sum ∙ ap (λ t. t ++ ys) (take_sum b.n b.m xs) ∙ append_assoc (take b.n xs) (take b.m (drop b.n xs)) ys in
            let cut1 : take k xs ++ ys ≡ take (b.n + 1) xs ++ (take (b.m - 1) (drop (b.n + 1) xs) ++ ys) = ap (λ j. take j xs ++ ys) more ∙ ap (λ t. t ++ ys) (take_sum (b.n + 1) (b.m - 1) xs) ∙ append_assoc (take (b.n + 1) xs) (take (b.m - 1) (drop (b.n + 1) xs)) ys in
            let got : f (take b.n xs ++ (take b.m (drop b.n xs) ++ ys)) ≡ Got b.first b.n = ap f (sym cut ∙ cut1) ∙ one.again (take (b.m - 1) (drop (b.n + 1) xs) ++ ys) in
            let fits : b.n ≤ length xs = omega (arith, one.within) in
            let rest : drop b.n (take b.n xs ++ (take b.m (drop b.n xs) ++ ys)) ≡ take b.m (drop b.n xs) ++ ys = drop_at (take b.n xs) (take b.m (drop b.n xs) ++ ys) b.n (length-take-le b.n xs fits) in
            ap (f >>= g) cut ∙ ap (λ p. continued p (take b.n xs ++ (take b.m (drop b.n xs) ++ ys)) g) got ∙ ap (λ t. after_bytes b.n (g b.first t)) rest ∙ ap (after_bytes b.n) (two.again ys) ∙ ap (Got w) (sym b.sum);
      }

  ahead_goes_on : (xs : List ℕ) → (ys : List ℕ) × AreBytes ys × IsGot ((f >>= g) (xs ++ ys))
  ahead_goes_on xs =
      let a = first.goes_on xs in
      let zs = xs ++ a.0 in
      let r = is_got (f (xs ++ a.0)) a.2 in
      let one = first.ahead (xs ++ a.0) r.0 r.1 r.2 in
      let fits : r.1 ≤ length (xs ++ a.0) = omega (arith, one.within) in
      let b = (next r.0).goes_on (drop r.1 (xs ++ a.0)) in
      let cut : xs ++ (a.0 ++ b.0) ≡ take r.1 (xs ++ a.0) ++ (drop r.1 (xs ++ a.0) ++ b.0) = sym (append_assoc xs a.0 b.0) ∙ ap (λ t. t ++ b.0) (sym (take-append-drop r.1 (xs ++ a.0))) ∙ append_assoc (take r.1 (xs ++ a.0)) (drop r.1 (xs ++ a.0)) b.0 in
      let cut1 : xs ++ (a.0 ++ b.0) ≡ take (r.1 + 1) (xs ++ a.0) ++ (drop (r.1 + 1) (xs ++ a.0) ++ b.0) = sym (append_assoc xs a.0 b.0) ∙ ap (λ t. t ++ b.0) (sym (take-append-drop (r.1 + 1) (xs ++ a.0))) ∙ append_assoc (take (r.1 + 1) (xs ++ a.0)) (drop (r.1 + 1) (xs ++ a.0)) b.0 in
      let got : f (take r.1 (xs ++ a.0) ++ (drop r.1 (xs ++ a.0) ++ b.0)) ≡ Got r.0 r.1 = ap f (sym cut ∙ cut1) ∙ one.again (drop (r.1 + 1) (xs ++ a.0) ++ b.0) in
      let rest : drop r.1 (take r.1 (xs ++ a.0) ++ (drop r.1 (xs ++ a.0) ++ b.0)) ≡ drop r.1 (xs ++ a.0) ++ b.0 = drop_at (take r.1 (xs ++ a.0)) (drop r.1 (xs ++ a.0) ++ b.0) r.1 (length-take-le r.1 (xs ++ a.0) fits) in
      let is : (f >>= g) (xs ++ (a.0 ++ b.0)) ≡ after_bytes r.1 (g r.0 (drop r.1 (xs ++ a.0) ++ b.0)) = ap (f >>= g) cut ∙ ap (λ p. continued p (take r.1 (xs ++ a.0) ++ (drop r.1 (xs ++ a.0) ++ b.0)) g) got ∙ ap (λ t. after_bytes r.1 (g r.0 t)) rest in
      (a.0 ++ b.0, joined_bytes a.0 b.0 a.1 b.1, subst (λ q. IsGot q) (sym is) (after_is_got r.1 (g r.0 (drop r.1 (xs ++ a.0) ++ b.0)) b.2))

  pub ahead_reader : IsReader (f >>= g)
  ahead_reader = record { fixed = ahead_fixed; goes_on = ahead_goes_on }

-- one byte, and then more: at least one byte
pub one_takes : {B : Type 0} (h : ℕ → List ℕ → Part B) (xs : List ℕ) (w : B) (n : ℕ) → (one_byte >>= h) xs ≡ Got w n → 1 ≤ n
one_takes h [] w n e = cc
one_takes h (x ∷ xs) w n e = let r = after_got 1 n (h x (drop 1 (x ∷ xs))) w e in omega (arith, r.2)

cut_over : (xs ys : List ℕ) (n : ℕ) → length xs ≤ n → take n (xs ++ ys) ≡ xs ++ take (n - length xs) ys
cut_over xs ys n h =
    let sum : n ≡ length xs + (n - length xs) = omega arith in
    ap (λ k. take k (xs ++ ys)) sum ∙ take_sum (length xs) (n - length xs) (xs ++ ys) ∙ rw (take_at xs ys (length xs) refl, drop_at xs ys (length xs) refl) refl

rest_over : (xs ys : List ℕ) (n : ℕ) → length xs < n → n ≤ length (xs ++ ys) → 0 < length (take (n - length xs) ys)
rest_over xs ys n h k = omega (arith, length-append xs ys, length-take (n - length xs) ys)

-- ---- the laws of whole lists
module _ {A : Type 0} (f : List ℕ → Part A) (reader : IsReader f) where
  pub no_prefix : (xs ys : List ℕ) (v w : A) → Decides f xs v → Decides f (xs ++ ys) w → (ys ≡ []) × (v ≡ w)
  no_prefix xs ys v w a b =
      let whole : take (length xs) xs ≡ xs = take_all (length xs) xs (omega arith) in
      let again = (reader.fixed xs v (length xs) a).again ys in
      let same : Got v (length xs) ≡ Got w (length (xs ++ ys)) = sym again ∙ ap (λ t. f (t ++ ys)) whole ∙ b in
      let n : length xs ≡ length (xs ++ ys) = cc in
      (empty ys (omega (arith, length-append xs ys)), cc)
    where
      empty : (zs : List ℕ) → length zs ≡ 0 → zs ≡ []
      empty [] h = refl
      empty (z ∷ zs) h = absurd (omega arith)

  -- what is got is all that the bytes taken say
  pub decided : (xs : List ℕ) (v : A) (n : ℕ) → f xs ≡ Got v n → (n ≤ length xs) × Decides f (take n xs) v
  decided xs v n e =
      let x = reader.fixed xs v n e in
      let size = length-take-le n xs x.within in
      (x.within, ap f (sym (append-nil (take n xs))) ∙ x.again [] ∙ ap (Got v) (sym size))

  -- and it is got whatever follows
  pub goes_again : (xs ys : List ℕ) (v : A) → Decides f xs v → f (xs ++ ys) ≡ Got v (length xs)
  goes_again xs ys v e =
      let whole : take (length xs) xs ≡ xs = take_all (length xs) xs (omega arith) in
      ap (λ t. f (t ++ ys)) (sym whole) ∙ (reader.fixed xs v (length xs) e).again ys

  -- where nothing is got yet, some bytes more decide
  pub undecided : (xs : List ℕ) → f xs ≡ More → (ys : List ℕ) × (v : A) × (0 < length ys) × AreBytes ys × Decides f (xs ++ ys) v
  undecided xs e =
      let a = reader.goes_on xs in
      let r = is_got (f (xs ++ a.0)) a.2 in
      let x = reader.fixed (xs ++ a.0) r.0 r.1 r.2 in
      let d = decided (xs ++ a.0) r.0 r.1 r.2 in
      elim (cases_lt (length xs) r.1) [
        | inl longer ↦
            let cut = cut_over xs a.0 r.1 (omega arith) in
            (take (r.1 - length xs) a.0, r.0, rest_over xs a.0 r.1 longer x.within, All-take (λ b. b < 256) (r.1 - length xs) a.0 a.1, subst (λ t. Decides f t r.0) cut d.1)
        | inr shorter ↦
            let front : take r.1 (xs ++ a.0) ≡ take r.1 xs = take-append-le r.1 xs a.0 shorter in
            let back : f xs ≡ Got r.0 r.1 = ap f (sym (take-append-drop r.1 xs) ∙ ap (λ t. t ++ drop r.1 xs) (sym front)) ∙ x.again (drop r.1 xs) in
            absurd (let no : More ≡ Got r.0 r.1 = sym e ∙ back in cc)
      ]

  -- so each list has a front that decides, or is a proper front of one that does
  pub covers : (xs : List ℕ) → ((n : ℕ) × (v : A) × (n ≤ length xs) × Decides f (take n xs) v) ⊎ ((ys : List ℕ) × (v : A) × (0 < length ys) × AreBytes ys × Decides f (xs ++ ys) v)
  covers xs = go (f xs) refl
    where
      go : (p : Part A) → f xs ≡ p → ((n : ℕ) × (v : A) × (n ≤ length xs) × Decides f (take n xs) v) ⊎ ((ys : List ℕ) × (v : A) × (0 < length ys) × AreBytes ys × Decides f (xs ++ ys) v)
      go (Got v n) e = let d = decided xs v n e in inl (n, v, d.0, d.1)
      go More e = inr (undecided xs e)

  -- some list of bytes decides
  pub ends : (ys : List ℕ) × (v : A) × AreBytes ys × Decides f ys v
  ends = elim (covers []) [
    | inl x ↦ (take x.0 [], x.1, All-take (λ b. b < 256) x.0 [] no_bytes, x.3)
    | inr x ↦ (x.0, x.1, x.3, x.4)
  ]

-- ---- one part and then another, as lists: the bytes are those of the first and then those of the second
module _ {A B : Type 0} (f : List ℕ → Part A) (g : A → List ℕ → Part B) (first : IsReader f) where
  pub splits : (bs : List ℕ) (w : B) → Decides (f >>= g) bs w → (xs ys : List ℕ) × (v : A) × (bs ≡ xs ++ ys) × Decides f xs v × Decides (g v) ys w
  splits bs w e =
      let b = both_got (f bs) bs g w (length bs) e in
      let one = first.fixed bs b.first b.n b.got in
      let size = length-take-le b.n bs one.within in
      let rest : b.m ≡ length (drop b.n bs) = omega (arith, one.within, length-drop b.n bs, b.sum) in (
        take b.n bs,
        drop b.n bs,
        b.first,
        sym (take-append-drop b.n bs),
        ap f (sym (append-nil (take b.n bs))) ∙ one.again [] ∙ ap (Got b.first) (sym size),
        b.then ∙ ap (Got w) rest,
      )

  pub joins : (xs ys : List ℕ) (v : A) (w : B) → Decides f xs v → Decides (g v) ys w → Decides (f >>= g) (xs ++ ys) w
  joins xs ys v w a b =
      let whole : take (length xs) xs ≡ xs = take_all (length xs) xs (omega arith) in
      let got : f (xs ++ ys) ≡ Got v (length xs) = ap (λ t. f (t ++ ys)) (sym whole) ∙ (first.fixed xs v (length xs) a).again ys in
      ap (λ p. continued p (xs ++ ys) g) got ∙ rw (drop_at xs ys (length xs) refl) (ap (after_bytes (length xs)) b) ∙ ap (Got w) (sym (length-append xs ys))
