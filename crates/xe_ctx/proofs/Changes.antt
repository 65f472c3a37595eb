use Rattle.std.proofs.Common.{ℕ, zero, suc, ◌≡◌, ◌∙◌, ◌<◌, ◌≤◌, ◌+◌, ◌-◌, ◌%◌, List, [], ◌∷◌, ◌++◌, length, take, get_or, set, refl, sym, ap, arith, subst, true, ◌⊎◌, inl, inr, All}
use Rattle.std.proofs.lemmas.Bool.Decides.{nat_tests}
use Rattle.std.proofs.lemmas.List.{take_more, append-nil, append_assoc, length-append, length-take}
use Rattle.std.proofs.lemmas.List.Elements.{All-append, All-cons, All-head, All-nil, All-tail}
use Rattle.xe_base.specs.Bytes.{le}
use Rattle.xe_base.specs.Ram.{Area, in_ram, put_byte, bytes_of, put_bytes, AreRam}
use Rattle.xe_base.proofs.Bytes.{le-zero, le-suc, length-le}
use Rattle.xe_base.proofs.Ram.{in-put, bytes-push, bytes-put_in, bytes-put_out}
use Rattle.xe_ctx.specs.Chunks.{is_size}
use Rattle.xe_ctx.specs.Work.{Cell, patched, cells_from, expand}
use Rattle.xe_ctx.specs.declared.run.Run.{Run}
use Rattle.xe_ctx.proofs.Work.{in-patched, first-and-rest, are-len}

-- The stores of a step as the bytes that they change.

-- the bytes of one store
abbrev pub bytes_in : Run → List ℕ
bytes_in r = le r.size r.value

pub size-some : (n : ℕ) → is_size n ≡ true → 1 ≤ n
size-some n h = grind (arith, nat_tests)

-- ---- how many they are

length-from : (pa : ℕ) (bs : List ℕ) → length (cells_from pa bs) ≡ length bs
unfolding cells_from
length-from pa [] = refl
length-from pa (b ∷ bs) = ap suc (length-from (pa + 1) bs)

pub expand-none : expand [] ≡ []
unfolding expand
expand-none = refl

expand-cons : (r : Run) (rs : List Run) → expand (r ∷ rs) ≡ cells_from r.at (bytes_in r) ++ expand rs
unfolding expand
expand-cons r rs = refl

pub expand-push : (rs : List Run) (r : Run) → expand (rs ++ r ∷ []) ≡ expand rs ++ cells_from r.at (bytes_in r)
unfolding expand
expand-push [] r = append-nil (cells_from r.at (bytes_in r))
expand-push (q ∷ rs) r = rw (expand-push rs r, append_assoc) refl

length-run : (r : Run) → length (cells_from r.at (bytes_in r)) ≡ r.size
length-run r = length-from r.at (bytes_in r) ∙ length-le r.size r.value

pub length-push : (rs : List Run) (r : Run) → length (expand (rs ++ r ∷ [])) ≡ length (expand rs) + r.size
length-push rs r = rw (expand-push rs r, length-append (expand rs), length-run r) refl

-- each store changes a byte at least
pub length-runs : (rs : List Run) → length rs ≤ length (expand rs)
length-runs [] = omega arith
length-runs (r ∷ rs) =
    let e : length (expand (r ∷ rs)) ≡ r.size + length (expand rs) = rw (expand-cons r rs, length-append (cells_from r.at (bytes_in r)), length-run r) refl in
    let s = size-some r.size r.sized in
    let m = length-runs rs in
    omega (arith, e, s, m)

-- ---- what the RAM is after them

patched-append : (ram : List Area) (xs ys : List Cell) → patched ram (xs ++ ys) ≡ patched (patched ram xs) ys
unfolding patched
patched-append ram [] ys = refl
patched-append ram (x ∷ xs) ys = patched-append (put_byte ram x.at x.byte) xs ys

patched-from : (ram : List Area) (pa : ℕ) (bs : List ℕ) → patched ram (cells_from pa bs) ≡ put_bytes ram pa bs
unfolding patched cells_from put_bytes
patched-from ram pa [] = refl
patched-from ram pa (b ∷ bs) = patched-from (put_byte ram pa b) (pa + 1) bs

pub patched-run : (ram : List Area) (rs : List Run) (r : Run) → patched ram (expand (rs ++ r ∷ [])) ≡ put_bytes (patched ram (expand rs)) r.at (bytes_in r)
patched-run ram rs r = rw (expand-push rs r, patched-append ram (expand rs), patched-from) refl

pub unchanged : (ram : List Area) → ram ≡ patched ram (expand [])
unfolding patched expand
unchanged ram = refl

pub patched-more : (ram : List Area) (rs : List Run) (i : ℕ) (d r : Run) → get_or rs i d ≡ r → i < length rs → patched ram (expand (take (i + 1) rs)) ≡ put_bytes (patched ram (expand (take i rs))) r.at (bytes_in r)
patched-more ram rs i d r is h = rw (take_more rs i d h, is) (patched-run ram (take i rs) r)

-- ---- they are RAM

-- the changed bytes lie in this RAM
abbrev IsIn : List Area → Cell → Type 0
IsIn ram c = in_ram ram c.at ≡ true

are-rest : (ram : List Area) (pa n : ℕ) → AreRam ram pa (suc n) → AreRam ram (pa + 1) n
are-rest ram pa n h = record { each = λ k l. let e : pa + 1 + k ≡ pa + suc k = omega arith in rw e (h.each (suc k) (omega arith)) }

from-fit : (ram : List Area) (pa : ℕ) (bs : List ℕ) → AreRam ram pa (length bs) → All (IsIn ram) (cells_from pa bs)
unfolding cells_from
from-fit ram pa [] h = All-nil (IsIn ram)
from-fit ram pa (b ∷ bs) h =
    let z : pa + 0 ≡ pa = omega arith in
    let first : in_ram ram pa ≡ true = rw z at (h.each 0 (omega arith)) in
    All-cons (IsIn ram) (record { at = pa; byte = b }) (cells_from (pa + 1) bs) first (from-fit ram (pa + 1) bs (are-rest ram pa (length bs) h))

pub push-fit : (ram : List Area) (rs : List Run) (r : Run) → AreRam ram r.at r.size → All (λ (c : Cell). in_ram ram c.at ≡ true) (expand rs) → All (λ (c : Cell). in_ram ram c.at ≡ true) (expand (rs ++ r ∷ []))
push-fit ram rs r h all = rw (expand-push rs r) (All-append (IsIn ram) (expand rs) (cells_from r.at (bytes_in r)) all (from-fit ram r.at (bytes_in r) (rw (length-le r.size r.value) h)))

from-are : (ram : List Area) (pa : ℕ) (bs : List ℕ) (rest : List Cell) → All (IsIn ram) (cells_from pa bs ++ rest) → AreRam ram pa (length bs)
unfolding cells_from
from-are ram pa [] rest all = record { each = λ k l. absurd (omega arith) }
from-are ram pa (b ∷ bs) rest all =
    record { each = first-and-rest ram pa (length bs) (All-head (IsIn ram) (record { at = pa; byte = b }) (cells_from (pa + 1) bs ++ rest) all) (from-are ram (pa + 1) bs rest (All-tail (IsIn ram) (record { at = pa; byte = b }) (cells_from (pa + 1) bs ++ rest) all)) }

from-rest : (ram : List Area) (pa : ℕ) (bs : List ℕ) (rest : List Cell) → All (IsIn ram) (cells_from pa bs ++ rest) → All (IsIn ram) rest
unfolding cells_from
from-rest ram pa [] rest all = all
from-rest ram pa (b ∷ bs) rest all = from-rest ram (pa + 1) bs rest (All-tail (IsIn ram) (record { at = pa; byte = b }) (cells_from (pa + 1) bs ++ rest) all)

runs-are : (ram : List Area) (rs : List Run) (i : ℕ) (d : Run) → All (IsIn ram) (expand rs) → i < length rs → AreRam ram (get_or rs i d).at (get_or rs i d).size
runs-are ram [] i d all h = absurd (omega arith)
runs-are ram (r ∷ rs) zero d all h = let e = rw (expand-cons r rs) at all in are-len ram r.at (length (bytes_in r)) r.size (sym (length-le r.size r.value)) (from-are ram r.at (bytes_in r) (expand rs) e)
runs-are ram (r ∷ rs) (suc i) d all h = let e = rw (expand-cons r rs) at all in runs-are ram rs i d (from-rest ram r.at (bytes_in r) (expand rs) e) (omega arith)

pub run-are : (ram mem : List Area) (rs : List Run) (i : ℕ) (d r : Run) → get_or rs i d ≡ r → All (λ (c : Cell). in_ram ram c.at ≡ true) (expand rs) → i < length rs → mem ≡ patched ram (expand (take i rs)) → AreRam mem r.at r.size
run-are ram mem rs i d r is all h e = let are : AreRam ram r.at r.size = subst (λ (x : Run). AreRam ram x.at x.size) is (runs-are ram rs i d all h) in record { each = λ k l. rw (e, in-patched) (are.each k l) }

-- a store that is put
pub run-put : (ram mem new : List Area) (rs : List Run) (i : ℕ) (d r : Run) → get_or rs i d ≡ r → i < length rs → new ≡ put_bytes mem r.at (bytes_in r) → mem ≡ patched ram (expand (take i rs)) → new ≡ patched ram (expand (take (i + 1) rs))
run-put ram mem new rs i d r is h w e = rw (w, e, patched-more ram rs i d r is h) refl

-- ---- bytes that are read over them

in-bytes : (ram : List Area) (pa : ℕ) (bs : List ℕ) (a : ℕ) → in_ram (put_bytes ram pa bs) a ≡ in_ram ram a
unfolding put_bytes
in-bytes ram pa [] a = refl
in-bytes ram pa (b ∷ bs) a = in-bytes (put_byte ram pa b) (pa + 1) bs a ∙ in-put ram pa b a

-- a store outside of them
pub bytes-apart : (ram : List Area) (at : ℕ) (bs : List ℕ) (pa n : ℕ) → (at + length bs ≤ pa) ⊎ (pa + n ≤ at) → bytes_of (put_bytes ram at bs) pa n ≡ bytes_of ram pa n
unfolding put_bytes
bytes-apart ram at [] pa n h = refl
bytes-apart ram at (b ∷ bs) pa n (inl l) = bytes-apart (put_byte ram at b) (at + 1) bs pa n (inl (omega (arith, l))) ∙ bytes-put_out ram at b pa n (inl (omega (arith, l)))
bytes-apart ram at (b ∷ bs) pa n (inr l) = bytes-apart (put_byte ram at b) (at + 1) bs pa n (inr (omega (arith, l))) ∙ bytes-put_out ram at b pa n (inr l)

-- a store that is laid over what was read
pub run-laid : (ram : List Area) (rs : List Run) (i : ℕ) (d r : Run) → get_or rs i d ≡ r → (pa n : ℕ) (out new : List ℕ) → i < length rs → AreRam ram pa n → length out ≡ n → ((ram : List Area) → AreRam ram pa (length out) → out ≡ bytes_of ram pa (length out) → new ≡ bytes_of (put_bytes ram r.at (bytes_in r)) pa (length out)) → out ≡ bytes_of (patched ram (expand (take i rs))) pa n → new ≡ bytes_of (patched ram (expand (take (i + 1) rs))) pa n
run-laid ram rs i d r is pa n out new h are len laid e =
    let work = patched ram (expand (take i rs)) in
    let there : AreRam work pa n = record { each = λ k l. in-patched ram (expand (take i rs)) (pa + k) ∙ are.each k l } in
    let all : AreRam work pa n → out ≡ bytes_of work pa n → new ≡ bytes_of (put_bytes work r.at (bytes_in r)) pa n = rw len at (laid work) in
    rw (patched-more ram rs i d r is h) (all there e)

pub run-apart : (ram : List Area) (rs : List Run) (i : ℕ) (d r : Run) → get_or rs i d ≡ r → (pa n : ℕ) (out : List ℕ) → i < length rs → (r.at + r.size ≤ pa) ⊎ (pa + n ≤ r.at) → out ≡ bytes_of (patched ram (expand (take i rs))) pa n → out ≡ bytes_of (patched ram (expand (take (i + 1) rs))) pa n
run-apart ram rs i d r is pa n out h apart e =
    let there : (r.at + length (bytes_in r) ≤ pa) ⊎ (pa + n ≤ r.at) = rw (length-le r.size r.value) apart in
    rw (patched-more ram rs i d r is h) (e ∙ sym (bytes-apart (patched ram (expand (take i rs))) r.at (bytes_in r) pa n there))

-- one byte more of a store, among them and outside
are-bytes : (ram : List Area) (at : ℕ) (bs : List ℕ) (pa n : ℕ) → AreRam ram pa n → AreRam (put_bytes ram at bs) pa n
are-bytes ram at bs pa n h = record { each = λ k l. in-bytes ram at bs (pa + k) ∙ h.each k l }

put-more : (ram : List Area) (at : ℕ) (bs : List ℕ) (i : ℕ) → i < length bs → put_bytes ram at (take (i + 1) bs) ≡ put_byte (put_bytes ram at (take i bs)) (at + i) (get_or bs i 0)
put-more ram at bs i h =
    let n : length (take i bs) ≡ i = omega (arith, length-take i bs) in
    rw (take_more bs i 0 h, bytes-push, n) refl

pub lay-in : (ram : List Area) (at : ℕ) (bs : List ℕ) (i pa n : ℕ) (out : List ℕ) → i < length bs → AreRam ram pa n → pa ≤ at + i → at + i - pa < n → out ≡ bytes_of (put_bytes ram at (take i bs)) pa n → set out (at + i - pa) (get_or bs i 0) ≡ bytes_of (put_bytes ram at (take (i + 1) bs)) pa n
lay-in ram at bs i pa n out h are l m e = rw (put-more ram at bs i h, e) (sym (bytes-put_in (put_bytes ram at (take i bs)) (at + i) (get_or bs i 0) pa n (are-bytes ram at (take i bs) pa n are) l (omega arith)))

pub lay-out : (ram : List Area) (at : ℕ) (bs : List ℕ) (i pa n : ℕ) (out : List ℕ) → i < length bs → (at + i < pa) ⊎ (pa + n ≤ at + i) → out ≡ bytes_of (put_bytes ram at (take i bs)) pa n → out ≡ bytes_of (put_bytes ram at (take (i + 1) bs)) pa n
lay-out ram at bs i pa n out h l e = rw (put-more ram at bs i h) (e ∙ sym (bytes-put_out (put_bytes ram at (take i bs)) (at + i) (get_or bs i 0) pa n l))

-- ---- a store of one byte

byte-run : (b : ℕ) → b < 256 → le 1 b ≡ b ∷ []
byte-run b h = let e : b % 256 ≡ b = omega arith in rw (le-suc 0 b, le-zero, e) refl

put-one : (ram : List Area) (a b : ℕ) → put_bytes ram a (b ∷ []) ≡ put_byte ram a b
unfolding put_bytes
put-one ram a b = refl

pub byte-pushed : (ram : List Area) (work new : List Area) (pa : ℕ) (bs : List ℕ) (i : ℕ) → i < length bs → get_or bs i 0 < 256 → new ≡ put_bytes work (pa + i) (le 1 (get_or bs i 0)) → work ≡ put_bytes ram pa (take i bs) → new ≡ put_bytes ram pa (take (i + 1) bs)
byte-pushed ram work new pa bs i h b w e = rw (w, byte-run (get_or bs i 0) b, e, put-more ram pa bs i h) (put-one (put_bytes ram pa (take i bs)) (pa + i) (get_or bs i 0))

pub one-are : (ram : List Area) (pa n i : ℕ) → AreRam ram pa n → i < n → AreRam ram (pa + i) 1
one-are ram pa n i are h = record { each = λ k l. let e : pa + i + k ≡ pa + (i + k) = omega arith in rw e (are.each (i + k) (omega arith)) }
