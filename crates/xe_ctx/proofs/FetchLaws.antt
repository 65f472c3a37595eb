use Rattle.std.proofs.Common.{ℕ, zero, suc, ◌≡◌, ◌<◌, ◌≤◌, ◌+◌, List, [], ◌∷◌, ◌++◌, length, take, drop, get_or, refl, sym, ap, ◌∙◌, arith, Result, Ok, Err, Option, Some, None, IsSome, IfSome, length-append, append_assoc}
use Rattle.std.proofs.lemmas.List.{take_more, take_all, length-take, append-nil}
use Rattle.std.proofs.lemmas.Grind.{common_steps}
use Rattle.xe_base.specs.Ram.{Area, byte_of, bytes_of}
use Rattle.xe_base.proofs.Ram.{length-bytes}
use Rattle.xe_ctx.specs.Ending.{Ending, stop_of, stopped}
use Rattle.xe_ctx.specs.Fetch.{Avail, avail, avail_from, before, code_byte, fetch_fault, IsRun}
use Rattle.xe_ctx.specs.State.{State}
use Rattle.xe_ctx.specs.declared.stop.Stop.{Stop}

-- ---- what is said of byte k decides, where the bytes before it can be had

-- byte k can be had, and is this
pub record Has (a : Avail) (k b : ℕ) : Type 0 where
  pub below : k < length a.bytes
  pub is : (d : ℕ) → get_or a.bytes k d ≡ b

-- byte k is the first that can't
pub record Ends (a : Avail) (k : ℕ) (e : Ending) : Type 0 where
  pub count : length a.bytes ≡ k
  pub why : a.reason ≡ e

later-has : (r : Result ℕ Ending) (rest : Avail) (k b : ℕ) → suc k ≤ length (before r rest).bytes → (k ≤ length rest.bytes → Has rest k b) → Has (before r rest) (suc k) b
later-has (Ok x) rest k b h f = let a = f (omega arith) in record { below = (let m = a.below in omega arith); is = a.is }
later-has (Err e) rest k b h f = absurd (omega arith)

later-ends : (r : Result ℕ Ending) (rest : Avail) (k : ℕ) (e : Ending) → suc k ≤ length (before r rest).bytes → (k ≤ length rest.bytes → Ends rest k e) → Ends (before r rest) (suc k) e
later-ends (Ok x) rest k e h f = let a = f (omega arith) in record { count = (let m = a.count in omega arith); why = a.why }
later-ends (Err s) rest k e h f = absurd (omega arith)

from-has : (s : State) (n i k b : ℕ) → k < n → k ≤ length (avail_from s n i).bytes → code_byte s (i + k) ≡ Ok b → Has (avail_from s n i) k b
unfolding avail_from
from-has s zero i k b l h e = absurd (omega arith)
from-has s (suc n) i zero b l h e =
    let z : i + 0 ≡ i = omega arith in
    let first : code_byte s i ≡ Ok b = rw z at e in
    rw first (record { below = omega arith; is = λ d. refl })
from-has s (suc n) i (suc k) b l h e =
    let z : i + suc k ≡ i + 1 + k = omega arith in
    later-has (code_byte s i) (avail_from s n (i + 1)) k b h (λ m. from-has s n (i + 1) k b (omega arith) m (rw z at e))

from-ends : (s : State) (n i k : ℕ) (x : Ending) → k < n → k ≤ length (avail_from s n i).bytes → code_byte s (i + k) ≡ Err x → Ends (avail_from s n i) k x
unfolding avail_from
from-ends s zero i k x l h e = absurd (omega arith)
from-ends s (suc n) i zero x l h e =
    let z : i + 0 ≡ i = omega arith in
    let first : code_byte s i ≡ Err x = rw z at e in
    rw first (record { count = refl; why = refl })
from-ends s (suc n) i (suc k) x l h e =
    let z : i + suc k ≡ i + 1 + k = omega arith in
    later-ends (code_byte s i) (avail_from s n (i + 1)) k x h (λ m. from-ends s n (i + 1) k x (omega arith) m (rw z at e))

has_next : (s : State) (k b : ℕ) → k < 15 → k ≤ length (avail s).bytes → code_byte s k ≡ Ok b → Has (avail s) k b
unfolding avail
has_next s k b l h e = let z : 0 + k ≡ k = omega arith in from-has s 15 0 k b l h (rw z e)

ends_next : (s : State) (k : ℕ) (x : Ending) → k < 15 → k ≤ length (avail s).bytes → code_byte s k ≡ Err x → Ends (avail s) k x
unfolding avail
ends_next s k x l h e = let z : 0 + k ≡ k = omega arith in from-ends s 15 0 k x l h (rw z e)

-- where no byte is missing, a sixteenth would be
later-full : (e : Ending) (r : Result ℕ Ending) (rest : Avail) (n : ℕ) → suc n ≤ length (before r rest).bytes → (n ≤ length rest.bytes → Ends rest n e) → Ends (before r rest) (suc n) e
later-full e (Ok x) rest n h f = let a = f (omega arith) in record { count = (let m = a.count in omega arith); why = a.why }
later-full e (Err x) rest n h f = absurd (omega arith)

from-full : (s : State) (n i : ℕ) → n ≤ length (avail_from s n i).bytes → Ends (avail_from s n i) n (fetch_fault s)
unfolding avail_from
from-full s zero i h = record { count = refl; why = refl }
from-full s (suc n) i h = later-full (fetch_fault s) (code_byte s i) (avail_from s n (i + 1)) n h (λ m. from-full s n (i + 1) m)

ends_full : (s : State) → 15 ≤ length (avail s).bytes → Ends (avail s) 15 (fetch_fault s)
unfolding avail
ends_full s h = from-full s 15 0 h

taken-fits : (xs code : List ℕ) → code ≡ take (length code) xs → length code ≤ length xs
taken-fits xs code e = omega (arith, ap length e, length-take (length code) xs)

-- ---- a run of bytes in RAM goes on from those that were read

bytes-more : (ram : List Area) (pa n : ℕ) → bytes_of ram pa (suc n) ≡ bytes_of ram pa n ++ byte_of ram (pa + n) ∷ []
unfolding bytes_of
bytes-more ram pa zero = let z : pa + 0 ≡ pa = omega arith in rw z refl
bytes-more ram pa (suc n) = let z : pa + suc n ≡ pa + 1 + n = omega arith in rw z (ap (λ xs. byte_of ram pa ∷ xs) (bytes-more ram (pa + 1) n))

bytes-none : (ram : List Area) (pa : ℕ) → bytes_of ram pa 0 ≡ []
unfolding bytes_of
bytes-none ram pa = refl

-- one byte more
grown : (s : State) (code : List ℕ) (k b : ℕ) → k ≡ length code → k < 15 → code ≡ take k (avail s).bytes → code_byte s k ≡ Ok b → code ++ b ∷ [] ≡ take (k + 1) (avail s).bytes
grown s code k b n l is e =
    let front : code ≡ take (length code) (avail s).bytes = rw n at is in
    let a = has_next s k b l (rw n (taken-fits _ _ front)) e in
    let byte : get_or (avail s).bytes k 0 ≡ b = a.is 0 in
    rw (take_more (avail s).bytes k 0 a.below, byte, ← is) refl

run-taken : (s : State) (code : List ℕ) (pa n : ℕ) → length code + n ≤ 15 → code ≡ take (length code) (avail s).bytes → IsRun s (length code) pa n → code ++ bytes_of s.ram pa n ≡ take (length code + n) (avail s).bytes
run-taken s code pa zero l is r = let z : length code + 0 ≡ length code = omega arith in rw (z, bytes-none, append-nil) is
run-taken s code pa (suc n) l is r =
    let less : IsRun s (length code) pa n = record { ram = record { each = λ k h. r.ram.each k (omega arith) }; bytes = λ k h. r.bytes k (omega arith) } in
    let front = run-taken s code pa n (omega arith) is less in
    let len : length (code ++ bytes_of s.ram pa n) ≡ length code + n = length-append code (bytes_of s.ram pa n) ∙ ap (λ m. length code + m) (length-bytes s.ram pa n) in
    let more = grown s (code ++ bytes_of s.ram pa n) (length code + n) (byte_of s.ram (pa + n)) (sym len) (omega arith) front (r.bytes n (omega arith)) in
    let z : length code + suc n ≡ length code + n + 1 = omega arith in
    rw (bytes-more s.ram pa n, z, ← append_assoc) more

-- a load into the front of a buffer
pub front-loaded : (ram : List Area) (pa n : ℕ) (buffer out : List ℕ) → n ≤ length buffer → out ≡ bytes_of ram pa (length (take n buffer)) → take n (out ++ drop n buffer) ≡ bytes_of ram pa n
front-loaded ram pa n buffer out h e =
    let m : length (take n buffer) ≡ n = omega (arith, length-take n buffer) in
    let is : out ≡ bytes_of ram pa n = rw m at e in
    let len : length out ≡ n = ap length is ∙ length-bytes ram pa n in
    grind (arith, common_steps, len) ∙ is

-- the bytes of a run, put behind those that were read
pub run-read : (s : State) (code new bytes : List ℕ) (i pa n : ℕ) → i ≡ length code → i + n ≤ 15 → code ≡ take (length code) (avail s).bytes → IsRun s i pa n → new ≡ code ++ bytes → bytes ≡ bytes_of s.ram pa n → new ≡ take (length new) (avail s).bytes
run-read s code new bytes i pa n k l is r e b =
    let all : new ≡ code ++ bytes_of s.ram pa n = e ∙ ap (λ xs. code ++ xs) b in
    let len : length new ≡ length code + n = ap length all ∙ length-append code (bytes_of s.ram pa n) ∙ ap (λ m. length code + m) (length-bytes s.ram pa n) in
    rw len (all ∙ run-taken s code pa n (rw k at l) is (rw k at r))

-- ---- the end of what can be had

told-err : (r : Result ℕ Ending) (x : Stop) → Err x ≡ stopped r → (e : Ending) × (r ≡ Err e) × (x ≡ stop_of e)
told-err (Ok b) x e = cc
told-err (Err y) x e = (y, refl, cc)

ended : (s : State) (code : List ℕ) (k : ℕ) (x : Ending) → k ≡ length code → code ≡ take (length code) (avail s).bytes → Ends (avail s) k x → (code ≡ (avail s).bytes) × (stop_of x ≡ stop_of (avail s).reason)
ended s code k x n is a =
    let count = a.count in
    (is ∙ take_all (length code) (avail s).bytes (omega arith), ap stop_of (sym a.why))

-- all that can be had was read
pub code-ends : (s : State) (code : List ℕ) (k : ℕ) (x : Stop) → k ≡ length code → k < 15 → code ≡ take (length code) (avail s).bytes → Err x ≡ stopped (code_byte s k) → (code ≡ (avail s).bytes) × (x ≡ stop_of (avail s).reason)
code-ends s code k x n l is e =
    let t = told-err _ x e in
    let r = ended s code k t.0 n is (ends_next s k t.0 l (rw n (taken-fits _ _ is)) t.1) in
    (r.0, t.2 ∙ r.1)

pub code-full : (s : State) (code : List ℕ) → 15 ≤ length code → code ≡ take (length code) (avail s).bytes → (code ≡ (avail s).bytes) × (stop_of (fetch_fault s) ≡ stop_of (avail s).reason)
code-full s code l is =
    let f = taken-fits _ _ is in
    let a = ends_full s (omega arith) in
    let count = a.count in
    (is ∙ take_all (length code) (avail s).bytes (omega arith), ap stop_of (sym a.why))

-- where a run has 15 bytes, they are all
pub run-whole : (s : State) (bytes : List ℕ) (pa : ℕ) → IsRun s 0 pa 15 → bytes ≡ bytes_of s.ram pa 15 → bytes ≡ (avail s).bytes
run-whole s bytes pa r b =
    let front : bytes ≡ take (length bytes) (avail s).bytes = run-read s [] bytes bytes 0 pa 15 refl (omega arith) refl r refl b in
    let len : length bytes ≡ 15 = ap length b ∙ length-bytes s.ram pa 15 in
    (code-full s bytes (omega arith) front).0

-- the same of what is read where it is RAM
pub read-whole : (s : State) (pa : ℕ) (r : Option (List ℕ)) → (IsSome r → IsRun s 0 pa 15) → IfSome r (λ b. b ≡ bytes_of s.ram pa 15) → IfSome r (λ b. b ≡ (avail s).bytes)
read-whole s pa (Some bytes) run read = run-whole s bytes pa (run refl) read
read-whole s pa None run read = tt
