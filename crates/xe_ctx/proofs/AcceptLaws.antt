use Rattle.std.proofs.Common.{ℕ, zero, suc, ◌≡◌, ◌<◌, ◌≤◌, ◌+◌, ◌-◌, ◌%◌, ◌^◌, List, [], ◌∷◌, length, drop, refl, sym, ◌∙◌, ap, arith, Bool, true, false, if◌then◌else◌, nat_le, Result, Ok, Err}
use Rattle.std.specs.Prelude.{IsOk}
use Rattle.std.proofs.lemmas.Bool.Decides.{nat_tests}
use Rattle.xe_base.specs.Ram.{Area}
use Rattle.xe_base.specs.State.{pg, is_long, address_bits}
use Rattle.xe_base.specs.declared.cpu.Cpu.{Cpu}
use Rattle.xe_walk.proofs.Bounds.{plain-entries}
use Rattle.xe_walk.specs.Format.{pointers_of}
use Rattle.xe_walk.specs.Walk.{Reached, walk, entries}
use Rattle.xe_walk.specs.declared.entry.Used.{Used}
use Rattle.xe_walk.specs.declared.rights.Kind.{Kind}
use Rattle.xe_walk.specs.declared.walk.WalkStop.{WalkStop}
use Rattle.xe_ctx.specs.Accept.{accessed, code_pieces}
use Rattle.xe_ctx.specs.Ending.{Ending}
use Rattle.xe_ctx.specs.Fetch.{Avail, avail, avail_from, before, code_address, code_byte, fetch_kind, fetch_fault, fetched_by, may_fetch}
use Rattle.xe_ctx.specs.Memory.{Piece, pieces, next_page}
use Rattle.xe_ctx.specs.State.{State}
use Rattle.xe_ctx.specs.Translate.{marks, marked}

-- ---- a page

pub page-marked : (cpu : Cpu) (kind : Kind) (found visited : List Used) (ram new : List Area) → kind ≡ fetch_kind → found ≡ visited → new ≡ marked cpu kind found ram → new ≡ marked cpu fetch_kind visited ram
page-marked cpu kind found visited ram new k v n = n ∙ ap (λ x. marked cpu x found ram) k ∙ ap (λ xs. marked cpu fetch_kind xs ram) v

-- ---- the bytes that were fetched have a translation

-- byte k was had
abbrev Had : State → ℕ → Type 0
Had s k = (b : ℕ) × (code_byte s k ≡ Ok b)

had-more : (s : State) (i k : ℕ) (r : Result ℕ Ending) (rest : Avail) → code_byte s i ≡ r → k < length (before r rest).bytes → ((m : ℕ) → m < length rest.bytes → Had s (i + 1 + m)) → Had s (i + k)
had-more s i zero (Ok b) rest e h f = let z : i + 0 ≡ i = omega arith in rw z (b, e)
had-more s i (suc k) (Ok b) rest e h f = let z : i + suc k ≡ i + 1 + k = omega arith in rw z (f k (omega arith))
had-more s i k (Err x) rest e h f = absurd (omega arith)

had-from : (s : State) (n i k : ℕ) → k < length (avail_from s n i).bytes → Had s (i + k)
unfolding avail_from
had-from s zero i k h = absurd (omega arith)
had-from s (suc n) i k h = had-more s i k (code_byte s i) (avail_from s n (i + 1)) refl h (λ m l. had-from s n (i + 1) m l)

had : (s : State) (k : ℕ) → k < length (avail s).bytes → Had s k
unfolding avail
had s k h = let z : 0 + k ≡ k = omega arith in rw z at (had-from s 15 0 k h)

walk-ok : (s : State) (r : Result Reached WalkStop) (b : ℕ) → fetched_by s r ≡ Ok b → IsOk r
walk-ok s (Ok r) b e = refl
walk-ok s (Err stop) b e = absurd cc

allowed : (may : Bool) (s : State) (r : Result Reached WalkStop) (x : Ending) (b : ℕ) → (if may then fetched_by s r else Err x) ≡ Ok b → IsOk r
allowed true s r x b e = walk-ok s r b e
allowed false s r x b e = absurd cc

had-walk : (s : State) (k b : ℕ) → code_byte s k ≡ Ok b → IsOk (walk s.ram s.cpu (code_address s.cpu k) fetch_kind)
unfolding code_byte
had-walk s k b e = allowed (may_fetch s.cpu k) s (walk s.ram s.cpu (code_address s.cpu k) fetch_kind) (fetch_fault s) b e

pub translated : (s now : State) (k la : ℕ) → now ≡ s → k < length (avail s).bytes → la ≡ code_address now.cpu k → IsOk (walk now.ram now.cpu la fetch_kind)
translated s now k la same h e =
    let b = had s k h in
    let w = had-walk s k b.0 b.1 in
    rw (e, same) w

-- ---- the pages of the instruction

next-in : (base rip k : ℕ) (long : Bool) → (base + (rip + k) % 2 ^ (if long then 64 else 32)) % 2 ^ (if long then 64 else 32) ≡ ((base + (rip + 0) % 2 ^ (if long then 64 else 32)) % 2 ^ (if long then 64 else 32) + k) % 2 ^ (if long then 64 else 32)
next-in base rip k true = omega arith
next-in base rip k false = omega arith

next-address : (cpu : Cpu) (k : ℕ) → code_address cpu k ≡ (code_address cpu 0 + k) % 2 ^ address_bits cpu
next-address cpu k = next-in _ cpu.rip k (is_long cpu)

none-limiting : (n : ℕ) → drop {A = Used} n [] ≡ []
none-limiting zero = refl
none-limiting (suc n) = refl

accessed-plain : (s : State) (ps : List Piece) (ram : List Area) → pg s.cpu ≡ false → accessed s ps ram ≡ ram
unfolding accessed marked marks
accessed-plain s [] ram off = refl
accessed-plain s (p ∷ ps) ram off = rw (plain-entries s.ram s.cpu p.la off, none-limiting (pointers_of s.cpu)) (accessed-plain s ps ram off)

pub unmarked : (s : State) (len : ℕ) (ram : List Area) → pg s.cpu ≡ false → ram ≡ accessed s (code_pieces s len) ram
unmarked s len ram off = sym (accessed-plain s (code_pieces s len) ram off)

pub no-bytes : (s : State) (len : ℕ) (ram : List Area) → len ≡ 0 → ram ≡ accessed s (code_pieces s len) ram
unfolding accessed
no-bytes s len ram e = rw e refl

pub one-page : (s : State) (len la : ℕ) (old new : List Area) → 0 < len → la ≡ code_address s.cpu 0 → len ≤ 4096 - la % 4096 → new ≡ marked s.cpu fetch_kind (entries s.ram s.cpu la) old → new ≡ accessed s (code_pieces s len) old
unfolding accessed pieces
one-page s zero la old new h e l n = absurd (omega arith)
one-page s (suc len) la old new h e l n =
    let t : nat_le (la % 4096 + suc len) 4096 ≡ true = grind (arith, nat_tests) in
    rw (← e, t) n

pub two-pages : (s now : State) (len la next : ℕ) (old mid new : List Area) → now ≡ s → la ≡ code_address s.cpu 0 → 4096 - la % 4096 < len → next ≡ code_address now.cpu (4096 - la % 4096) → mid ≡ marked s.cpu fetch_kind (entries s.ram s.cpu la) old → new ≡ marked now.cpu fetch_kind (entries now.ram now.cpu next) mid → new ≡ accessed s (code_pieces s len) old
unfolding accessed pieces
two-pages s now zero la next old mid new same e l x m n = absurd (omega arith)
two-pages s now (suc len) la next old mid new same e l x m n =
    let t : nat_le (la % 4096 + suc len) 4096 ≡ false = grind (arith, nat_tests) in
    let behind : next ≡ next_page (address_bits s.cpu) la = (rw same at x) ∙ rw e (next-address s.cpu _) in
    let marked-next : new ≡ marked s.cpu fetch_kind (entries s.ram s.cpu next) mid = rw same at n in
    rw (← e, t, ← behind, ← m) marked-next
