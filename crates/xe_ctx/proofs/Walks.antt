use Rattle.std.proofs.Common.{ℕ, zero, suc, ◌≡◌, ◌∙◌, ◌<◌, ◌≤◌, ◌+◌, inl, inr, List, [], ◌∷◌, length, drop, get_or, refl, sym, ap, arith, add-one, Bool, true, false, ◌&&◌, ◌==◌, if◌then◌else◌, Some, None, bit_or}
use Rattle.std.specs.Prelude.{All, IfOk, Result, Ok, Err}
use Rattle.std.proofs.Math.Seq.{drop-cons}
use Rattle.std.proofs.lemmas.Bool.{cases_lt}
use Rattle.std.proofs.lemmas.Bool.Decides.{nat_tests}
use Rattle.std.proofs.lemmas.List.{drop_all}
use Rattle.std.proofs.lemmas.List.Elements.{All-nil, All-cons, All-head, All-tail}
use Rattle.xe_base.proofs.Ram.{bytes-one, bits-put, bits-same}
use Rattle.xe_base.specs.Bytes.{num}
use Rattle.xe_base.specs.Ram.{Area, in_ram, byte_of, bytes_of, put_byte, put_bytes, set_bits, AreRam}
use Rattle.xe_base.specs.declared.cpu.Cpu.{Cpu}
use Rattle.xe_walk.proofs.FormatLaws.{are-levels}
use Rattle.xe_walk.proofs.UsedLaws.{uses_present_entries}
use Rattle.xe_walk.specs.Entry.{entry_of, IsPlace}
use Rattle.xe_walk.specs.Entry.{are_ram as all_ram}
use Rattle.xe_walk.specs.Format.{IsLevel, levels_of}
use Rattle.xe_walk.specs.Rights.{limiting}
use Rattle.xe_walk.specs.Laws.{AreUsable}
use Rattle.xe_walk.specs.Walk.{walk, walked}
use Rattle.xe_walk.specs.declared.entry.Used.{Used}
use Rattle.xe_walk.specs.declared.format.Level.{Level}
use Rattle.xe_walk.specs.declared.rights.Kind.{Kind}
use Rattle.xe_walk.specs.declared.walk.Hit.{Hit}
use Rattle.xe_walk.specs.declared.walk.WalkStop.{WalkStop}
use Rattle.xe_ctx.proofs.Work.{are_ram-same, are_ram-patched, in-patched}
use Rattle.xe_ctx.specs.Memory.{are_ram}
use Rattle.xe_ctx.specs.Translate.{page_bits, marks, marked, AreEntries}
use Rattle.xe_ctx.specs.Work.{Cell, patched, expand}
use Rattle.xe_ctx.specs.declared.run.Run.{Run}

-- Walks over the RAM as a step sees it, and the bits that they set.

-- ---- an entry

same-test : (ram : List Area) (pa n : ℕ) → all_ram ram pa n ≡ are_ram ram pa n
unfolding all_ram are_ram
same-test ram pa zero = refl
same-test ram pa (suc n) = rw (same-test ram (pa + 1) n) refl

module _ (ram : List Area) (cells : List Cell) (pa n : ℕ) (test : Bool) (to : test ≡ true → AreRam ram pa n) (from : AreRam ram pa n → test ≡ true) where
  all-patched : all_ram (patched ram cells) pa n ≡ test
  all-patched = same-test (patched ram cells) pa n ∙ are_ram-patched ram cells pa n ∙ sym (are_ram-same ram pa n test to from)

  entry-none : test ≡ false → None ≡ entry_of (patched ram cells) pa n
  entry-none f = rw (all-patched, f) refl

  entry-some : (value : ℕ) → test ≡ true → value ≡ num (bytes_of (patched ram cells) pa n) → Some value ≡ entry_of (patched ram cells) pa n
  entry-some value t v = rw (all-patched, t, v) refl

-- an entry that is read where its bytes are RAM
pub entry-missing : (ram : List Area) (cells : List Cell) (pa n : ℕ) → (AreRam ram pa n → false ≡ true) → None ≡ entry_of (patched ram cells) pa n
entry-missing ram cells pa n from = entry-none ram cells pa n false (λ h. cc) from refl

pub entry-read : (ram : List Area) (cells : List Cell) (pa n value : ℕ) → (true ≡ true → AreRam ram pa n) → value ≡ num (bytes_of (patched ram cells) pa n) → Some value ≡ entry_of (patched ram cells) pa n
entry-read ram cells pa n value to is = entry-some ram cells pa n true to (λ are. refl) value refl is

-- ---- one byte

pub byte-is : (ram : List Area) (runs slice : List Run) (pa : ℕ) (out : List ℕ) → slice ≡ runs → out ≡ bytes_of (patched ram (expand slice)) pa 1 → get_or out 0 0 ≡ byte_of (patched ram (expand runs)) pa
byte-is ram runs slice pa out s e = let d : out ≡ bytes_of (patched ram (expand runs)) pa 1 = rw s at e in rw (d, bytes-one) refl

one-put : (ram : List Area) (pa byte : ℕ) → put_bytes ram pa (byte ∷ []) ≡ put_byte ram pa byte
unfolding put_bytes
one-put ram pa byte = refl

pub bits-written : (ram new : List Area) (pa bits byte : ℕ) → byte ≡ byte_of ram pa → new ≡ put_bytes ram pa (bit_or byte bits ∷ []) → new ≡ set_bits ram pa bits
bits-written ram new pa bits byte b w = w ∙ one-put ram pa (bit_or byte bits) ∙ bits-put ram pa bits (bit_or byte bits) (ap (λ x. bit_or x bits) b)

pub bits-there : (ram : List Area) (pa bits byte : ℕ) → byte ≡ byte_of ram pa → bit_or byte bits ≡ byte → ram ≡ set_bits ram pa bits
bits-there ram pa bits byte b t = sym (bits-same ram pa bits (rw b at t))

pub one-ram : (ram : List Area) (pa : ℕ) → in_ram ram pa ≡ true → are_ram ram pa 1 ≡ true
unfolding are_ram
one-ram ram pa h = rw h refl

-- ---- the entries that a walk used are RAM

first-here : (ram : List Area) (pa n : ℕ) → 0 < n → all_ram ram pa n ≡ true → in_ram ram pa ≡ true
unfolding all_ram
first-here ram pa zero h t = absurd (omega arith)
first-here ram pa (suc n) h t = here (in_ram ram pa) _ t where
  here : (a b : Bool) → (if a then b else false) ≡ true → a ≡ true
  here true b t = refl
  here false b t = t

-- the lowest byte of an entry is RAM
abbrev IsHere : List Area → Used → Type 0
IsHere ram u = in_ram ram u.pa ≡ true

usable-here : (ram : List Area) (cpu : Cpu) (levels : List Level) (us : List Used) → All IsLevel levels → AreUsable ram cpu levels us → All (IsHere ram) us
usable-here ram cpu levels [] are h = All-nil (IsHere ram)
usable-here ram cpu [] (u ∷ us) are h = absurd h
usable-here ram cpu (level ∷ levels) (u ∷ us) are h =
    let l : IsLevel level = All-head IsLevel level levels are in
    let s : u.size ≡ level.size = h.0.size in
    let n : 0 < u.size = omega (arith, l.size, s) in
    All-cons (IsHere ram) u us (first-here ram u.pa u.size n h.0.is_ram) (usable-here ram cpu levels us (All-tail IsLevel level levels are) h.1)

pub walk-entries : (ram : List Area) (cells : List Cell) (cpu : Cpu) (la : ℕ) (kind : Kind) (res : Result Hit WalkStop) → walked res ≡ walk (patched ram cells) cpu la kind → IfOk res (λ hit. All IsPlace hit.used.items) → IfOk res (λ hit. AreEntries ram hit.used.items)
walk-entries ram cells cpu la kind (Ok hit) e places =
    let used = uses_present_entries (patched ram cells) cpu la kind (record { pa = hit.pa; used = hit.used.items }) (sym e) in
    let all = usable-here (patched ram cells) cpu (levels_of cpu) hit.used.items (are-levels cpu) used in
    λ k d l. record { here = sym (in-patched ram cells _) ∙ all k d l; low = omega (arith, (places k d l).below) }
walk-entries ram cells cpu la kind (Err s) e places = places

-- ---- the marks, from an index on

ends : List Used → Bool
ends [] = true
ends (u ∷ us) = false

apart : (a b : ℕ) → a < b → (a == b) ≡ false
apart a b h = grind (arith, nat_tests)

alike : (a b : ℕ) → a ≡ b → (a == b) ≡ true
alike a b h = grind (arith, nat_tests)

last-ends : (us : List Used) (i : ℕ) → i < length us → (i + 1 == length us) ≡ ends (drop (suc i) us)
unfolding ends
last-ends us i h = elim (cases_lt (i + 1) (length us)) [
  | inl m ↦
      let n : suc i < length us = omega arith in
      rw (apart _ _ m, drop-cons us (suc i) (record { pa = 0; size = 0; value = 0 }) n) refl
  | inr m ↦
      let s : i + 1 ≡ length us = omega arith in
      rw (alike _ _ s, drop_all (suc i) us (omega arith)) refl
]

marks-more : (write : Bool) (u : Used) (us : List Used) (ram : List Area) → marks write (u ∷ us) ram ≡ marks write us (set_bits ram u.pa (page_bits (ends us && write)))
unfolding marks ends
marks-more write u [] ram = refl
marks-more write u (v ∷ us) ram = refl

pub marks-step : (work new whole : List Area) (write last : Bool) (bits : ℕ) (us : List Used) (i : ℕ) (d : Used) → i < length us → last ≡ (i + 1 == length us) → bits ≡ page_bits (last && write) → new ≡ set_bits work (get_or us i d).pa bits → marks write (drop i us) work ≡ whole → marks write (drop (i + 1) us) new ≡ whole
marks-step work new whole write last bits us i d h l b p e =
    let m : last ≡ ends (drop (suc i) us) = l ∙ last-ends us i h in
    let k : bits ≡ page_bits (ends (drop (suc i) us) && write) = b ∙ ap (λ x. page_bits (x && write)) m in
    rw (p, k, add-one) (sym (marks-more write (get_or us i d) (drop (suc i) us) work) ∙ rw (drop-cons us i d h) at e)

pub marks-end : (ram whole : List Area) (write : Bool) (us : List Used) (i : ℕ) → length us ≤ i → marks write (drop i us) ram ≡ whole → ram ≡ whole
unfolding marks
marks-end ram whole write us i h e = rw (drop_all i us h) at e

pub marked-by : (cpu same : Cpu) (kind : Kind) (used entries : List Used) (ram new : List Area) → same ≡ cpu → entries ≡ limiting same used → new ≡ marks kind.write entries ram → new ≡ marked cpu kind used ram
unfolding marked
marked-by cpu same kind used entries ram new c e w = let d : entries ≡ limiting cpu used = rw c at e in rw d at w
