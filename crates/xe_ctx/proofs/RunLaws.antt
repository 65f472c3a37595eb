use Rattle.std.proofs.Common.{ℕ, zero, suc, ◌≡◌, ◌<◌, ◌≤◌, ◌+◌, ◌-◌, ◌%◌, List, refl, sym, ◌∙◌, ap, arith, true, false, Ok, Err, Some, None}
use Rattle.xe_base.specs.Bytes.{num}
use Rattle.xe_base.specs.Ram.{AreRam, Area, in_ram, byte_of, bytes_of}
use Rattle.xe_base.specs.State.{pg}
use Rattle.xe_walk.proofs.Bounds.{plain-walk}
use Rattle.xe_walk.proofs.Together.{translates_pages_together}
use Rattle.xe_walk.specs.Entry.{entry_of}
use Rattle.xe_walk.specs.Entry.{are_ram as entry_ram}
use Rattle.xe_walk.specs.Walk.{Reached, walk}
use Rattle.xe_mem.specs.Layout.{IsGap}
use Rattle.xe_ctx.specs.Ending.{HandsOver, stop_of, stopped}
use Rattle.xe_ctx.specs.Fetch.{code_address, code_byte, fetch_fault, fetch_kind, fetched_at, fetched_by, fetched_from, may_fetch, MayFetch, IsPlaced, IsRun}
use Rattle.xe_ctx.specs.Memory.{are_ram}
use Rattle.xe_ctx.specs.State.{State}
use Rattle.xe_ctx.specs.declared.stop.Handoff.TheVariants.{Fetch}
use Rattle.xe_ctx.specs.declared.stop.Stop.{Stop}
use Rattle.xe_ctx.specs.declared.stop.Stop.TheVariants.{Handoff as Hands}

-- ---- an entry of the page tables

same-test : (ram : List Area) (pa n : ℕ) → entry_ram ram pa n ≡ are_ram ram pa n
unfolding are_ram entry_ram
same-test ram pa zero = refl
same-test ram pa (suc n) = rw (same-test ram (pa + 1) n) refl

pub entry-out : (ram : List Area) (pa n : ℕ) → are_ram ram pa n ≡ false → None ≡ entry_of ram pa n
entry-out ram pa n f = rw (same-test ram pa n, f) refl

pub entry-in : (ram : List Area) (pa n value : ℕ) (bytes : List ℕ) → are_ram ram pa n ≡ true → bytes ≡ bytes_of ram pa n → value ≡ num bytes → Some value ≡ entry_of ram pa n
entry-in ram pa n value bytes t b v = rw (same-test ram pa n, t, v, b) refl

-- ---- where the bytes of linear addresses lie

from-walk : (s : State) (la : ℕ) (r : Reached) → walk s.ram s.cpu la fetch_kind ≡ Ok r → fetched_from s la ≡ fetched_at s r.pa
from-walk s la r e = ap (fetched_by s) e

pub placed-plain : (s : State) (la n : ℕ) → pg s.cpu ≡ false → IsPlaced s la la n
placed-plain s la n off = record { each = λ k h. from-walk s (la + k) _ (plain-walk s.ram s.cpu (la + k) fetch_kind off) }

pub placed-page : (s : State) (la : ℕ) (r : Reached) → walk s.ram s.cpu la fetch_kind ≡ Ok r → IsPlaced s la r.pa (4096 - la % 4096)
placed-page s la r e = record {
  each = λ k h.
      let t = translates_pages_together s.ram s.cpu la k fetch_kind (omega arith) in
      from-walk s (la + k) (record { pa = r.pa + k; used = r.used }) (rw e at t.0);
}

pub placed-less : (s : State) (la pa n m : ℕ) → m ≤ n → IsPlaced s la pa n → IsPlaced s la pa m
placed-less s la pa n m h p = record { each = λ k l. p.each k (omega arith) }

-- ---- a run

allowed : (s : State) (i : ℕ) → may_fetch s.cpu i ≡ true → code_byte s i ≡ fetched_from s (code_address s.cpu i)
unfolding code_byte
allowed s i t = rw t refl

pub run-past : (s : State) (i : ℕ) (e : Stop) → may_fetch s.cpu i ≡ false → e ≡ stop_of (fetch_fault s) → Err e ≡ stopped (code_byte s i)
unfolding code_byte
run-past s i e f is = rw (f, is) refl

module _ (s : State) (i la room : ℕ) (may : MayFetch s.cpu i la room) where
  each-from : (k : ℕ) → k < room → code_byte s (i + k) ≡ fetched_from s (la + k)
  each-from k h = allowed s (i + k) (may.each k h) ∙ ap (fetched_from s) (may.address k h)

  first-from : 0 < room → code_byte s i ≡ fetched_from s la
  first-from h =
      let z : i + 0 ≡ i = omega arith in
      let y : la + 0 ≡ la = omega arith in
      rw (z, y) at (each-from 0 h)

  pub run-lost : (e : Stop) → 0 < room → Err e ≡ stopped (fetched_from s la) → Err e ≡ stopped (code_byte s i)
  run-lost e h f = f ∙ ap stopped (sym (first-from h))

  module _ (pa n : ℕ) (placed : IsPlaced s la pa n) where
    pub run-outside : (gap : ℕ) → 0 < room → 0 < n → IsGap s.ram pa gap → gap ≡ pa → Err (Hands (Fetch pa)) ≡ stopped (code_byte s i)
    run-outside gap h m g e =
        let out : in_ram s.ram pa ≡ false = rw e at g.outside in
        let z : pa + 0 ≡ pa = omega arith in
        let y : la + 0 ≡ la = omega arith in
        let p : fetched_from s la ≡ fetched_at s pa = rw (z, y) at (placed.each 0 m) in
        let q : fetched_at s pa ≡ Err (HandsOver (Fetch pa)) = rw out refl in
        sym (ap stopped (first-from h ∙ p ∙ q))

    pub run-of : (len : ℕ) → len ≤ room → len ≤ n → AreRam s.ram pa len → IsRun s i pa len
    run-of len h m ram = record {
      ram = ram;
      bytes = λ k l.
          let here : in_ram s.ram (pa + k) ≡ true = ram.each k l in
          let q : fetched_at s (pa + k) ≡ Ok (byte_of s.ram (pa + k)) = rw here refl in
          each-from k (omega arith) ∙ placed.each k (omega arith) ∙ q;
    }

    pub run-is : (gap len : ℕ) → len ≤ room → len ≤ n → IsGap s.ram pa gap → pa + len ≤ gap → IsRun s i pa len
    run-is gap len h m g short = run-of len h m (record { each = λ k l. g.before (pa + k) (omega arith) (omega arith) })
