-- The text of events, one event after another.
use Rattle.std.proofs.Common.{◌≡◌, ℕ, suc, ◌+◌, ◌-◌, ◌/◌, ◌<◌, ◌≤◌, List, [], ◌∷◌, ◌++◌, Some, length, take, drop, get_or, map, min, refl, sym, ap, ◌∙◌, append_assoc, arith, inl, inr, length-drop}
use Rattle.std.specs.List.{range_with_len}
use Rattle.std.proofs.lemmas.Bool.{cases_lt}
use Rattle.std.specs.Prelude.{slice_get}
use Rattle.std.proofs.lemmas.Option.{slice_get_within, get_or_from_slice_get}
use Rattle.std.proofs.lemmas.List.{drop_more, drop_all, take_all, append-nil}
use Rattle.xe_base.specs.declared.access.Made.{Made}
use Rattle.xe_run.specs.Text.{text, line_of}
use Rattle.xe_run.specs.Drive.{io_event, call_event, memory_line, memory_shown}
use Rattle.xe_run.specs.Reported.{count_at, with_waits_from}
use Rattle.xe_run.specs.Turn.{counted}
use Rattle.xe_run.specs.declared.event.Event.{Event}
use Rattle.xe_run.specs.declared.event.Event.TheVariants as events

pub text-append : (a b : List Event) → text (a ++ b) ≡ text a ++ text b
unfolding text
text-append [] b = refl
text-append (e ∷ es) b = ap (λ (x : List ℕ). line_of e ++ x) (text-append es b) ∙ sym (append_assoc (line_of e) (text es) (text b))

pub text-cons : (e : Event) (es : List Event) → text (e ∷ es) ≡ line_of e ++ text es
unfolding text
text-cons e es = refl

pub text-nil : text [] ≡ []
unfolding text
text-nil = refl

pub text-one : (e : Event) → text (e ∷ []) ≡ line_of e
text-one e = text-cons e [] ∙ ap (λ (x : List ℕ). line_of e ++ x) text-nil ∙ append-nil (line_of e)

pub next : {A : Type 0} (xs : List A) (i : ℕ) (x : A) → slice_get xs i ≡ Some x → drop i xs ≡ x ∷ drop (i + 1) xs
next {A = A} xs i x e = drop_more xs i x (slice_get_within xs i x e) ∙ ap (λ (y : A). y ∷ drop (i + 1) xs) (get_or_from_slice_get xs i x x e)

pub accesses-drop : (xs : List Made) (i : ℕ) (d : Made) (e : Event) → i < length xs → e ≡ call_event (get_or xs i d)
    → text (map call_event (drop i xs)) ≡ line_of e ++ text (map call_event (drop (i + 1) xs))
accesses-drop xs i d e lt h = rw (drop_more xs i d lt, h) (text-cons (call_event (get_or xs i d)) (map call_event (drop (i + 1) xs)))

pub accesses-past : (xs : List Made) (i : ℕ) → length xs ≤ i → text (map call_event (drop i xs)) ≡ []
accesses-past xs i le = rw (drop_all i xs le) text-nil

pub waited-drop : (xs : List Made) (counts : List ℕ) (i : ℕ) (d : Made) (e : Event) → i < length xs → e ≡ events.Io (get_or xs i d) (counted (count_at counts i))
    → text (map io_event (with_waits_from i (drop i xs) counts)) ≡ line_of e ++ text (map io_event (with_waits_from (i + 1) (drop (i + 1) xs) counts))
waited-drop xs counts i d e lt h =
    rw (drop_more xs i d lt, h) (text-cons (events.Io (get_or xs i d) (counted (count_at counts i))) (map io_event (with_waits_from (i + 1) (drop (i + 1) xs) counts)))

pub waited-past : (xs : List Made) (counts : List ℕ) (i : ℕ) → length xs ≤ i → text (map io_event (with_waits_from i (drop i xs) counts)) ≡ []
waited-past xs counts i le = rw (drop_all i xs le) text-nil

pub events-drop : (es : List Event) (i : ℕ) (d e : Event) → i < length es → e ≡ get_or es i d → text (drop i es) ≡ line_of e ++ text (drop (i + 1) es)
events-drop es i d e lt h = rw (drop_more es i d lt, h) (text-cons (get_or es i d) (drop (i + 1) es))

pub events-past : (es : List Event) (i : ℕ) → length es ≤ i → text (drop i es) ≡ []
events-past es i le = rw (drop_all i es le) text-nil

-- ---- lines of memory

-- the lines from line i on
abbrev pub memory_rest : ℕ → List ℕ → ℕ → ℕ → List ℕ
memory_rest pa bytes i n = text (map (memory_line pa bytes) (range_with_len i n))

pub memory-more : (pa : ℕ) (bytes : List ℕ) (i n m : ℕ) (e : Event) → n ≡ m + 1 → e ≡ memory_line pa bytes i
    → memory_rest pa bytes i n ≡ line_of e ++ memory_rest pa bytes (i + 1) m
memory-more pa bytes i n m e h here =
    let one : n ≡ suc m = omega arith in
    ap (λ (k : ℕ). memory_rest pa bytes i k) one
    ∙ text-cons (memory_line pa bytes i) (map (memory_line pa bytes) (range_with_len (i + 1) m))
    ∙ ap (λ (x : Event). line_of x ++ memory_rest pa bytes (i + 1) m) (sym here)

pub memory-past : (pa : ℕ) (bytes : List ℕ) (i n : ℕ) → n ≡ 0 → memory_rest pa bytes i n ≡ []
memory-past pa bytes i n h = ap (λ (k : ℕ). memory_rest pa bytes i k) h ∙ text-nil

pub memory-whole : (pa : ℕ) (bytes : List ℕ) → text (memory_shown pa bytes) ≡ memory_rest pa bytes 0 ((length bytes + 15) / 16)
unfolding memory_shown
memory-whole pa bytes = refl

-- a line has 16 bytes, or the rest
pub memory-piece : (bytes : List ℕ) (start end : ℕ) → start ≤ length bytes → end ≡ min (length bytes) (start + 16) → take (end - start) (drop start bytes) ≡ take 16 (drop start bytes)
memory-piece bytes start end le e =
    elim (cases_lt (start + 16) (length bytes)) [
      | inl lt ↦ (let k : end - start ≡ 16 = omega arith in ap (λ (n : ℕ). take n (drop start bytes)) k)
      | inr past ↦
          (let k : length (drop start bytes) ≤ end - start = omega (arith, length-drop start bytes) in
          let l : length (drop start bytes) ≤ 16 = omega (arith, length-drop start bytes) in
          take_all (end - start) (drop start bytes) k ∙ sym (take_all 16 (drop start bytes) l))
    ]

-- the text of some lines before the last
pub text-snoc : (es : List Event) (e : Event) → text (es ++ e ∷ []) ≡ text es ++ line_of e
text-snoc es e = text-append es (e ∷ []) ∙ ap (λ (x : List ℕ). text es ++ x) (text-one e)
