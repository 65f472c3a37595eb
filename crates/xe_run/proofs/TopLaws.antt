-- From what was read and written to what there was to read and write.
use Rattle.std.proofs.Common.{◌≡◌, ℕ, ◌+◌, ◌<◌, ◌≤◌, ◌⊎◌, if◌then◌else◌, Err, List, [], ◌++◌, Bool, true, false, ltb, Option, Some, None, Result, IfSome, length, take, drop, refl, sym, ap, ◌∙◌, subst, inl, inr, arith, length-append}
use Rattle.std.proofs.lemmas.List.{append-nil, take-append-le, drop_all}
use Rattle.std.proofs.Math.Seq.{drop-append_seam}
use Rattle.std.specs.List.{count_by}
use Rattle.xe_scene.specs.declared.reason.Reason.TheVariants.{TooLong}
use Rattle.std.proofs.lemmas.Bool.Decides.{nat_tests}
use Rattle.std.proofs.lemmas.Bool.{cases_lt}
use Rattle.xe_run.specs.Told.{followed_by, preceded_by, Rose, Quiet}
use Rattle.xe_scene.specs.Content.{Content}
use Rattle.xe_scene.specs.Scene.{Bad, scene, scene_within, text_most, bad_line, is_newline, lines_say, lines_of, nothing}
use Rattle.xe_run.specs.Output.{Output, Answers, answer, output, mode_of, usage}
use Rattle.xe_run.specs.declared.mode.Mode.{Mode}
use Rattle.xe_run.specs.declared.status.Status.{Status}
use Rattle.xe_run.specs.declared.status.Status.TheVariants as status

within_false : (a b : ℕ) → ltb a b ≡ false → b ≤ a
within_false a b h = grind (arith, nat_tests)

not_ok : status.Refused ≡ status.Ok → ⊥
not_ok e = cc

usage_not_read : status.Usage ≡ status.ReadFault → ⊥
usage_not_read e = cc

write_not_read : status.WriteFault ≡ status.ReadFault → ⊥
write_not_read e = cc

-- the usage is answered with no fault of the source
pub no_read_fault : (r : Status) → (r ≡ status.Usage) ⊎ (r ≡ status.WriteFault) → r ≡ status.ReadFault → ⊥
no_read_fault r (inl u) e = usage_not_read (sym u ∙ e)
no_read_fault r (inr w) e = write_not_read (sym w ∙ e)

test_true : (a b : ℕ) → a < b → ltb a b ≡ true
test_true a b h = grind (arith, nat_tests)

-- what stands behind the first byte too many doesn't matter
too_long : (most : ℕ) (text rest : List ℕ) → most < length text → scene_within most (text ++ rest) ≡ scene_within most text
unfolding scene_within
too_long most text rest h =
    let long : ltb most (length (text ++ rest)) ≡ true = test_true most (length (text ++ rest)) (omega (arith, length-append text rest)) in
    let longer : ltb most (length text) ≡ true = test_true most (length text) h in
    let same : take most (text ++ rest) ≡ take most text = take-append-le most text rest (omega arith) in
    rw (long, longer, same) refl

within_of_all : (most : ℕ) (text rest : List ℕ) → length text ≤ most + 1 → (length text < most + 1 → rest ≡ []) → scene_within most (text ++ rest) ≡ scene_within most text
within_of_all most text rest bounded ended =
    elim (cases_lt most (length text)) [
      | inr le ↦ ap (scene_within most) (ap (λ (x : List ℕ). text ++ x) (ended (omega arith)) ∙ append-nil text)
      | inl lt ↦ too_long most text rest lt
    ]

pub scene_of_all : (text rest : List ℕ) → length text ≤ text_most + 1 → (length text < text_most + 1 → rest ≡ []) → scene (text ++ rest) ≡ scene text
scene_of_all text rest bounded ended = within_of_all text_most text rest bounded ended

-- what holds of the scene of what was read holds of the scene of all that was left
pub all_of : (P : Result Content Bad → Type 0) (left rest : Option (List ℕ)) (text now : List ℕ) → now ≡ text → left ≡ preceded_by text rest
    → length text ≤ text_most + 1 → (length text < text_most + 1 → IfSome rest (λ r. r ≡ [])) → P (scene now) → IfSome left (λ all. P (scene all))
all_of P left None text now same taken bounded ended h = rw taken tt
all_of P left (Some r) text now same taken bounded ended h = rw taken (subst P (ap scene same ∙ sym (scene_of_all text r bounded ended)) h)

-- what is left once a text was read
rest_of : (most : ℕ) (text rest : List ℕ) → length text ≤ most → (length text < most → rest ≡ []) → drop most (text ++ rest) ≡ rest
rest_of most text rest bounded ended =
    elim (cases_lt (length text) most) [
      | inl lt ↦ rw (ended lt) (drop_all most (text ++ []) (omega (arith, length-append text [])))
      | inr le ↦ (let e : most ≡ length text = omega arith in ap (λ (k : ℕ). drop k (text ++ rest)) e ∙ drop-append_seam text rest)
    ]

pub left_over : (left rest : Option (List ℕ)) (text : List ℕ) → left ≡ preceded_by text rest → length text ≤ text_most + 1 → (length text < text_most + 1 → IfSome rest (λ r. r ≡ []))
    → IfSome left (λ l. rest ≡ Some (drop (text_most + 1) l))
left_over left None text taken bounded ended = rw taken tt
left_over left (Some r) text taken bounded ended = rw taken (ap (λ (x : List ℕ). Some x) (sym (rest_of (text_most + 1) text r bounded ended)))

-- a text that is accepted isn't too long
accepted_short : (mode : Mode) (l : List ℕ) (b : Bool) → ltb text_most (length l) ≡ b → (answer mode (scene l)).status ≡ status.Ok → drop (text_most + 1) l ≡ []
unfolding scene_within
accepted_short mode l true e h = absurd (not_ok (ap (λ (x : Bool). (answer mode (if x then Err (bad_line (1 + count_by is_newline (take text_most l)) TooLong) else lines_say 0 nothing (lines_of l))).status) (sym e) ∙ h))
accepted_short mode l false e h = drop_all (text_most + 1) l (omega (arith, within_false text_most (length l) e))

pub reads_all : (mode : Mode) (left rest : Option (List ℕ)) (r : Status) (old new : Option (List ℕ)) → IfSome left (λ l. rest ≡ Some (drop (text_most + 1) l))
    → IfSome left (λ l. Answers r (answer mode (scene l)) old new) → IfSome left (λ l. r ≡ status.Ok → rest ≡ Some [])
reads_all mode None rest r old new e h = tt
reads_all mode (Some l) rest r old new e h = λ ok.
    let a : Answers status.Ok (answer mode (scene l)) old new = subst (λ (s : Status). Answers s (answer mode (scene l)) old new) ok h in
    e ∙ ap (λ (x : List ℕ). Some x) (accepted_short mode l (ltb text_most (length l)) refl a.1)

pub reads_enough : (left rest : Option (List ℕ)) (r : Status) → IfSome left (λ l. rest ≡ Some (drop (text_most + 1) l)) → IfSome left (λ l. r ≡ status.Refused → rest ≡ Some (drop (text_most + 1) l))
reads_enough None rest r e = tt
reads_enough (Some l) rest r e = λ refused. e

output_known : (words : List (List ℕ)) (mode : Mode) (left : List ℕ) → mode_of words ≡ Some mode → output words left ≡ answer mode (scene left)
unfolding output
output_known words mode left e = rw e refl

output_unknown : (words : List (List ℕ)) (left : List ℕ) → mode_of words ≡ None → output words left ≡ usage
unfolding output
output_unknown words left e = rw e refl

-- with no fault, the output is written, or memory ran out before
quietly : (r : Status) (o : Output) (old new : Option (List ℕ)) (sf sf' kf kf' : ℕ) → Answers r o old new
    → (r ≡ status.ReadFault → Rose sf sf') → (r ≡ status.WriteFault → Rose kf kf') → Quiet sf sf' → Quiet kf kf'
    → ((new ≡ followed_by old o.bytes) × (r ≡ o.status)) ⊎ ((r ≡ status.NoMemory) × (new ≡ old))
quietly status.Ok o old new sf sf' kf kf' h rf wf qs qk = inl (h.0, sym h.1)
quietly status.Refused o old new sf sf' kf kf' h rf wf qs qk = inl (h.0, sym h.1)
quietly status.Usage o old new sf sf' kf kf' h rf wf qs qk = inl (h.0, sym h.1)
quietly status.ReadFault o old new sf sf' kf kf' h rf wf qs qk = absurd (omega (arith, rf refl qs.1))
quietly status.WriteFault o old new sf sf' kf kf' h rf wf qs qk = absurd (omega (arith, wf refl qk.1))
quietly status.NoMemory o old new sf sf' kf kf' h rf wf qs qk = inr (refl, h)

pub output_in_mode : (words : List (List ℕ)) (mode : Mode) (left : Option (List ℕ)) (r : Status) (old new : Option (List ℕ)) → mode_of words ≡ Some mode
    → IfSome left (λ l. Answers r (answer mode (scene l)) old new) → IfSome left (λ l. Answers r (output words l) old new)
output_in_mode words mode None r old new e h = tt
output_in_mode words mode (Some l) r old new e h = subst (λ (o : Output). Answers r o old new) (sym (output_known words mode l e)) h

pub output_with_none : (words : List (List ℕ)) (left : Option (List ℕ)) (r : Status) (old new : Option (List ℕ)) → mode_of words ≡ None
    → Answers r usage old new → IfSome left (λ l. Answers r (output words l) old new)
output_with_none words None r old new e h = tt
output_with_none words (Some l) r old new e h = subst (λ (o : Output). Answers r o old new) (sym (output_unknown words l e)) h

pub headline : (o : List ℕ → Output) (left : Option (List ℕ)) (r : Status) (old new : Option (List ℕ)) (sf sf' kf kf' : ℕ)
    → IfSome left (λ l. Answers r (o l) old new) → (r ≡ status.ReadFault → Rose sf sf') → (r ≡ status.WriteFault → Rose kf kf')
    → IfSome left (λ l. Quiet sf sf' → Quiet kf kf' → ((new ≡ followed_by old (o l).bytes) × (r ≡ (o l).status)) ⊎ ((r ≡ status.NoMemory) × (new ≡ old)))
headline o None r old new sf sf' kf kf' h rf wf = tt
headline o (Some l) r old new sf sf' kf kf' h rf wf = quietly r (o l) old new sf sf' kf kf' h rf wf
