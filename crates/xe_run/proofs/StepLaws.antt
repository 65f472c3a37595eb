-- A step over a script: one round after another, and the calls that go on with it.
use Rattle.std.proofs.Common.{◌≡◌, ℕ, zero, suc, ◌+◌, ◌<◌, ◌≤◌, List, [], ◌∷◌, ◌++◌, length, Option, Some, None, refl, sym, ap, ◌∙◌, arith, append_assoc}
use Rattle.std.proofs.lemmas.List.{append-nil}
use Rattle.xe_base.specs.declared.access.Access.{Access}
use Rattle.xe_base.specs.declared.access.Answer.{Answer}
use Rattle.xe_base.specs.declared.access.Made.{Made}
use Rattle.xe_opmap.specs.declared.row.Row.{Row}
use Rattle.xe_core.specs.Call.{StandsEach, standing}
use Rattle.xe_ctx.specs.State.{State}
use Rattle.xe_core.specs.Step.{Stepped, Ends, Wants, Ended, Wanted}
use Rattle.xe_ctx.specs.Supply.{Supply, Got, Lacks, Unanswered, Unready, Failing, Supplies, answers, answers_alone, from_tape, replied}
use Rattle.xe_ctx.specs.Tape.{Tape, ask}
use Rattle.xe_ctx.specs.declared.bus.Reply.{Reply}
use Rattle.xe_ctx.specs.declared.bus.Reply.TheVariants.{Ready, NotYet, Failed}
use Rattle.xe_run.specs.Settled.{Settled, settled}
use Rattle.xe_run.specs.Turn.{Answered, Turn, answers_of, answered, counted, ended, broken_off, overlong, when_settled, followed, stepping_on}
use Rattle.xe_run.specs.Reported.{count_at, with_waits, with_waits_from}
use Rattle.xe_run.proofs.SettledLaws.{settled-waits, settled-answers, settled-fails}

-- ---- accesses with their counts

pub answers_with : (at : ℕ) (made : List Made) (counts : List ℕ) → answers_of (with_waits_from at made counts) ≡ answers made
answers_with at [] counts = refl
answers_with at (m ∷ ms) counts = ap (λ (rs : List Answer). m.answer ∷ rs) (answers_with (at + 1) ms counts)

pub with_one_more : (at : ℕ) (made : List Made) (m : Made) (counts : List ℕ)
    → with_waits_from at (made ++ m ∷ []) counts ≡ with_waits_from at made counts ++ record { made = m; waits = counted (count_at counts (at + length made)) } ∷ []
with_one_more at [] m counts =
    let same : at ≡ at + 0 = omega arith in
    let one : ℕ → List Answered = λ k. record { made = m; waits = counted (count_at counts k) } ∷ [] in
    ap one same
with_one_more at (x ∷ xs) m counts =
    let same : at + 1 + length xs ≡ at + suc (length xs) = omega arith in
    ap (λ (rest : List Answered). record { made = x; waits = counted (count_at counts at) } ∷ rest)
    (with_one_more (at + 1) xs m counts ∙ ap (λ (k : ℕ). with_waits_from (at + 1) xs counts ++ record { made = m; waits = counted (count_at counts k) } ∷ []) same)

waits_one_more : (made : List Made) (m : Made) (counts : List ℕ)
    → with_waits (made ++ m ∷ []) counts ≡ with_waits made counts ++ record { made = m; waits = counted (count_at counts (length made)) } ∷ []
waits_one_more made m counts =
    let same : 0 + length made ≡ length made = omega arith in
    with_one_more 0 made m counts ∙ ap (λ (k : ℕ). with_waits made counts ++ record { made = m; waits = counted (count_at counts k) } ∷ []) same

-- other counts that are the same at the places of these accesses
pub same_waits : (at : ℕ) (made : List Made) (new old : List ℕ) → ((k : ℕ) → k < at + length made → count_at new k ≡ count_at old k) → with_waits_from at made new ≡ with_waits_from at made old
same_waits at [] new old h = refl
same_waits at (m ∷ ms) new old h =
    ap (λ (n : ℕ). record { made = m; waits = counted n } ∷ with_waits_from (at + 1) ms new) (h at (omega arith))
    ∙ ap (λ (rest : List Answered). record { made = m; waits = counted (count_at old at) } ∷ rest) (same_waits (at + 1) ms new old (λ k lt. h k (omega (arith, lt))))

length_one_more : (made : List Made) (x : Made) → length (made ++ x ∷ []) ≡ length made + 1
length_one_more [] x = refl
length_one_more (m ∷ ms) x = let h = length_one_more ms x in omega (arith, h)

past_counts : (counts : List ℕ) (k : ℕ) → length counts ≤ k → count_at counts k ≡ 0
past_counts [] k le = refl
past_counts (n ∷ ns) zero le = absurd (omega (arith, le))
past_counts (n ∷ ns) (suc k) le = past_counts ns k (omega (arith, le))

-- ---- a step that goes on

-- from its accesses so far, where the next one was asked for so often already
abbrev pub resumed : (List Answered → Tape → Turn) → State → List Answered → ℕ → Tape → Stepped → Turn
resumed onward s so_far waits t (Ends e) = ended e so_far t
resumed onward s so_far waits t (Wants w) = when_settled onward s w so_far (waits + (settled t w.access).waits) (settled t w.access).answer (settled t w.access).tape

unfoldable pub resumes : ℕ → State → (Supply → Stepped) → List Answered → ℕ → Tape → Turn
resumes zero s stepping so_far waits t = overlong s so_far t
resumes (suc n) s stepping so_far waits t = resumed (λ more after. stepping_on n s stepping more after) s so_far waits t (stepping (answers_alone (answers_of so_far)))

resumed_first : (onward : List Answered → Tape → Turn) (s : State) (so_far : List Answered) (t : Tape) (came : Stepped) → resumed onward s so_far 0 t came ≡ followed onward s so_far t came
resumed_first onward s so_far t (Ends e) = refl
resumed_first onward s so_far t (Wants w) =
    let st = settled t w.access in
    let none : 0 + st.waits ≡ st.waits = omega arith in
    ap (λ (k : ℕ). when_settled onward s w so_far k st.answer st.tape) none

-- one that wasn't asked for before is the step's of the definition
pub resumes_first : (n : ℕ) (s : State) (stepping : Supply → Stepped) (so_far : List Answered) (t : Tape) → resumes n s stepping so_far 0 t ≡ stepping_on n s stepping so_far t
unfolding resumes stepping_on
resumes_first zero s stepping so_far t = refl
resumes_first (suc n) s stepping so_far t = resumed_first (λ more after. stepping_on n s stepping more after) s so_far t (stepping (answers_alone (answers_of so_far)))

-- from these accesses, with these counts
abbrev pub from : ℕ → State → (Supply → Stepped) → List Made → List ℕ → Tape → Turn
from n s stepping made counts t = resumes n s stepping (with_waits made counts) (count_at counts (length made)) t

-- one round of it, by what the step comes to
round : (n m : ℕ) (s : State) (stepping : Supply → Stepped) (made : List Made) (counts : List ℕ) (t : Tape) (came : Stepped) → n ≡ m + 1 → stepping (answers_alone (answers made)) ≡ came
    → from n s stepping made counts t ≡ resumed (λ more after. stepping_on m s stepping more after) s (with_waits made counts) (count_at counts (length made)) t came
unfolding resumes
round n m s stepping made counts t came one e =
    let next : n ≡ suc m = omega (arith, one) in
    ap (λ (k : ℕ). from k s stepping made counts t) next
    ∙ ap (λ (rs : List Answer). resumed (λ more after. stepping_on m s stepping more after) s (with_waits made counts) (count_at counts (length made)) t (stepping (answers_alone rs))) (answers_with 0 made counts)
    ∙ ap (λ (x : Stepped). resumed (λ more after. stepping_on m s stepping more after) s (with_waits made counts) (count_at counts (length made)) t x) e

-- a step that ends
pub round-ends : (n m : ℕ) (s : State) (stepping : Supply → Stepped) (made : List Made) (counts : List ℕ) (t : Tape) (e : Ended) → n ≡ m + 1 → stepping (answers_alone (answers made)) ≡ Ends e
    → from n s stepping made counts t ≡ ended e (with_waits made counts) t
round-ends n m s stepping made counts t e one h = round n m s stepping made counts t (Ends e) one h

-- an access whose device is ready
pub round-answers : (n m : ℕ) (s : State) (stepping : Supply → Stepped) (row : Option Row) (made : List Made) (counts : List ℕ) (t : Tape) (x : Made) → n ≡ m + 1 → length counts ≤ length made + 1
    → stepping (answers_alone (answers made)) ≡ standing row x.access made → (ask t x.access).reply ≡ Ready x.answer
    → from n s stepping made counts t ≡ from m s stepping (made ++ x ∷ []) counts (ask t x.access).after
round-answers n m s stepping row made counts t x one few h ready =
    let so_far = with_waits made counts in
    let waits = count_at counts (length made) in
    let onward : List Answered → Tape → Turn = λ more after. stepping_on m s stepping more after in
    let w : Wanted = record { row = row; access = x.access; lack = Unanswered; made = made; rest = answers_alone [] } in
    let behind : length (made ++ x ∷ []) ≡ length made + 1 = length_one_more made x in
    let fresh : count_at counts (length (made ++ x ∷ [])) ≡ 0 = past_counts counts (length (made ++ x ∷ [])) (omega (arith, behind, few)) in
    let none : waits + 0 ≡ waits = omega arith in
    round n m s stepping made counts t (standing row x.access made) one h
    ∙ ap (λ (st : Settled). when_settled onward s w so_far (waits + st.waits) st.answer st.tape) (settled-answers t x.access x.answer ready)
    ∙ ap (λ (k : ℕ). stepping_on m s stepping (so_far ++ answered x.access x.answer k ∷ []) (ask t x.access).after) none
    ∙ ap (λ (l : List Answered). stepping_on m s stepping l (ask t x.access).after) (sym (waits_one_more made x counts))
    ∙ sym (resumes_first m s stepping (with_waits (made ++ x ∷ []) counts) (ask t x.access).after)
    ∙ ap (λ (k : ℕ). resumes m s stepping (with_waits (made ++ x ∷ []) counts) k (ask t x.access).after) (sym fresh)

by_count : (onward : List Answered → Tape → Turn) (s : State) (w : Wanted) (so_far : List Answered) (n k : ℕ) (answer : Option Answer) (t : Tape) → counted n ≡ counted k
    → when_settled onward s w so_far n answer t ≡ when_settled onward s w so_far k answer t
by_count onward s w so_far n k None t e = refl
by_count onward s w so_far n k (Some r) t e = ap (λ (c : ℕ). onward (so_far ++ record { made = record { access = w.access; answer = r }; waits = c } ∷ []) t) e

one_more_count : (old new more : ℕ) → new ≡ counted (old + 1) → counted (old + (more + 1)) ≡ counted (new + more)
one_more_count old new more e = omega (arith, e)

-- an access whose device isn't ready yet
pub round-waits : (n m : ℕ) (s : State) (stepping : Supply → Stepped) (row : Option Row) (made : List Made) (old new : List ℕ) (t : Tape) (a : Access) → n ≡ m + 1
    → stepping (answers_alone (answers made)) ≡ standing row a made → (ask t a).reply ≡ NotYet
    → ((k : ℕ) → k < length made → count_at new k ≡ count_at old k) → count_at new (length made) ≡ counted (count_at old (length made) + 1)
    → from n s stepping made old t ≡ from n s stepping made new (ask t a).after
round-waits n m s stepping row made old new t a one h waits before here =
    let onward : List Answered → Tape → Turn = λ more after. stepping_on m s stepping more after in
    let w : Wanted = record { row = row; access = a; lack = Unanswered; made = made; rest = answers_alone [] } in
    let later = settled (ask t a).after a in
    round n m s stepping made old t (standing row a made) one h
    ∙ ap (λ (st : Settled). when_settled onward s w (with_waits made old) (count_at old (length made) + st.waits) st.answer st.tape) (settled-waits t a waits)
    ∙ by_count onward s w (with_waits made old) (count_at old (length made) + (later.waits + 1)) (count_at new (length made) + later.waits) later.answer later.tape (one_more_count (count_at old (length made)) (count_at new (length made)) later.waits here)
    ∙ ap (λ (l : List Answered). when_settled onward s w l (count_at new (length made) + later.waits) later.answer later.tape) (sym (same_waits 0 made new old (λ k lt. before k (omega (arith, lt)))))
    ∙ sym (round n m s stepping made new (ask t a).after (standing row a made) one h)

-- an access whose device fails
pub round-fails : (n m : ℕ) (s : State) (stepping : Supply → Stepped) (row : Option Row) (made : List Made) (counts : List ℕ) (t : Tape) (a : Access) → n ≡ m + 1
    → stepping (answers_alone (answers made)) ≡ standing row a made → (ask t a).reply ≡ Failed
    → from n s stepping made counts t ≡ broken_off s (record { row = row; access = a; lack = Unanswered; made = made; rest = answers_alone [] }) (with_waits made counts) (ask t a).after
round-fails n m s stepping row made counts t a one h fails =
    let onward : List Answered → Tape → Turn = λ more after. stepping_on m s stepping more after in
    let w : Wanted = record { row = row; access = a; lack = Unanswered; made = made; rest = answers_alone [] } in
    round n m s stepping made counts t (standing row a made) one h
    ∙ ap (λ (st : Settled). when_settled onward s w (with_waits made counts) (count_at counts (length made) + st.waits) st.answer st.tape) (settled-fails t a fails)

-- ---- how often devices will still not be ready in a step

abbrev pub left_after : (List Answer → Tape → ℕ) → List Answer → Option Answer → Tape → ℕ
left_after onward rs None t = 0
left_after onward rs (Some r) t = onward (rs ++ r ∷ []) t

abbrev pub left_in : (List Answer → Tape → ℕ) → List Answer → Tape → Stepped → ℕ
left_in onward rs t (Ends e) = 0
left_in onward rs t (Wants w) = (settled t w.access).waits + left_after onward rs (settled t w.access).answer (settled t w.access).tape

unfoldable pub waits_left : ℕ → (Supply → Stepped) → List Answer → Tape → ℕ
waits_left zero stepping rs t = 0
waits_left (suc n) stepping rs t = left_in (λ more after. waits_left n stepping more after) rs t (stepping (answers_alone rs))

left_round : (n m : ℕ) (stepping : Supply → Stepped) (rs : List Answer) (t : Tape) (came : Stepped) → n ≡ m + 1 → stepping (answers_alone rs) ≡ came
    → waits_left n stepping rs t ≡ left_in (λ more after. waits_left m stepping more after) rs t came
unfolding waits_left
left_round n m stepping rs t came one e =
    let next : n ≡ suc m = omega (arith, one) in
    ap (λ (k : ℕ). waits_left k stepping rs t) next ∙ ap (λ (x : Stepped). left_in (λ more after. waits_left m stepping more after) rs t x) e

answers_more : (made : List Made) (x : Made) → answers (made ++ x ∷ []) ≡ answers made ++ x.answer ∷ []
answers_more [] x = refl
answers_more (m ∷ ms) x = ap (λ (rs : List Answer). m.answer ∷ rs) (answers_more ms x)

pub left-answers : (n m : ℕ) (stepping : Supply → Stepped) (row : Option Row) (made : List Made) (t : Tape) (x : Made) → n ≡ m + 1
    → stepping (answers_alone (answers made)) ≡ standing row x.access made → (ask t x.access).reply ≡ Ready x.answer
    → waits_left n stepping (answers made) t ≡ waits_left m stepping (answers (made ++ x ∷ [])) (ask t x.access).after
left-answers n m stepping row made t x one h ready =
    let rest = waits_left m stepping (answers made ++ x.answer ∷ []) (ask t x.access).after in
    let none : 0 + rest ≡ rest = omega arith in
    left_round n m stepping (answers made) t (standing row x.access made) one h
    ∙ ap (λ (st : Settled). st.waits + left_after (λ more after. waits_left m stepping more after) (answers made) st.answer st.tape) (settled-answers t x.access x.answer ready)
    ∙ none
    ∙ ap (λ (rs : List Answer). waits_left m stepping rs (ask t x.access).after) (sym (answers_more made x))

pub left-waits : (n m : ℕ) (stepping : Supply → Stepped) (row : Option Row) (made : List Made) (t : Tape) (a : Access) → n ≡ m + 1
    → stepping (answers_alone (answers made)) ≡ standing row a made → (ask t a).reply ≡ NotYet
    → waits_left n stepping (answers made) t ≡ waits_left n stepping (answers made) (ask t a).after + 1
left-waits n m stepping row made t a one h waits =
    let onward : List Answer → Tape → ℕ = λ more after. waits_left m stepping more after in
    let later = settled (ask t a).after a in
    let step1 = left_round n m stepping (answers made) t (standing row a made) one h in
    let step2 = ap (λ (st : Settled). st.waits + left_after onward (answers made) st.answer st.tape) (settled-waits t a waits) in
    let step3 = left_round n m stepping (answers made) (ask t a).after (standing row a made) one h in
    let sum : (later.waits + 1) + left_after onward (answers made) later.answer later.tape ≡ later.waits + left_after onward (answers made) later.answer later.tape + 1 = omega arith in
    step1 ∙ step2 ∙ sum ∙ ap (λ (k : ℕ). k + 1) (sym step3)

-- ---- the answers of a call

got_ready : (reply : Reply) (rest : Supply) (r : Answer) (mid : Supply) → replied reply rest ≡ Got r mid → (reply ≡ Ready r) × (mid ≡ rest)
got_ready (Ready x) rest r mid e = (cc, cc)
got_ready NotYet rest r mid e = absurd (cc)
got_ready Failed rest r mid e = absurd (cc)

-- a script that wasn't ready
pub lacks_unready : (reply : Reply) (rest left : Supply) → replied reply rest ≡ Lacks Unready left → (reply ≡ NotYet) × (left ≡ rest)
lacks_unready (Ready x) rest left e = absurd (cc)
lacks_unready NotYet rest left e = (refl, cc)
lacks_unready Failed rest left e = absurd (cc)

-- a script that failed
pub lacks_failing : (reply : Reply) (rest left : Supply) → replied reply rest ≡ Lacks Failing left → (reply ≡ Failed) × (left ≡ rest)
lacks_failing (Ready x) rest left e = absurd (cc)
lacks_failing NotYet rest left e = absurd (cc)
lacks_failing Failed rest left e = (refl, cc)

got_same : (r : Answer) (rest : Supply) (x : Answer) (next : Supply) → Got r rest ≡ Got x next → rest ≡ next
got_same r rest x next e = cc

-- the given answers are those of the accesses that come first
pub given_first : (kept fresh : List Made) (tape : Option Tape) (mid : Supply) → Supplies (record { given = answers kept; tape = tape }) (kept ++ fresh) mid → Supplies (record { given = []; tape = tape }) fresh mid
given_first [] fresh tape mid s = s
given_first (k ∷ ks) fresh tape mid (next, e, rest) =
    let here : record { given = answers ks; tape = tape } ≡ next = got_same k.answer (record { given = answers ks; tape = tape }) k.answer next e in
    given_first ks fresh tape mid (rw here rest)

-- accesses that stand behind others
pub stands_behind : (stepping : Supply → Stepped) (row : Option Row) (before kept fresh : List Made) → StandsEach stepping row before (kept ++ fresh) → StandsEach stepping row (before ++ kept) fresh
stands_behind stepping row before [] fresh s = rw (append-nil before) s
stands_behind stepping row before (k ∷ ks) fresh (here, rest) = rw (append_assoc before (k ∷ []) ks) at (stands_behind stepping row (before ++ k ∷ []) ks fresh rest)

-- a step after some more of its accesses, which a script has answered
pub record GoesOn (n m : ℕ) (s : State) (stepping : Supply → Stepped) (made fresh : List Made) (counts : List ℕ) (t : Tape) (mid : Supply) : Type 0 where
  pub tape : Tape
  pub is : mid ≡ from_tape tape
  pub whole : from n s stepping made counts t ≡ from m s stepping (made ++ fresh) counts tape
  pub left : waits_left n stepping (answers made) t ≡ waits_left m stepping (answers (made ++ fresh)) tape

pub goes-on-by : (n m : ℕ) (s : State) (stepping : Supply → Stepped) (row : Option Row) (made fresh : List Made) (counts : List ℕ) (t : Tape) (mid : Supply)
    → n ≡ m + length fresh → length counts ≤ length made + 1 → StandsEach stepping row made fresh → Supplies (from_tape t) fresh mid → GoesOn n m s stepping made fresh counts t mid
goes-on-by n m s stepping row made [] counts t mid more few stands supplies =
    let same : n ≡ m = omega (arith, more) in
    record {
      tape = t;
      is = sym supplies;
      whole = ap (λ (k : ℕ). from k s stepping made counts t) same ∙ ap (λ (l : List Made). from m s stepping l counts t) (sym (append-nil made));
      left = ap (λ (k : ℕ). waits_left k stepping (answers made) t) same ∙ ap (λ (l : List Made). waits_left m stepping (answers l) t) (sym (append-nil made));
    }
goes-on-by n m s stepping row made (x ∷ xs) counts t mid more few (here, stands) (next, e, rest) =
    let ready = got_ready (ask t x.access).reply (from_tape (ask t x.access).after) x.answer next e in
    let k = m + length xs in
    let one : n ≡ k + 1 = omega (arith, more) in
    let behind : length (made ++ x ∷ []) ≡ length made + 1 = length_one_more made x in
    let later = goes-on-by k m s stepping row (made ++ x ∷ []) xs counts (ask t x.access).after mid refl (omega (arith, behind, few)) stands (rw ready.1 at rest) in
    let assoc : (made ++ x ∷ []) ++ xs ≡ made ++ x ∷ xs = append_assoc made (x ∷ []) xs in
    record {
      tape = later.tape;
      is = later.is;
      whole = round-answers n k s stepping row made counts t x one few here ready.0 ∙ later.whole ∙ ap (λ (l : List Made). from m s stepping l counts later.tape) assoc;
      left = left-answers n k stepping row made t x one here ready.0 ∙ later.left ∙ ap (λ (l : List Made). waits_left m stepping (answers l) later.tape) assoc;
    }
