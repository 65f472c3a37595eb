-- One command after another.
use Rattle.std.proofs.Common.{◌≡◌, ℕ, ◌+◌, ◌-◌, ◌≤◌, Bool, true, false, if◌then◌else◌, arith, List, [], ◌∷◌, ◌++◌, Option, Some, None, Result, Ok, Err, OnOk, length, drop, map, refl, sym, ap, ◌∙◌}
use Rattle.std.specs.Prelude.{slice_get}
use Rattle.std.proofs.lemmas.List.{drop_all}
use Rattle.xe_base.specs.State.{broken, Valid, answer_of}
use Rattle.xe_base.specs.declared.cpu.BadState.{BadState}
use Rattle.xe_base.specs.declared.access.Space.{Space}
use Rattle.arrayvec.specs.ArrayVec.{ArrayVec}
use Rattle.xe_mem.specs.declared.region.Region.{Region}
use Rattle.xe_ctx.specs.Kept.{Kept, nothing}
use Rattle.xe_ctx.specs.State.{State}
use Rattle.xe_ctx.specs.Tape.{Key}
use Rattle.xe_icpt.specs.declared.svm_name.SvmName.{SvmName}
use Rattle.xe_scene.specs.Queues.{key_of_queue}
use Rattle.xe_scene.specs.Rooms.{items_for, fed_by}
use Rattle.xe_scene.proofs.RoomLaws.{items_more}
use Rattle.xe_scene.proofs.KeyLaws.{same_key_itself}
use Rattle.xe_scene.specs.declared.command.Command.TheVariants.{Dev, Reg, Seg as SetSegment, Table as SetTable, Icpt, Unicpt, Ioport, Icptmsr, Batch, Dump}
use Rattle.xe_scene.specs.declared.command.RegName.{RegName}
use Rattle.xe_scene.specs.declared.command.SegReg.{SegReg}
use Rattle.xe_scene.specs.declared.command.DtName.{DtName}
use Rattle.xe_run.specs.Told.{followed_by}
use Rattle.xe_run.proofs.ToldLaws.{followed_by-nil}
use Rattle.xe_scene.specs.declared.command.Dir.{Dir}
use Rattle.xe_scene.specs.declared.command.Item.{Item}
use Rattle.xe_base.specs.Ram.{bytes_of}
use Rattle.xe_base.specs.Reset.{reset_state}
use Rattle.xe_ctx.specs.Machine.{first_hole}
use Rattle.xe_scene.specs.declared.command.Command.{Command}
use Rattle.xe_run.specs.Text.{text, line_of}
use Rattle.xe_run.specs.Drive.{World, Did, obeyed, drive_from, run_command, call_command, call_event, call_events, steps_event, end_event, single_call, after_call, abandoned, show_command, dump_command, memory_shown, shown, installed, poke_command, poked, turns, redrafted, start, drive}
use Rattle.xe_run.specs.declared.event.Event.TheVariants as events
use Rattle.xe_core.specs.Call as calls
use Rattle.xe_ctx.specs.Tape.{Tape}
use Rattle.xe_ctx.specs.declared.report.Report.{Report}
use Rattle.xe_run.proofs.WorldLaws.{call-shows}
use Rattle.xe_run.proofs.TextLaws.{text-append, text-nil, text-one, next}

-- the error, or another value where there is none
error_or : BadState → Result (Unit {0}) BadState → BadState
error_or d (Ok u) = d
error_or d (Err e) = e

pub drive-drop : (cs : List Command) (i : ℕ) (w : World) (c : Command) → slice_get cs i ≡ Some c
    → text (drive_from w (drop i cs)) ≡ text (obeyed w c).events ++ text (drive_from (obeyed w c).after (drop (i + 1) cs))
unfolding drive_from
drive-drop cs i w c e = rw (next cs i c e) (text-append (obeyed w c).events (drive_from (obeyed w c).after (drop (i + 1) cs)))

pub drive-past : (cs : List Command) (i : ℕ) (w : World) → length cs ≤ i → text (drive_from w (drop i cs)) ≡ []
unfolding drive_from
drive-past cs i w le = rw (drop_all i cs le) text-nil

-- a run with a draft that breaks a rule
pub run-broken : (n : ℕ) (w : World) (rule : ℕ) → broken w.draft ≡ Some rule → run_command n w ≡ record { events = events.BadState rule ∷ []; after = redrafted w }
unfolding run_command
run-broken n w rule e = rw e refl

run-valid : (n : ℕ) (w : World) → broken w.draft ≡ None → run_command n w ≡ record (turns n (abandoned (installed w))) { after = redrafted (turns n (abandoned (installed w))).after }
unfolding run_command
run-valid n w e = rw e refl

-- a call with a draft that breaks a rule
pub call-broken : (w : World) (rule : ℕ) → broken w.draft ≡ Some rule → call_command w ≡ record { events = events.BadState rule ∷ []; after = redrafted w }
unfolding call_command
call-broken w rule e = rw e refl

pub call-valid : (w : World) → broken w.draft ≡ None → call_command w ≡ record { events = call_events w.draft w.kept (single_call (installed w)); after = redrafted (after_call (installed w) (single_call (installed w))) }
unfolding call_command
call-valid w e = rw e refl

-- the registers of a draft that breaks a rule are not shown
pub show-broken : (w : World) (rule : ℕ) → broken w.draft ≡ Some rule → show_command w ≡ record { events = events.BadState rule ∷ []; after = redrafted w }
unfolding show_command
show-broken w rule e = rw e refl

pub show-valid : (w : World) → broken w.draft ≡ None → show_command w ≡ record { events = shown w.draft; after = installed w }
unfolding show_command
show-valid w e = rw e refl

-- memory that is all RAM is shown, and of other memory the first address that isn't RAM
pub dump-within : (pa len n : ℕ) (w : World) (bytes : List ℕ) → n ≡ len → first_hole w.machine.ram pa n ≡ None → bytes ≡ bytes_of w.machine.ram pa n
    → text (dump_command pa len w).events ≡ text (memory_shown pa bytes)
unfolding dump_command
dump-within pa len n w bytes same e r = rw (← same, e, r) refl

pub dump-outside : (pa len n : ℕ) (w : World) (hole : ℕ) → n ≡ len → first_hole w.machine.ram pa n ≡ Some hole → text (dump_command pa len w).events ≡ line_of (events.NotRam hole)
unfolding dump_command
dump-outside pa len n w hole same e = rw (← same, e) (text-one (events.NotRam hole))

-- which changes nothing
pub dump-after : (w : World) (c : Command) (pa len : ℕ) → c ≡ Dump pa len → w ≡ (obeyed w c).after
unfolding obeyed dump_command
dump-after w c pa len e = rw e refl

pub poke-within : (pa : ℕ) (bytes : List ℕ) (w : World) → first_hole w.machine.ram pa (length bytes) ≡ None → poke_command pa bytes w ≡ poked None pa bytes w
unfolding poke_command
poke-within pa bytes w e = rw e refl

pub poke-outside : (pa : ℕ) (bytes : List ℕ) (w : World) (hole : ℕ) → first_hole w.machine.ram pa (length bytes) ≡ Some hole → poke_command pa bytes w ≡ poked (Some hole) pa bytes w
unfolding poke_command
poke-outside pa bytes w hole e = rw e refl

-- what holds after every answer holds after Ok
pub on_ok : {A E : Type 0} (r : Result A E) (P : Type 0) → P → OnOk r P
on_ok (Ok x) P h = h
on_ok (Err e) P h = tt

-- the state of a reset is valid
pub reset-valid : Valid reset_state
unfolding reset_state broken
reset-valid = refl

-- an answer of set_cpu tells the rule that is broken
pub answered_ok : (u : Unit {0}) (o : Option ℕ) → Ok u ≡ answer_of o → o ≡ None
answered_ok u None e = refl
answered_ok u (Some n) e = absurd (cc)

pub answered_err : (b : BadState) (o : Option ℕ) → Err b ≡ answer_of o → o ≡ Some b.rule
unfolding error_or
answered_err b None e = absurd (cc)
answered_err b (Some n) e = ap (λ (r : Result (Unit {0}) BadState). Some (error_or b r).rule) (sym e)

-- the world with the draft installed and nothing kept
pub begun : (w : World) (m : State) (k : Kept) → m ≡ record w.machine { cpu = w.draft } → k ≡ nothing → record w { machine = m; kept = k } ≡ abandoned (installed w)
begun w m k e h = rw (e, h) refl

-- a run of a valid draft is its turns, from the machine with the draft installed
pub run-events : (n : ℕ) (w v : World) → broken w.draft ≡ None → v ≡ abandoned (installed w) → (run_command n w).events ≡ (turns n v).events
run-events n w v e i = ap (λ (d : Did). d.events) (run-valid n w e) ∙ ap (λ (u : World). (turns n u).events) (sym i)

pub run-after : (n : ℕ) (w v : World) → broken w.draft ≡ None → v ≡ abandoned (installed w) → (run_command n w).after ≡ redrafted (turns n v).after
run-after n w v e i = ap (λ (d : Did). d.after) (run-valid n w e) ∙ ap (λ (u : World). redrafted (turns n u).after) (sym i)

-- a call of a valid draft is that of the machine with the draft installed
pub call-goes-shows : (w v : World) (r : Report) (s : State) (left : Kept) (o : Option Tape) → broken w.draft ≡ None → v ≡ installed w → single_call v ≡ calls.reported r s left o
    → (call_command w).events ≡ steps_event w.draft s.cpu r.elements r.finished r.outcome ++ (map call_event (drop (length w.kept.answers) r.accesses.items) ++ end_event w.draft s.cpu r.elements r.finished r.row r.outcome ∷ [])
call-goes-shows w v r s left o e i told =
    ap (λ (d : Did). d.events) (call-valid w e)
    ∙ ap (λ (u : World). call_events w.draft w.kept (single_call u)) (sym i)
    ∙ call-shows v w.draft w.kept r s left o told

pub call-goes-after : (w v : World) → broken w.draft ≡ None → v ≡ installed w → (call_command w).after ≡ redrafted (after_call v (single_call v))
call-goes-after w v e i = ap (λ (d : Did). d.after) (call-valid w e) ∙ ap (λ (u : World). redrafted (after_call u (single_call u))) (sym i)

-- a scene's events from its start
pub drive-start : (w : World) (regions : List Region) (cs : List Command) → w ≡ start regions → text (drive_from w cs) ≡ text (drive regions cs)
unfolding drive
drive-start w regions cs e = ap (λ (v : World). text (drive_from v cs)) e

-- ---- the room of the queues

-- the items of the command at an index, and of those behind it
pub room-drop : (cs : List Command) (i : ℕ) (c : Command) (k : Key) → slice_get cs i ≡ Some c → items_for (drop i cs) k ≡ fed_by k c + items_for (drop (i + 1) cs) k
room-drop cs i c k e = ap (λ (l : List Command). items_for l k) (next cs i c e) ∙ items_more c (drop (i + 1) cs) k

-- what a queue has room for is at least what this command feeds it
pub feeds_here : (space : Space) (dir : Dir) (address : ℕ) (items : ArrayVec Item) (spare : ℕ) → fed_by (key_of_queue space dir address) (Dev space dir address items) ≤ spare → length items.items ≤ spare
feeds_here space dir address items spare h =
    let here : fed_by (key_of_queue space dir address) (Dev space dir address items) ≡ length items.items = ap (λ (b : Bool). if b then length items.items else 0) (same_key_itself (key_of_queue space dir address)) in
    omega (arith, here)

pub less_by : (b : Bool) (x n : ℕ) → (if b then x - n else x) ≡ x - (if b then n else 0)
less_by true x n = refl
less_by false x n = omega arith

-- a command that changes the draft alone shows nothing
pub reg-drafts : (w : World) (c : Command) (name : RegName) (value : ℕ) → c ≡ Reg name value → text (obeyed w c).events ≡ []
unfolding obeyed
reg-drafts w c name value e = rw e text-nil

pub seg-drafts : (w : World) (c : Command) (name : SegReg) (selector base limit attr : ℕ) → c ≡ SetSegment name selector base limit attr → text (obeyed w c).events ≡ []
unfolding obeyed
seg-drafts w c name selector base limit attr e = rw e text-nil

pub table-drafts : (w : World) (c : Command) (name : DtName) (base limit : ℕ) → c ≡ SetTable name base limit → text (obeyed w c).events ≡ []
unfolding obeyed
table-drafts w c name base limit e = rw e text-nil

pub dev-silent : (w : World) (c : Command) (space : Space) (dir : Dir) (address : ℕ) (items : ArrayVec Item) → c ≡ Dev space dir address items → text (obeyed w c).events ≡ []
unfolding obeyed
dev-silent w c space dir address items e = rw e text-nil

-- nor does one that changes what is intercepted, or how many steps a turn has
pub icpt-silent : (w : World) (c : Command) (name : SvmName) → c ≡ Icpt name → text (obeyed w c).events ≡ []
unfolding obeyed
icpt-silent w c name e = rw e text-nil

pub unicpt-silent : (w : World) (c : Command) (name : SvmName) → c ≡ Unicpt name → text (obeyed w c).events ≡ []
unfolding obeyed
unicpt-silent w c name e = rw e text-nil

pub ioport-silent : (w : World) (c : Command) (low high : ℕ) → c ≡ Ioport low high → text (obeyed w c).events ≡ []
unfolding obeyed
ioport-silent w c low high e = rw e text-nil

pub icptmsr-silent : (w : World) (c : Command) (direction : Dir) (number : ℕ) → c ≡ Icptmsr direction number → text (obeyed w c).events ≡ []
unfolding obeyed
icptmsr-silent w c direction number e = rw e text-nil

pub batch-silent : (w : World) (c : Command) (n : ℕ) → c ≡ Batch n → text (obeyed w c).events ≡ []
unfolding obeyed
batch-silent w c n e = rw e text-nil

pub nothing-written : (old : Option (List ℕ)) (bytes : List ℕ) → bytes ≡ [] → old ≡ followed_by old bytes
nothing-written old bytes e = sym (ap (followed_by old) e ∙ followed_by-nil old)
