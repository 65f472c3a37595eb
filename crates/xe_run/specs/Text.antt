-- What is printed: the events of a run, and their lines. This project's choice.
use Rattle.std.specs.Prelude.{ℕ, ◌==◌, ◌≤◌, Bool, true, false, if◌then◌else◌, List, [], ◌∷◌, ◌++◌, Option, Some, None, codes}
use Rattle.std.specs.List.{flat_map}
use Rattle.std.specs.Fmt.{decimal}
use Rattle.xe_base.specs.declared.access.Space.{Space}
use Rattle.xe_base.specs.declared.access.Space.TheVariants.{Mem, Port, Msr, Cpuid}
use Rattle.xe_base.specs.declared.access.Access.{Access}
use Rattle.xe_base.specs.declared.access.Answer.{Answer}
use Rattle.xe_base.specs.declared.access.Answer.TheVariants.{Val, No}
use Rattle.xe_base.specs.declared.access.Made.{Made}
use Rattle.xe_base.specs.declared.access.Fault.{Fault}
use Rattle.xe_icpt.specs.declared.exit.Exit.{Exit}
use Rattle.xe_opmap.specs.Names.{name_of}
use Rattle.xe_opmap.specs.declared.row.Row.{Row}
use Rattle.xe_ctx.specs.declared.stop.EventKind.{EventKind}
use Rattle.xe_ctx.specs.declared.stop.EventKind.TheVariants.{Int, Int3, Into}
use Rattle.xe_ctx.specs.declared.stop.Handoff.{Handoff}
use Rattle.xe_ctx.specs.declared.stop.Handoff.TheVariants.{CallGate, TaskGate, Tss, TaskReturn, Vm86, Entry, Fetch}
use Rattle.xe_run.specs.declared.event.Event.{Event}
use Rattle.xe_run.specs.declared.event.Event.TheVariants as events
use Rattle.xe_run.specs.Changes.{hex, changes}
use Rattle.xe_run.specs.Shown.{general_text, control_text, segment_text, table_text, memory_text}

abbrev pub space : List ℕ
space = codes " "

abbrev pub newline : List ℕ
newline = 10 ∷ []

abbrev pub space_name : Space → List ℕ
space_name Mem = codes "mem"
space_name Port = codes "port"
space_name Msr = codes "msr"
space_name Cpuid = codes "cpuid"

-- the direction of an access
abbrev pub direction_name : Bool → List ℕ
direction_name false = codes "r"
direction_name true = codes "w"

-- an access up to its value
unfoldable pub place_text : Access → List ℕ
place_text a = space_name a.space ++ space ++ direction_name a.write ++ space ++ hex a.address ++ space ++ decimal a.size

-- the value of an access that was answered: what was written, or what was read, or that there is none
abbrev pub value_text : Access → Answer → List ℕ
value_text a No = codes "no"
value_text a (Val v) = hex (if a.write then a.value else v)

-- an access that was answered
unfoldable pub made_text : Made → List ℕ
made_text m = place_text m.access ++ space ++ value_text m.access m.answer

-- an access with its own value: what is to be written, and 0 for a read
unfoldable pub access_text : Access → List ℕ
access_text a = place_text a ++ space ++ hex a.value

-- an access, or a dash
abbrev pub maybe_access : Option Access → List ℕ
maybe_access None = codes "-"
maybe_access (Some a) = access_text a

-- the instruction's name, or a dash where it isn't known
abbrev pub row_text : Option Row → List ℕ
row_text None = codes "-"
row_text (Some row) = name_of row

-- a number, or a dash
abbrev pub maybe_hex : Option ℕ → List ℕ
maybe_hex None = codes "-"
maybe_hex (Some n) = hex n

unfoldable pub fault_text : Fault → List ℕ
fault_text f = hex f.vector ++ space ++ maybe_hex f.code ++ space ++ maybe_hex f.cr2

-- an exit: its code and its two words of information
unfoldable pub exit_text : Exit → List ℕ
exit_text e = hex e.code ++ space ++ hex e.info1 ++ space ++ hex e.info2

-- the instruction that raises a software interrupt
abbrev pub kind_name : EventKind → List ℕ
kind_name Int = codes "int"
kind_name Int3 = codes "int3"
kind_name Into = codes "into"

-- a software interrupt: its kind, its vector, and RIP behind the instruction
unfoldable pub interrupt_text : EventKind → ℕ → ℕ → List ℕ
interrupt_text kind vector next = kind_name kind ++ space ++ hex vector ++ space ++ hex next

-- what is left to the caller, by its name
abbrev pub handoff_name : Handoff → List ℕ
handoff_name (CallGate selector) = codes "callgate"
handoff_name (TaskGate selector) = codes "taskgate"
handoff_name (Tss selector) = codes "tss"
handoff_name TaskReturn = codes "taskreturn"
handoff_name (Vm86 selector) = codes "vm86"
handoff_name (Entry pa) = codes "entry"
handoff_name (Fetch pa) = codes "fetch"

-- the selector or the physical address that goes with it, 0 where there is none
abbrev pub handoff_value : Handoff → ℕ
handoff_value (CallGate selector) = selector
handoff_value (TaskGate selector) = selector
handoff_value (Tss selector) = selector
handoff_value TaskReturn = 0
handoff_value (Vm86 selector) = selector
handoff_value (Entry pa) = pa
handoff_value (Fetch pa) = pa

unfoldable pub handoff_text : Handoff → List ℕ
handoff_text h = handoff_name h ++ space ++ hex (handoff_value h)

-- what retirement brings with it, unless that is nothing
abbrev pub retire_text : ℕ → List ℕ
retire_text retire = if retire == 0 then [] else codes " retire=" ++ hex retire

-- the line of an event
abbrev pub line_of : Event → List ℕ
line_of (events.Io made waits) = codes "io " ++ made_text made ++ space ++ decimal waits ++ newline
line_of (events.Step row count before after retire) =
    codes "step " ++ row_text row ++ space ++ decimal count ++ codes " rip=" ++ hex after.rip ++ codes " flags=" ++ hex after.rflags
    ++ changes before after ++ retire_text retire ++ newline
line_of (events.Pending row access) = codes "pending " ++ row_text row ++ space ++ access_text access ++ newline
line_of (events.BusFault row access) = codes "busfault " ++ row_text row ++ space ++ access_text access ++ newline
line_of (events.Diverged row at kept wanted) =
    codes "diverged " ++ row_text row ++ space ++ hex at ++ space ++ access_text kept ++ space ++ maybe_access wanted ++ newline
line_of (events.Fault row fault) = codes "fault " ++ row_text row ++ space ++ fault_text fault ++ newline
line_of (events.Handoff row handoff) = codes "handoff " ++ row_text row ++ space ++ handoff_text handoff ++ newline
line_of (events.Exit row exit) = codes "exit " ++ row_text row ++ space ++ exit_text exit ++ newline
line_of (events.Interrupt row kind vector next) = codes "event " ++ row_text row ++ space ++ interrupt_text kind vector next ++ newline
line_of events.Unhandled = codes "unhandled" ++ newline
line_of (events.BadState rule) = codes "badstate " ++ decimal rule ++ newline
line_of (events.NotRam pa) = codes "notram " ++ hex pa ++ newline
line_of (events.General gpr) = general_text gpr ++ newline
line_of (events.Control cpu) = control_text cpu ++ newline
line_of (events.Segment name segment) = segment_text name segment ++ newline
line_of (events.Table name table) = table_text name table ++ newline
line_of (events.Memory pa bytes) = memory_text pa bytes.items ++ newline

-- the bytes of events, one after another
unfoldable pub text : List Event → List ℕ
text events = flat_map line_of events

-- the reasons for which a text is refused, by their numbers
abbrev pub reason_text : ℕ → List ℕ
reason_text reason =
    if reason == 1 then codes "header" else
    (if reason == 2 then codes "bad byte" else
    (if reason == 3 then codes "long line" else
    (if reason == 4 then codes "spacing" else
    (if reason == 5 then codes "unknown command" else
    (if reason == 6 then codes "wrong number of words" else
    (if reason == 7 then codes "unknown name" else
    (if reason == 8 then codes "bad number" else
    (if reason == 9 then codes "bad bytes" else
    (if reason == 10 then codes "bad region" else
    (if reason == 11 then codes "too much ram" else
    (if reason == 12 then codes "late ram" else
    (if reason == 13 then codes "too many" else
    (if reason == 14 then codes "too long" else [])))))))))))))

-- the numbers of the reasons
abbrev pub IsReason : ℕ → Type 0
IsReason reason = (1 ≤ reason) × (reason ≤ 14)

-- the line of a text that is refused
unfoldable pub refusal_text : ℕ → ℕ → List ℕ
refusal_text number reason = codes "refused line " ++ decimal number ++ codes " reason " ++ decimal reason ++ space ++ reason_text reason ++ newline
