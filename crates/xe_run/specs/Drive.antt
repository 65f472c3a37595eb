-- The events of a scene: its commands one after another, over a machine, the draft of its registers, what is intercepted, how many steps a
-- turn has at most, the script of the devices, and what `call` has kept of a suspended step. Nothing else is kept between the steps. This project's choice.
use Rattle.std.specs.Prelude.{ℕ, zero, suc, ◌+◌, ◌-◌, ◌*◌, ◌/◌, ◌%◌, ◌^◌, ◌==◌, ◌||◌, min, not, slice_set, List, [], ◌∷◌, ◌++◌, length, map, take, drop, Bool, false, if◌then◌else◌, Option, Some, None}
use Rattle.std.specs.List.{range_with_len}
use Rattle.xe_base.specs.Ram.{bytes_of, put_bytes}
use Rattle.xe_base.specs.Reset.{reset_state}
use Rattle.xe_base.specs.State.{broken}
use Rattle.xe_base.specs.declared.access.Made.{Made}
use Rattle.xe_base.specs.declared.cpu.Cpu.{Cpu}
use Rattle.xe_base.specs.declared.segment.Seg.{Seg}
use Rattle.xe_base.specs.declared.segment.Table.{Table}
use Rattle.xe_mem.specs.Layout.{zeroed}
use Rattle.xe_mem.specs.declared.region.Region.{Region}
use Rattle.std.specs.FinSet.{empty, union}
use Rattle.std.specs.Int.RustNames.{bit_or}
use Rattle.bitflags.specs.Sets.{without}
use Rattle.xe_icpt.specs.Ports.{ports_between}
use Rattle.xe_icpt.specs.SvmSet.{Svm, svm_hit, bits_of, has_msr}
use Rattle.xe_icpt.specs.declared.exit.Exit.{Exit}
use Rattle.xe_icpt.specs.declared.point.Point.{Point}
use Rattle.xe_opmap.specs.declared.row.Row.{Row}
use Rattle.xe_ctx.specs.State.{State}
use Rattle.xe_ctx.specs.Machine.{first_hole}
use Rattle.xe_ctx.specs.Tape.{Tape, empty_tape, begun}
use Rattle.xe_ctx.specs.Kept.{Kept, nothing}
use Rattle.xe_core.specs.Call.{Call, one_call}
use Rattle.xe_ctx.specs.declared.report.Outcome.{Outcome}
use Rattle.xe_ctx.specs.declared.report.Outcome.TheVariants as ends
use Rattle.xe_core.specs.Emulate.{steps_of}
use Rattle.xe_core.specs.Step.{is_done}
use Rattle.xe_scene.specs.Queues.{is_write}
use Rattle.xe_scene.specs.Script.{with_device}
use Rattle.xe_scene.specs.declared.command.Command.{Command}
use Rattle.xe_scene.specs.declared.command.Command.TheVariants.{Reg, Seg as SetSegment, Table as SetTable, Poke, Dev, Icpt, Unicpt, Ioport, Icptmsr, Batch, Run, Call as CallOnce, Show, Dump}
use Rattle.xe_scene.specs.declared.command.RegName.{RegName}
use Rattle.xe_scene.specs.declared.command.RegName.TheVariants.{Rax, Rcx, Rdx, Rbx, Rsp, Rbp, Rsi, Rdi, R8, R9, R10, R11, R12, R13, R14, R15, Rip, Rflags, Cr0, Cr2, Cr3, Cr4, Cr8, Efer, Kgs, Cpl}
use Rattle.xe_scene.specs.declared.command.SegReg.{SegReg}
use Rattle.xe_scene.specs.declared.command.SegReg.TheVariants.{Es, Cs, Ss, Ds, Fs, Gs, Ldtr, Tr}
use Rattle.xe_scene.specs.declared.command.DtName.{DtName}
use Rattle.xe_scene.specs.declared.command.DtName.TheVariants.{Gdtr, Idtr}
use Rattle.xe_run.specs.declared.event.Event.{Event}
use Rattle.xe_run.specs.declared.event.Event.TheVariants as events
use Rattle.xe_run.specs.Turn.{Answered, Turn, turn_over}

-- what a run goes through: the machine, the draft of its registers, what is intercepted, how many steps a turn has at most, the script,
-- and what a call has kept
pub record World : Type 0 where
  pub machine : State
  pub draft : Cpu
  pub icpt : Svm
  pub batch : ℕ
  pub tape : Tape
  pub kept : Kept

-- what something shows, and the world after it
pub record Did : Type 0 where
  pub events : List Event
  pub after : World

-- what shows nothing
abbrev pub silent : World → Did
silent w = record { events = []; after = w }

-- what is intercepted
abbrev pub hits_of : World → Point → Option Exit
hits_of w = svm_hit w.icpt

-- ---- turns and calls

-- a device access, and how often its device wasn't ready before
abbrev pub io_event : Answered → Event
io_event a = events.Io a.made a.waits

-- how a turn or a call ended: the last finished step with the count of steps and the registers before and after them, or what ended the
-- last one
abbrev pub end_event : Cpu → Cpu → ℕ → Option Row → Option Row → Outcome → Event
end_event before after count finished row (ends.Done more retire) = events.Step finished count before after retire
end_event before after count finished row (ends.Pending access) = events.Pending row access
end_event before after count finished row (ends.Fault fault) = events.Fault row fault
end_event before after count finished row (ends.Intercept exit) = events.Exit row exit
end_event before after count finished row (ends.Event kind vector next) = events.Interrupt row kind vector next
end_event before after count finished row (ends.Handoff handoff) = events.Handoff row handoff
end_event before after count finished row ends.Unhandled = events.Unhandled
end_event before after count finished row (ends.BusFault access) = events.BusFault row access
end_event before after count finished row (ends.Diverged at kept wanted) = events.Diverged row at kept wanted

-- the steps that finished before one that didn't, where there are such
abbrev pub steps_event : Cpu → Cpu → ℕ → Option Row → Outcome → List Event
steps_event before after count finished outcome = if is_done outcome || count == 0 then [] else events.Step finished count before after 0 ∷ []

-- the steps that finished before one that didn't, the accesses of the last step that were answered, and then how the turn ended
abbrev pub turn_events : Cpu → Turn → List Event
turn_events before t = steps_event before t.state.cpu t.steps t.finished t.outcome ++ (map io_event t.accesses ++ end_event before t.state.cpu t.steps t.finished t.row t.outcome ∷ [])

-- the processor halts: bit 2 of what retirement brings with it, which HLT alone sets
abbrev pub is_halt : ℕ → Bool
is_halt retire = retire / 4 % 2 == 1

-- a run goes on after a step that finished, unless that was HLT
abbrev pub goes_on_after : Outcome → Bool
goes_on_after (ends.Done more retire) = not (is_halt retire)
goes_on_after (ends.Pending access) = false
goes_on_after (ends.Fault fault) = false
goes_on_after (ends.Intercept exit) = false
goes_on_after (ends.Event kind vector next) = false
goes_on_after (ends.Handoff handoff) = false
goes_on_after ends.Unhandled = false
goes_on_after (ends.BusFault access) = false
goes_on_after (ends.Diverged at kept wanted) = false

-- a turn of at most n steps, over the script with an empty log
unfoldable pub turn : ℕ → World → Turn
turn n w = turn_over (steps_of (hits_of w)) (n - 1) w.machine (begun w.tape)

-- the next turn where so many steps are left
abbrev pub next_turn : ℕ → World → Turn
next_turn left w = turn (min w.batch left) w

-- the world after a turn
abbrev pub turned : World → Turn → World
turned w t = record w { machine = t.state; tape = t.tape }

-- a turn, and what follows it where the run goes on
abbrev pub and_then : World → Turn → Did → Did
and_then w t rest =
    if goes_on_after t.outcome then record { events = turn_events w.machine.cpu t ++ rest.events; after = rest.after }
    else record { events = turn_events w.machine.cpu t; after = turned w t }

-- turns until the steps that are left have finished, or the run ends before; at most so many turns
unfoldable pub turns_in : ℕ → ℕ → World → Did
turns_in zero left w = silent w
turns_in (suc more) left w = if left == 0 then silent w else and_then w (next_turn left w) (turns_in more (left - (next_turn left w).steps) (turned w (next_turn left w)))

-- A turn behind which the run goes on has finished a step, so there are no more turns than steps.
abbrev pub turns : ℕ → World → Did
turns n w = turns_in n n w

-- an access that a call answered; it asks for each access once
abbrev pub call_event : Made → Event
call_event made = events.Io made 0

-- the steps that finished before one that didn't, the accesses that were answered in this call, which stand behind those that were kept
-- before, and then how it ended
abbrev pub call_events : Cpu → Kept → Call → List Event
call_events before kept c = steps_event before c.state.cpu c.elements c.finished c.outcome ++ (map call_event (drop (length kept.answers) c.accesses) ++ end_event before c.state.cpu c.elements c.finished c.row c.outcome ∷ [])

abbrev pub script_left : Option Tape → Tape → Tape
script_left None t = t
script_left (Some u) t = u

-- the world after a call, which keeps what its step needs to go on
abbrev pub after_call : World → Call → World
after_call w c = record w { machine = c.state; tape = script_left c.tape w.tape; kept = c.kept }

-- one call, over the script with an empty log
unfoldable pub single_call : World → Call
single_call w = one_call (steps_of (hits_of w)) w.batch w.machine w.kept (begun w.tape)

-- ---- the commands

-- the draft becomes the machine's state again
abbrev pub redrafted : World → World
redrafted w = record w { draft = w.machine.cpu }

-- the machine takes the draft over
abbrev pub installed : World → World
installed w = record w { machine = record w.machine { cpu = w.draft } }

-- what is done once the draft is installed; one that breaks this rule of a valid state is refused instead, and nothing else is done
abbrev pub with_draft : Option ℕ → World → Did → Did
with_draft (Some rule) w did = record { events = events.BadState rule ∷ []; after = redrafted w }
with_draft None w did = did

-- a suspended step is given up
abbrev pub abandoned : World → World
abandoned w = record w { kept = nothing }

-- a run installs the draft first and gives up a suspended step, and the draft is the machine's state after it
unfoldable pub run_command : ℕ → World → Did
run_command n w = with_draft (broken w.draft) w (let did = turns n (abandoned (installed w)) in record did { after = redrafted did.after })

-- a call installs the draft first, too, but goes on with a suspended step
unfoldable pub call_command : World → Did
call_command w = with_draft (broken w.draft) w (let v = installed w in record { events = call_events v.machine.cpu v.kept (single_call v); after = redrafted (after_call v (single_call v)) })

-- all registers, line by line
unfoldable pub shown : Cpu → List Event
shown cpu =
    events.General cpu.gpr
    ∷ events.Control cpu
    ∷ events.Segment Es cpu.es
    ∷ events.Segment Cs cpu.cs
    ∷ events.Segment Ss cpu.ss
    ∷ events.Segment Ds cpu.ds
    ∷ events.Segment Fs cpu.fs
    ∷ events.Segment Gs cpu.gs
    ∷ events.Segment Ldtr cpu.ldtr
    ∷ events.Segment Tr cpu.tr
    ∷ events.Table Gdtr cpu.gdtr
    ∷ events.Table Idtr cpu.idtr
    ∷ []

-- the registers are shown once the draft is installed
unfoldable pub show_command : World → Did
show_command w = with_draft (broken w.draft) w (record { events = shown w.draft; after = installed w })

-- line i of memory that is shown: the bytes from 16 * i on, at most 16; an address has 64 bits
abbrev pub memory_line : ℕ → List ℕ → ℕ → Event
memory_line pa bytes i = events.Memory ((pa + 16 * i) % 2 ^ 64) (record { items = take 16 (drop (16 * i) bytes) })

-- bytes of memory, 16 a line, and the rest
unfoldable pub memory_shown : ℕ → List ℕ → List Event
memory_shown pa bytes = map (memory_line pa bytes) (range_with_len 0 ((length bytes + 15) / 16))

-- bytes that aren't all in RAM are not shown, but the first address that isn't RAM
abbrev pub dumped : Option ℕ → ℕ → ℕ → World → List Event
dumped (Some hole) pa len w = events.NotRam hole ∷ []
dumped None pa len w = memory_shown pa (bytes_of w.machine.ram pa len)

unfoldable pub dump_command : ℕ → ℕ → World → Did
dump_command pa len w = record { events = dumped (first_hole w.machine.ram pa len) pa len w; after = w }

-- bytes that aren't all in RAM are not written, and the first address that isn't RAM is shown
abbrev pub poked : Option ℕ → ℕ → List ℕ → World → Did
poked (Some hole) pa bytes w = record { events = events.NotRam hole ∷ []; after = w }
poked None pa bytes w = silent (record w { machine = record w.machine { ram = put_bytes w.machine.ram pa bytes } })

unfoldable pub poke_command : ℕ → List ℕ → World → Did
poke_command pa bytes w = poked (first_hole w.machine.ram pa (length bytes)) pa bytes w

abbrev pub with_general : ℕ → ℕ → Cpu → Cpu
with_general number value cpu = record cpu { gpr = slice_set cpu.gpr number value }

-- the registers with one of them set
abbrev pub with_register : RegName → ℕ → Cpu → Cpu
with_register Rax value cpu = with_general 0 value cpu
with_register Rcx value cpu = with_general 1 value cpu
with_register Rdx value cpu = with_general 2 value cpu
with_register Rbx value cpu = with_general 3 value cpu
with_register Rsp value cpu = with_general 4 value cpu
with_register Rbp value cpu = with_general 5 value cpu
with_register Rsi value cpu = with_general 6 value cpu
with_register Rdi value cpu = with_general 7 value cpu
with_register R8 value cpu = with_general 8 value cpu
with_register R9 value cpu = with_general 9 value cpu
with_register R10 value cpu = with_general 10 value cpu
with_register R11 value cpu = with_general 11 value cpu
with_register R12 value cpu = with_general 12 value cpu
with_register R13 value cpu = with_general 13 value cpu
with_register R14 value cpu = with_general 14 value cpu
with_register R15 value cpu = with_general 15 value cpu
with_register Rip value cpu = record cpu { rip = value }
with_register Rflags value cpu = record cpu { rflags = value }
with_register Cr0 value cpu = record cpu { cr0 = value }
with_register Cr2 value cpu = record cpu { cr2 = value }
with_register Cr3 value cpu = record cpu { cr3 = value }
with_register Cr4 value cpu = record cpu { cr4 = value }
with_register Cr8 value cpu = record cpu { cr8 = value }
with_register Efer value cpu = record cpu { efer = value }
with_register Kgs value cpu = record cpu { kgs = value }
with_register Cpl value cpu = record cpu { cpl = value }

abbrev pub with_segment : SegReg → Seg → Cpu → Cpu
with_segment Es value cpu = record cpu { es = value }
with_segment Cs value cpu = record cpu { cs = value }
with_segment Ss value cpu = record cpu { ss = value }
with_segment Ds value cpu = record cpu { ds = value }
with_segment Fs value cpu = record cpu { fs = value }
with_segment Gs value cpu = record cpu { gs = value }
with_segment Ldtr value cpu = record cpu { ldtr = value }
with_segment Tr value cpu = record cpu { tr = value }

abbrev pub with_table : DtName → Table → Cpu → Cpu
with_table Gdtr value cpu = record cpu { gdtr = value }
with_table Idtr value cpu = record cpu { idtr = value }

-- a model-specific register with a direction joins those that are intercepted. There is room for 64 of them, and a scene has no more.
abbrev pub with_msr : Svm → ℕ → Bool → Svm
with_msr set number write = if has_msr set.msrs number write || length set.msrs == 64 then set else record set { msrs = set.msrs ++ record { number = number; write = write } ∷ [] }

-- only what is intercepted changes
abbrev pub intercepting : World → Svm → Did
intercepting w set = silent (record w { icpt = set })

-- only the draft changes
abbrev pub drafted : World → Cpu → Did
drafted w cpu = silent (record w { draft = cpu })

unfoldable pub obeyed : World → Command → Did
obeyed w (Reg name value) = drafted w (with_register name value w.draft)
obeyed w (SetSegment name selector base limit attr) = drafted w (with_segment name (record { sel = selector; base = base; limit = limit; attr = attr }) w.draft)
obeyed w (SetTable name base limit) = drafted w (with_table name (record { base = base; limit = limit }) w.draft)
obeyed w (Poke pa bytes) = poke_command pa bytes.items w
obeyed w (Dev space dir address items) = silent (record w { tape = with_device w.tape space dir address items.items })
obeyed w (Icpt name) = intercepting w (record w.icpt { names = bit_or w.icpt.names (bits_of name) })
obeyed w (Unicpt name) = intercepting w (record w.icpt { names = without 64 w.icpt.names (bits_of name) })
obeyed w (Ioport low high) = intercepting w (record w.icpt { ports = union w.icpt.ports (ports_between low high) })
obeyed w (Icptmsr direction number) = intercepting w (with_msr w.icpt number (is_write direction))
obeyed w (Batch n) = silent (record w { batch = n })
obeyed w (Run steps) = run_command steps w
obeyed w CallOnce = call_command w
obeyed w Show = show_command w
obeyed w (Dump pa len) = dump_command pa len w

-- the events of commands
unfoldable pub drive_from : World → List Command → List Event
drive_from w [] = []
drive_from w (c ∷ cs) = (obeyed w c).events ++ drive_from (obeyed w c).after cs

-- RAM of zeros, the registers of a reset, nothing intercepted, turns of one step, empty queues, and no suspended step
abbrev pub start : List Region → World
start regions = record { machine = record { cpu = reset_state; ram = zeroed regions }; draft = reset_state; icpt = record { names = 0; ports = empty; msrs = [] }; batch = 1; tape = empty_tape; kept = nothing }

-- the events of a scene
unfoldable pub drive : List Region → List Command → List Event
drive regions commands = drive_from (start regions) commands
