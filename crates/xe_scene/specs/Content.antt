-- What the lines so far said, and what one line more says. The grammar is this project's own (docs/SCENARIO.md): lines of words, which
-- a person writes by hand and a refusal can name. Whether a line is bad is told by it and by the lines before it alone.
use Rattle.std.specs.Prelude.{ℕ, ◌+◌, ◌==◌, ◌||◌, not, nat_le, nat_lt, Bool, true, if◌then◌else◌, List, [], ◌∷◌, ◌++◌, length, Result, Ok, Err, sum_by}
use Rattle.std.specs.List.{slice_split, list_any, fold}
use Rattle.xe_mem.specs.declared.region.Region.{Region}
use Rattle.xe_mem.specs.Layout.{fits_after, end_behind, total}
use Rattle.xe_scene.specs.declared.reason.Reason.{Reason}
use Rattle.xe_scene.specs.declared.reason.Reason.TheVariants.{BadByte, LongLine, Spacing, BadRegion, TooMuchRam, TooMany}
use Rattle.xe_scene.specs.declared.command.Command.{Command}
use Rattle.xe_scene.specs.declared.command.Command.TheVariants.{Reg, Seg, Table, Poke, Dev, Icpt, Unicpt, Ioport, Icptmsr, Batch, Run, Call, Show, Dump}
use Rattle.xe_scene.specs.declared.queue.QueueName.{QueueName}
use Rattle.xe_scene.specs.declared.words.Entry.{Entry}
use Rattle.xe_scene.specs.declared.words.Entry.TheVariants.{Ram, Obey}
use Rattle.xe_scene.specs.Chain.{◌>>=◌}
use Rattle.xe_icpt.specs.SvmSet.{has_msr}
use Rattle.xe_icpt.specs.declared.svm_set.MsrPair.{MsrPair}
use Rattle.xe_scene.specs.Queues.{is_write, queue_of, same_queue}
use Rattle.xe_scene.specs.Words.{entry_of}

-- what the lines so far said
pub record Content : Type 0 where
  pub regions : List Region
  pub commands : List Command

-- empty, not of whole pages, past 2^40, or below the end of the region before it
unfoldable pub is_bad_region : List Region → Region → Bool
is_bad_region rs r = not (fits_after (end_behind 0 rs) r)

-- at most 16 regions and 16 MiB
unfoldable pub is_too_much : List Region → Region → Bool
is_too_much rs r = nat_le 16 (length rs) || nat_lt 0x100_0000 (total rs + r.len)

-- these queues, and that of a command if it is another
abbrev pub with_queue_of : List QueueName → Command → List QueueName
with_queue_of qs (Reg r v) = qs
with_queue_of qs (Seg r s b l a) = qs
with_queue_of qs (Table t b l) = qs
with_queue_of qs (Poke a b) = qs
with_queue_of qs (Dev s d a is) = if list_any (same_queue (queue_of s d a)) qs then qs else qs ++ queue_of s d a ∷ []
with_queue_of qs (Icpt n) = qs
with_queue_of qs (Unicpt n) = qs
with_queue_of qs (Ioport l h) = qs
with_queue_of qs (Icptmsr d n) = qs
with_queue_of qs (Batch n) = qs
with_queue_of qs (Run n) = qs
with_queue_of qs Call = qs
with_queue_of qs Show = qs
with_queue_of qs (Dump a n) = qs

-- the different queues that commands name
abbrev pub queues_of : List Command → List QueueName
queues_of cs = fold with_queue_of [] cs

-- these pairs of a model-specific register and a direction, and another if it isn't one of them
abbrev pub with_pair : List MsrPair → ℕ → Bool → List MsrPair
with_pair ps number write = if has_msr ps number write then ps else ps ++ record { number = number; write = write } ∷ []

abbrev pub with_pair_of : List MsrPair → Command → List MsrPair
with_pair_of ps (Reg r v) = ps
with_pair_of ps (Seg r s b l a) = ps
with_pair_of ps (Table t b l) = ps
with_pair_of ps (Poke a b) = ps
with_pair_of ps (Dev s d a is) = ps
with_pair_of ps (Icpt n) = ps
with_pair_of ps (Unicpt n) = ps
with_pair_of ps (Ioport l h) = ps
with_pair_of ps (Icptmsr d n) = with_pair ps n (is_write d)
with_pair_of ps (Batch n) = ps
with_pair_of ps (Run n) = ps
with_pair_of ps Call = ps
with_pair_of ps Show = ps
with_pair_of ps (Dump a n) = ps

-- the different pairs that commands name
abbrev pub pairs_of : List Command → List MsrPair
pairs_of cs = fold with_pair_of [] cs

-- how many items, and how many steps, a command has
abbrev pub item_count : Command → ℕ
item_count (Reg r v) = 0
item_count (Seg r s b l a) = 0
item_count (Table t b l) = 0
item_count (Poke a b) = 0
item_count (Dev s d a is) = length is.items
item_count (Icpt n) = 0
item_count (Unicpt n) = 0
item_count (Ioport l h) = 0
item_count (Icptmsr d n) = 0
item_count (Batch n) = 0
item_count (Run n) = 0
item_count Call = 0
item_count Show = 0
item_count (Dump a n) = 0

abbrev pub step_count : Command → ℕ
step_count (Reg r v) = 0
step_count (Seg r s b l a) = 0
step_count (Table t b l) = 0
step_count (Poke a b) = 0
step_count (Dev s d a is) = 0
step_count (Icpt n) = 0
step_count (Unicpt n) = 0
step_count (Ioport l h) = 0
step_count (Icptmsr d n) = 0
step_count (Batch n) = 0
step_count (Run n) = n
step_count Call = 0
step_count Show = 0
step_count (Dump a n) = 0

-- at most 4,096 commands, 4,096 items, 1,000,000 steps, 256 different queues and 64 different pairs
unfoldable pub is_too_many : List Command → Command → Bool
is_too_many cs c = nat_le 4096 (length cs) || nat_lt 4096 (sum_by item_count cs + item_count c) || nat_lt 1000000 (sum_by step_count cs + step_count c) || nat_lt 256 (length (with_queue_of (queues_of cs) c)) || nat_lt 64 (length (with_pair_of (pairs_of cs) c))

-- the content with what one line says
unfoldable pub put : Content → Entry → Result Content Reason
put d (Ram r) =
    if is_bad_region d.regions r then Err BadRegion
    else if is_too_much d.regions r then Err TooMuchRam
    else Ok (record d { regions = d.regions ++ r ∷ [] })
put d (Obey c) =
    if is_too_many d.commands c then Err TooMany
    else Ok (record d { commands = d.commands ++ c ∷ [] })

-- RAM comes before all commands
abbrev pub is_late : Content → Bool
is_late d = nat_lt 0 (length d.commands)

abbrev pub is_space : ℕ → Bool
is_space b = b == 32

-- neither printable ASCII nor a space
abbrev pub is_bad_byte : ℕ → Bool
is_bad_byte b = nat_lt b 32 || nat_lt 126 b

-- an empty line and a comment do nothing
abbrev pub does_nothing : List ℕ → Bool
does_nothing [] = true
does_nothing (c ∷ cs) = c == 35

abbrev pub is_empty_word : List ℕ → Bool
is_empty_word word = length word == 0

unfoldable pub words_say : Content → List (List ℕ) → Result Content Reason
words_say d words =
    if list_any is_empty_word words then Err Spacing
    else entry_of (is_late d) words >>= put d

-- the content after a line
unfoldable pub line_says : Content → List ℕ → Result Content Reason
line_says d line =
    if list_any is_bad_byte line then Err BadByte
    else if nat_lt 200 (length line) then Err LongLine
    else if does_nothing line then Ok d
    else words_say d (slice_split is_space line)
