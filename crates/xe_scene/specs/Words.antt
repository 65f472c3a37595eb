-- What the words of one line say, by themselves. They are counted first and then read from left to right, so that the reason of a
-- refusal is that of the first word that is wrong.
use Rattle.std.specs.Prelude.{ℕ, ◌==◌, ◌||◌, nat_lt, Bool, if◌then◌else◌, List, [], ◌∷◌, length, Option, Some, None, Result, Ok, Err, codes}
use Rattle.std.specs.Str.{bytes_eq}
use Rattle.xe_base.specs.Access.{is_msr}
use Rattle.xe_base.specs.declared.access.Space.{Space}
use Rattle.xe_icpt.specs.declared.svm_name.SvmName.{SvmName}
use Rattle.xe_scene.specs.declared.reason.Reason.{Reason}
use Rattle.xe_scene.specs.declared.reason.Reason.TheVariants.{UnknownCommand, WordCount, UnknownName, BadNumber, BadBytes, LateRam, TooMany}
use Rattle.xe_scene.specs.declared.command.Item.{Item}
use Rattle.xe_scene.specs.declared.command.Item.TheVariants.{Wait, Value, No, Fail}
use Rattle.xe_scene.specs.declared.command.Command.TheVariants.{Reg, Seg, Table, Poke, Dev, Icpt, Unicpt, Ioport, Icptmsr, Batch, Run, Call, Show, Dump}
use Rattle.xe_scene.specs.declared.words.Entry.{Entry}
use Rattle.xe_scene.specs.declared.words.Entry.TheVariants.{Ram, Obey}
use Rattle.xe_scene.specs.declared.names.CommandName.{CommandName}
use Rattle.xe_scene.specs.declared.names.CommandName.TheVariants as commands
use Rattle.xe_scene.specs.Chain.{◌>>=◌}
use Rattle.xe_scene.specs.Names.{command_name, register_name, register_most, segment_name, table_name, space_of, direction_of, intercept_name}
use Rattle.xe_scene.specs.Numbers.{hex_number, decimal_number, bytes_of}

-- the value, or the reason why there is none
abbrev pub or_else : {A : Type 0} → Reason → Option A → Result A Reason
or_else reason None = Err reason
or_else reason (Some x) = Ok x

-- a number that is at most the greatest value of its field
unfoldable pub number_up_to : ℕ → List ℕ → Result ℕ Reason
number_up_to most word = or_else BadNumber (hex_number most word)

-- a number of 64 bits
abbrev pub quad : List ℕ → Result ℕ Reason
quad word = number_up_to (0xffff_ffff_ffff_ffff) word

unfoldable pub region_at : List ℕ → List ℕ → Result Entry Reason
region_at start len = do
  s ← quad start
  l ← quad len
  Ok (Ram (record { start = s; len = l }))

-- ram START LEN
unfoldable pub region_of : Bool → List (List ℕ) → Result Entry Reason
region_of late (start ∷ len ∷ []) = if late then Err LateRam else region_at start len
region_of late words = Err WordCount

unfoldable pub register_with : List ℕ → List ℕ → Result Entry Reason
register_with name value = do
  r ← register_name name
  v ← number_up_to (register_most r) value
  Ok (Obey (Reg r v))

-- reg NAME H
unfoldable pub register_of : List (List ℕ) → Result Entry Reason
register_of (name ∷ value ∷ []) = register_with name value
register_of words = Err WordCount

unfoldable pub segment_with : List ℕ → List ℕ → List ℕ → List ℕ → List ℕ → Result Entry Reason
segment_with name selector base limit attr = do
  r ← segment_name name
  s ← number_up_to 0xffff selector
  b ← quad base
  l ← number_up_to 0xffff_ffff limit
  a ← number_up_to 0xffff attr
  Ok (Obey (Seg r s b l a))

-- seg NAME SEL BASE LIMIT ATTR
unfoldable pub segment_of : List (List ℕ) → Result Entry Reason
segment_of (name ∷ selector ∷ base ∷ limit ∷ attr ∷ []) = segment_with name selector base limit attr
segment_of words = Err WordCount

unfoldable pub table_with : List ℕ → List ℕ → List ℕ → Result Entry Reason
table_with name base limit = do
  t ← table_name name
  b ← quad base
  l ← number_up_to 0xffff limit
  Ok (Obey (Table t b l))

-- table NAME BASE LIMIT
unfoldable pub table_of : List (List ℕ) → Result Entry Reason
table_of (name ∷ base ∷ limit ∷ []) = table_with name base limit
table_of words = Err WordCount

unfoldable pub poke_at : List ℕ → List ℕ → Result Entry Reason
poke_at address bytes = do
  a ← quad address
  b ← or_else BadBytes (bytes_of bytes)
  Ok (Obey (Poke a b))

-- poke PA BYTES
unfoldable pub poke_of : List (List ℕ) → Result Entry Reason
poke_of (address ∷ bytes ∷ []) = poke_at address bytes
poke_of words = Err WordCount

-- `wait`, `fail`, `no` and a value; only model-specific registers have the item `no`
unfoldable pub item_of : Space → List ℕ → Result Item Reason
item_of space word =
    if bytes_eq word (codes "wait") then Ok Wait
    else if bytes_eq word (codes "fail") then Ok Fail
    else if bytes_eq word (codes "no") then (if is_msr space then Ok No else Err UnknownName)
    else (do
      v ← quad word
      Ok (Value v))

unfoldable pub items_of : Space → List (List ℕ) → Result (List Item) Reason
items_of space [] = Ok []
items_of space (word ∷ words) = do
  i ← item_of space word
  is ← items_of space words
  Ok (i ∷ is)

-- dev SPACE DIR ADDR ITEMS, with 1 to 16 items
unfoldable pub device_of : List (List ℕ) → Result Entry Reason
device_of (space ∷ direction ∷ address ∷ items) =
    if length items == 0 || nat_lt 16 (length items) then Err WordCount
    else (do
      s ← space_of space
      d ← direction_of direction
      a ← quad address
      is ← items_of s items
      Ok (Obey (Dev s d a (record { items = is }))))
device_of words = Err WordCount

-- icpt NAME and unicpt NAME
unfoldable pub intercept_of : List (List ℕ) → Result SvmName Reason
intercept_of (name ∷ []) = intercept_name name
intercept_of words = Err WordCount

unfoldable pub set_of : List (List ℕ) → Result Entry Reason
set_of words = do
  n ← intercept_of words
  Ok (Obey (Icpt n))

unfoldable pub clear_of : List (List ℕ) → Result Entry Reason
clear_of words = do
  n ← intercept_of words
  Ok (Obey (Unicpt n))

-- the last port is not below the first
unfoldable pub ports_from : List ℕ → List ℕ → Result Entry Reason
ports_from low high = do
  l ← number_up_to 0xffff low
  h ← number_up_to 0xffff high
  if nat_lt h l then Err BadNumber else Ok (Obey (Ioport l h))

-- ioport LOW HIGH
unfoldable pub ports_of : List (List ℕ) → Result Entry Reason
ports_of (low ∷ high ∷ []) = ports_from low high
ports_of words = Err WordCount

unfoldable pub msr_with : List ℕ → List ℕ → Result Entry Reason
msr_with direction number = do
  d ← direction_of direction
  n ← number_up_to 0xffff_ffff number
  Ok (Obey (Icptmsr d n))

-- icptmsr DIR NUMBER
unfoldable pub msr_of : List (List ℕ) → Result Entry Reason
msr_of (direction ∷ number ∷ []) = msr_with direction number
msr_of words = Err WordCount

-- the steps of a turn: 1 to 1000
abbrev pub turn_of : Option ℕ → Result Entry Reason
turn_of None = Err BadNumber
turn_of (Some n) = if n == 0 then Err BadNumber else if nat_lt 1000 n then Err BadNumber else Ok (Obey (Batch n))

-- batch N
unfoldable pub batch_of : List (List ℕ) → Result Entry Reason
batch_of (count ∷ []) = turn_of (decimal_number count)
batch_of words = Err WordCount

-- the steps of a run: one at least; more than a scene may have is too many, and no bad number
abbrev pub steps_of : Option ℕ → Result Entry Reason
steps_of None = Err BadNumber
steps_of (Some n) = if n == 0 then Err BadNumber else if nat_lt 1000000 n then Err TooMany else Ok (Obey (Run n))

-- run N
unfoldable pub run_of : List (List ℕ) → Result Entry Reason
run_of (count ∷ []) = steps_of (decimal_number count)
run_of words = Err WordCount

-- call
unfoldable pub call_of : List (List ℕ) → Result Entry Reason
call_of [] = Ok (Obey Call)
call_of (word ∷ words) = Err WordCount

-- show
unfoldable pub show_of : List (List ℕ) → Result Entry Reason
show_of [] = Ok (Obey Show)
show_of (word ∷ words) = Err WordCount

-- one byte at least
abbrev pub some_length : ℕ → Result ℕ Reason
some_length n = if n == 0 then Err BadNumber else Ok n

unfoldable pub dump_at : List ℕ → List ℕ → Result Entry Reason
dump_at address len = do
  a ← quad address
  n ← number_up_to 0x1000 len
  l ← some_length n
  Ok (Obey (Dump a l))

-- dump PA LEN
unfoldable pub dump_of : List (List ℕ) → Result Entry Reason
dump_of (address ∷ len ∷ []) = dump_at address len
dump_of words = Err WordCount

-- what a command says with these words; late tells that it is too late for RAM
abbrev pub said_by : Bool → CommandName → List (List ℕ) → Result Entry Reason
said_by late commands.Ram words = region_of late words
said_by late commands.Reg words = register_of words
said_by late commands.Seg words = segment_of words
said_by late commands.Table words = table_of words
said_by late commands.Poke words = poke_of words
said_by late commands.Dev words = device_of words
said_by late commands.Icpt words = set_of words
said_by late commands.Unicpt words = clear_of words
said_by late commands.Ioport words = ports_of words
said_by late commands.Icptmsr words = msr_of words
said_by late commands.Batch words = batch_of words
said_by late commands.Run words = run_of words
said_by late commands.Call words = call_of words
said_by late commands.Show words = show_of words
said_by late commands.Dump words = dump_of words

-- what a line says whose first word is the command
unfoldable pub entry_of : Bool → List (List ℕ) → Result Entry Reason
entry_of late [] = Err UnknownCommand
entry_of late (name ∷ words) = do
  c ← command_name name
  said_by late c words
