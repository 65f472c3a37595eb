-- The ranges of a command's words. A register's words have the bits of its parts (SDM volume 3, "Segment Registers" and "Segment
-- Descriptors": a selector has 16 bits, a limit in bytes 32; "Memory-Management Registers": a table's limit has 16); attributes have a
-- field of 16. The other bounds are this project's, and keep what one line prints or runs in proportion.
use Rattle.std.specs.Prelude.{◌≤◌, ◌<◌, All, IsTrue, length}
use Rattle.xe_base.specs.Access.{is_msr}
use Rattle.xe_base.specs.declared.access.Space.{Space}
use Rattle.xe_scene.specs.declared.command.Command.{Command}
use Rattle.xe_scene.specs.declared.command.Command.TheVariants.{Reg, Seg, Table, Poke, Dev, Icpt, Unicpt, Ioport, Icptmsr, Batch, Run, Call, Show, Dump}
use Rattle.xe_scene.specs.declared.command.Item.{Item}
use Rattle.xe_scene.specs.declared.command.Item.TheVariants.{Wait, Value, No, Fail}
use Rattle.xe_scene.specs.declared.words.Entry.{Entry}
use Rattle.xe_scene.specs.declared.words.Entry.TheVariants.{Ram, Obey}
use Rattle.xe_scene.specs.Names.{register_most}

-- only a model-specific register answers that there is none
abbrev pub IsItemFor : Space → Item → Type 0
IsItemFor s Wait = Unit {0}
IsItemFor s (Value v) = Unit {0}
IsItemFor s No = IsTrue (is_msr s)
IsItemFor s Fail = Unit {0}

-- a command that a line can say
abbrev pub IsFormed : Command → Type 0
IsFormed (Reg r v) = v ≤ register_most r
IsFormed (Seg r selector base limit attr) = (selector ≤ 0xffff) × (limit ≤ 0xffff_ffff) × (attr ≤ 0xffff)
IsFormed (Table t base limit) = limit ≤ 0xffff
IsFormed (Poke a bytes) = 0 < length bytes.items
IsFormed (Dev s d a items) = (0 < length items.items) × All (IsItemFor s) items.items
IsFormed (Icpt n) = Unit {0}
IsFormed (Unicpt n) = Unit {0}
IsFormed (Ioport low high) = (low ≤ high) × (high ≤ 0xffff)
IsFormed (Icptmsr d number) = number ≤ 0xffff_ffff
IsFormed (Batch n) = (0 < n) × (n ≤ 1000)
IsFormed (Run n) = (0 < n) × (n ≤ 1000000)
IsFormed Call = Unit {0}
IsFormed Show = Unit {0}
IsFormed (Dump a len) = (0 < len) × (len ≤ 0x1000)

abbrev pub IsFormedEntry : Entry → Type 0
IsFormedEntry (Ram r) = Unit {0}
IsFormedEntry (Obey c) = IsFormed c
