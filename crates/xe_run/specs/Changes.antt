-- The registers that differ between two states, as they are printed. This project's choice.
use Rattle.std.specs.Prelude.{ℕ, ◌==◌, ◌&&◌, Bool, if◌then◌else◌, List, [], ◌++◌, codes, false, slice_index}
use Rattle.std.specs.Fmt.{digits}
use Rattle.std.specs.List.{flat_map, range_with_len}
use Rattle.xe_base.specs.declared.cpu.Cpu.{Cpu}
use Rattle.xe_base.specs.declared.segment.Seg.{Seg}
use Rattle.xe_base.specs.declared.segment.Table.{Table}

-- a number in lower case hex, without leading zeros
abbrev pub hex : ℕ → List ℕ
hex n = digits 16 false n

-- the name of a general register, by its number in the encoding (SDM volume 2, "REX Prefixes")
abbrev pub general_name : ℕ → List ℕ
general_name n =
    if n == 0 then codes "rax" else
    (if n == 1 then codes "rcx" else
    (if n == 2 then codes "rdx" else
    (if n == 3 then codes "rbx" else
    (if n == 4 then codes "rsp" else
    (if n == 5 then codes "rbp" else
    (if n == 6 then codes "rsi" else
    (if n == 7 then codes "rdi" else
    (if n == 8 then codes "r8" else
    (if n == 9 then codes "r9" else
    (if n == 10 then codes "r10" else
    (if n == 11 then codes "r11" else
    (if n == 12 then codes "r12" else
    (if n == 13 then codes "r13" else
    (if n == 14 then codes "r14" else codes "r15"))))))))))))))

-- a register's name and its value
abbrev pub named : List ℕ → ℕ → List ℕ
named name value = codes " " ++ name ++ codes "=" ++ hex value

-- a register's name and its new value, unless it stayed the same
abbrev pub change : List ℕ → Bool → ℕ → List ℕ
change name same value = if same then [] else named name value

-- a register that is a number
unfoldable pub number_change : List ℕ → ℕ → ℕ → List ℕ
number_change name old new = change name (old == new) new

unfoldable pub is_same_segment : Seg → Seg → Bool
is_same_segment a b = a.sel == b.sel && a.base == b.base && a.limit == b.limit && a.attr == b.attr

unfoldable pub is_same_table : Table → Table → Bool
is_same_table a b = a.base == b.base && a.limit == b.limit

-- a segment register: its selector, where any part of it changed
abbrev pub segment_change : List ℕ → Seg → Seg → List ℕ
segment_change name old new = change name (is_same_segment old new) new.sel

-- a descriptor table register: its base, where any part of it changed
abbrev pub table_change : List ℕ → Table → Table → List ℕ
table_change name old new = change name (is_same_table old new) new.base

abbrev pub general_change : List ℕ → List ℕ → ℕ → List ℕ
general_change old new n = number_change (general_name n) (slice_index old n) (slice_index new n)

unfoldable pub general_changes : List ℕ → List ℕ → List ℕ
general_changes old new = flat_map (general_change old new) (range_with_len 0 16)

unfoldable pub segment_changes : Cpu → Cpu → List ℕ
segment_changes old new =
    segment_change (codes "es") old.es new.es
    ++ segment_change (codes "cs") old.cs new.cs
    ++ segment_change (codes "ss") old.ss new.ss
    ++ segment_change (codes "ds") old.ds new.ds
    ++ segment_change (codes "fs") old.fs new.fs
    ++ segment_change (codes "gs") old.gs new.gs
    ++ segment_change (codes "ldtr") old.ldtr new.ldtr
    ++ segment_change (codes "tr") old.tr new.tr

unfoldable pub table_changes : Cpu → Cpu → List ℕ
table_changes old new =
    table_change (codes "gdtr") old.gdtr new.gdtr
    ++ table_change (codes "idtr") old.idtr new.idtr

unfoldable pub control_changes : Cpu → Cpu → List ℕ
control_changes old new =
    number_change (codes "cr0") old.cr0 new.cr0
    ++ number_change (codes "cr2") old.cr2 new.cr2
    ++ number_change (codes "cr3") old.cr3 new.cr3
    ++ number_change (codes "cr4") old.cr4 new.cr4
    ++ number_change (codes "cr8") old.cr8 new.cr8
    ++ number_change (codes "efer") old.efer new.efer
    ++ number_change (codes "kgs") old.kgs new.kgs
    ++ number_change (codes "cpl") old.cpl new.cpl

-- the registers that differ, but for rip and rflags, in the order in which they are printed
unfoldable pub changes : Cpu → Cpu → List ℕ
changes old new = general_changes old.gpr new.gpr ++ segment_changes old new ++ table_changes old new ++ control_changes old new
