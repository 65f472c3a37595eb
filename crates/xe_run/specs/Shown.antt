-- The lines that show registers and memory. This project's choice.
use Rattle.std.specs.Prelude.{ℕ, List, ◌++◌, codes, slice_index}
use Rattle.std.specs.List.{flat_map, range_with_len}
use Rattle.hex.specs.Hex.{encode_lower}
use Rattle.xe_base.specs.declared.cpu.Cpu.{Cpu}
use Rattle.xe_base.specs.declared.segment.Seg.{Seg}
use Rattle.xe_base.specs.declared.segment.Table.{Table}
use Rattle.xe_scene.specs.declared.command.SegReg.{SegReg}
use Rattle.xe_scene.specs.declared.command.SegReg.TheVariants.{Es, Cs, Ss, Ds, Fs, Gs, Ldtr, Tr}
use Rattle.xe_scene.specs.declared.command.DtName.{DtName}
use Rattle.xe_scene.specs.declared.command.DtName.TheVariants.{Gdtr, Idtr}
use Rattle.xe_run.specs.Changes.{hex, general_name, named}

-- a general register by its number in the encoding
abbrev pub general_shown : List ℕ → ℕ → List ℕ
general_shown gpr n = named (general_name n) (slice_index gpr n)

-- the 16 general registers
unfoldable pub general_text : List ℕ → List ℕ
general_text gpr = codes "gpr" ++ flat_map (general_shown gpr) (range_with_len 0 16)

-- the other registers that are numbers
unfoldable pub control_text : Cpu → List ℕ
control_text cpu =
    codes "ctl" ++ named (codes "rip") cpu.rip ++ named (codes "flags") cpu.rflags ++ named (codes "cr0") cpu.cr0 ++ named (codes "cr2") cpu.cr2
    ++ named (codes "cr3") cpu.cr3 ++ named (codes "cr4") cpu.cr4 ++ named (codes "cr8") cpu.cr8 ++ named (codes "efer") cpu.efer
    ++ named (codes "kgs") cpu.kgs ++ named (codes "cpl") cpu.cpl

abbrev pub segment_name : SegReg → List ℕ
segment_name Es = codes "es"
segment_name Cs = codes "cs"
segment_name Ss = codes "ss"
segment_name Ds = codes "ds"
segment_name Fs = codes "fs"
segment_name Gs = codes "gs"
segment_name Ldtr = codes "ldtr"
segment_name Tr = codes "tr"

-- a segment register: selector, base, limit and attributes
unfoldable pub segment_text : SegReg → Seg → List ℕ
segment_text name s = codes "seg " ++ segment_name name ++ codes " " ++ hex s.sel ++ codes " " ++ hex s.base ++ codes " " ++ hex s.limit ++ codes " " ++ hex s.attr

abbrev pub table_name : DtName → List ℕ
table_name Gdtr = codes "gdtr"
table_name Idtr = codes "idtr"

-- a descriptor table register: base and limit
unfoldable pub table_text : DtName → Table → List ℕ
table_text name t = codes "table " ++ table_name name ++ codes " " ++ hex t.base ++ codes " " ++ hex t.limit

-- bytes of memory, two digits each, from an address on
unfoldable pub memory_text : ℕ → List ℕ → List ℕ
memory_text pa bytes = codes "mem " ++ hex pa ++ codes " " ++ encode_lower bytes
