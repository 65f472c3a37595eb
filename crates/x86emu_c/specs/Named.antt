use Rattle.std.specs.Prelude.{ℕ, ◌≡◌, ◌<◌, List, [], length, take, Bool, Option, Some, None, if◌then◌else◌}
use Rattle.xe_opmap.specs.Names.{name_of}
use Rattle.xe_opmap.specs.declared.row.Row.{Row}
use Rattle.xe_ctx.specs.declared.report.Report.{Report}
use Rattle.x86emu_c.specs.declared.name.X86emuNameText.{X86emuNameText}

-- the instruction of the last step, or of the last one that finished
abbrev pub row_of : Report → Bool → Option Row
row_of r finished = if finished then r.finished else r.row

-- its name; nothing where there is none
abbrev pub row_text : Option Row → List ℕ
row_text None = []
row_text (Some row) = name_of row

-- C's text begins with the name, where it fits with a zero behind it
abbrev pub Named : Option Row → X86emuNameText → Type 0
Named row n = length (row_text row) < 16 → take (length (row_text row)) n.text ≡ row_text row
