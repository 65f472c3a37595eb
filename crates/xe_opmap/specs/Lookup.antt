use Rattle.std.specs.Prelude.{ℕ, List, [], ◌-◌, ◌/◌, ◌%◌, nat_lt, if◌then◌else◌}
use Rattle.std.proofs.Common.{get_or}
use Rattle.xe_opmap.specs.declared.opcodes.TheConstants.{ONE_BYTE, TWO_BYTE}
use Rattle.xe_opmap.specs.declared.form.MapEntry.{MapEntry}
use Rattle.xe_opmap.specs.declared.form.MapEntry.TheVariants.{Alone}
use Rattle.xe_opmap.specs.declared.form.OpcodeCell.TheVariants.{Outside}

-- a place of a map of 32 lines with 8 opcodes each
abbrev pub in_map : List (List MapEntry) → ℕ → MapEntry
in_map map op = get_or (get_or map (op / 8) []) (op % 8) (Alone Outside)

-- the place of an opcode in the code's tables
unfoldable pub entry_of : ℕ → MapEntry
entry_of op = if nat_lt op 256 then in_map ONE_BYTE op else in_map TWO_BYTE (op - 0x0F00)
