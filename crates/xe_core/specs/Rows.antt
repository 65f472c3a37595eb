use Rattle.std.specs.Prelude.{ℕ, ◌+◌, List, [], ◌∷◌, Bool, true, if◌then◌else◌}
use Rattle.xe_base.specs.Exceptions.{plain_exception, invalid_opcode}
use Rattle.xe_opmap.specs.declared.row.Row.{Row}
use Rattle.xe_move.specs.Rows as moves
use Rattle.xe_arith.specs.Rows as arith
use Rattle.xe_flow.specs.Rows as flow
use Rattle.xe_string.specs.Rows as string
use Rattle.xe_desc.specs.Rows as desc
use Rattle.xe_far.specs.Rows as far
use Rattle.xe_sys.specs.Rows as sys
use Rattle.xe_ctx.specs.Tree.{fault}
use Rattle.xe_core.specs.Step.{Table}

-- The instruction table: the rows of all crates. A crate of rows is a line in each of the first two definitions, and in the last one where its rows change the
-- registers calmly.

-- what an instruction asks for, by the crate that has its row
abbrev pub table : Table
table insn cpu =
    if moves.is_row insn.row then moves.row_of insn cpu else
    (if arith.is_row insn.row then arith.row_of insn cpu else
    (if flow.is_row insn.row then flow.row_of insn cpu else
    (if string.is_row insn.row then string.row_of insn cpu else
    (if desc.is_row insn.row then desc.row_of insn cpu else
    (if far.is_row insn.row then far.row_of insn cpu else
    (if sys.is_row insn.row then sys.row_of insn cpu else
    fault (plain_exception invalid_opcode)))))))

-- which crates have a row
abbrev pub owners : Row → List Bool
owners row =
    moves.is_row row
    ∷ arith.is_row row
    ∷ flow.is_row row
    ∷ string.is_row row
    ∷ desc.is_row row
    ∷ far.is_row row
    ∷ sys.is_row row
    ∷ []

-- how many of them are true
abbrev pub how_many : List Bool → ℕ
how_many [] = 0
how_many (b ∷ bs) = if b then 1 + how_many bs else how_many bs

-- the row is of a crate whose rows all change the registers calmly: the general ones, the instruction pointer, and flags that an instruction may change
abbrev pub is_calm : Row → Bool
is_calm row =
    if moves.is_row row then true else
    (if arith.is_row row then true else
    (if flow.is_row row then true else
    string.is_row row))
