use Rattle.std.proofs.Common.{◌≡◌, ℕ, zero, suc, Bool, true, false, List, [], ◌∷◌, get_or, map, ◌<◌, ◌≤◌, ◌+◌, ◌-◌, refl, arith, sym, ◌∙◌, ap, ◌⊎◌, inl, inr, cond, subst, Some, ◌&&◌, ◌||◌, ◌/◌}
use Rattle.std.specs.Prelude.{nat_lt, not, ◌==◌, if◌then◌else◌}
use Rattle.std.proofs.lemmas.Bool.Decides.{nat_tests}
use Rattle.std.proofs.lemmas.Bool.{ltb-true, lt-ltb, le-ltb, cases_lt, and_parts}
use Rattle.std.specs.List.{range_with_len, list_all, find}
use Rattle.xe_opmap.specs.declared.opcodes.TheConstants.{ONE_BYTE, TWO_BYTE}
use Rattle.xe_opmap.specs.declared.groups.TheConstants.{GROUPS}
use Rattle.xe_opmap.specs.declared.form.MapConditions.{MapConditions}
use Rattle.xe_opmap.specs.declared.form.OpcodeCell.{OpcodeCell}
use Rattle.xe_opmap.specs.declared.form.OpcodeCell.TheVariants.{Outside, Invalid, Form}
use Rattle.xe_opmap.specs.declared.form.MapEntry.{MapEntry}
use Rattle.xe_opmap.specs.declared.form.MapEntry.TheVariants.{Alone, Group, ByCode, ByF3, ByRexB}
use Rattle.xe_opmap.specs.Table.{Line, one_byte_lines, two_byte_lines, lines_of, cell_in, has_group, needs_reg, cell_at, cell_of, has_digit, holds, IsOpcode}
use Rattle.xe_opmap.specs.Valid.{is_address, is_offset, need_of, serves, IsCellOf}
use Rattle.xe_opmap.specs.Lookup.{in_map, entry_of}
use Rattle.xe_opmap.specs.Encoding.{group_cell}
use Rattle.xe_opmap.specs.declared.form.OperandKind.{OperandKind}
use Rattle.xe_opmap.specs.declared.form.OperandKind.TheVariants.{Nothing, Any, Memory, MemoryOnly, FromSegment, ToSegment, Control}

-- two functions that agree on a range
agree_at : {B : Type 0} (f g : ℕ → B) (n a i : ℕ) → map f (range_with_len a n) ≡ map g (range_with_len a n) → i < n → f (a + i) ≡ g (a + i)
agree_at f g zero a i same within = absurd (omega arith)
agree_at f g (suc n) a zero same within =
    let e : f a ≡ g a = cc in
    let z : a + 0 ≡ a = omega arith in
    ap f z ∙ e ∙ ap g (sym z)
agree_at f g (suc n) a (suc i) same within =
    let rest : map f (range_with_len (a + 1) n) ≡ map g (range_with_len (a + 1) n) = cc in
    let z : a + suc i ≡ a + 1 + i = omega arith in
    ap f z ∙ agree_at f g n (a + 1) i rest (omega arith) ∙ ap g (sym z)

abbrev pub is_group_entry : MapEntry → Bool
is_group_entry (Alone c) = false
is_group_entry (Group g) = true
is_group_entry (ByCode a b) = false
is_group_entry (ByF3 a b) = false
is_group_entry (ByRexB a b c) = false

abbrev pub entry_cell : MapConditions → ℕ → MapEntry → OpcodeCell
entry_cell s reg (Alone c) = c
entry_cell s reg (Group g) = get_or (get_or GROUPS g []) reg Outside
entry_cell s reg (ByCode legacy long) = if s.in_64_bit then long else legacy
entry_cell s reg (ByF3 plain rep) = if s.after_f3 then rep else plain
entry_cell s reg (ByRexB plain rep rex_b) = if s.rex_b then rex_b else (if s.after_f3 then rep else plain)

abbrev group_fits : MapEntry → Bool
group_fits (Alone c) = true
group_fits (Group g) = nat_lt g 16
group_fits (ByCode a b) = true
group_fits (ByF3 a b) = true
group_fits (ByRexB a b c) = true

abbrev conditions : Bool → Bool → Bool → MapConditions
conditions long rep rex_b = record { in_64_bit = long; after_f3 = rep; rex_b = rex_b }

abbrev all_conditions : List MapConditions
all_conditions = conditions false false false ∷ conditions false false true ∷ conditions false true false ∷ conditions false true true ∷ conditions true false false ∷ conditions true false true ∷ conditions true true false ∷ conditions true true true ∷ []

abbrev regs : List ℕ
regs = range_with_len 0 8

-- all that an entry of the code's tables says, and all that the lines of an opcode say
abbrev entry_cells : MapEntry → List (List OpcodeCell)
entry_cells e = map (λ s. map (λ reg. entry_cell s reg e) regs) all_conditions

abbrev line_cells : List Line → List (List OpcodeCell)
line_cells ls = map (λ s. map (λ reg. cell_in s reg ls) regs) all_conditions

one_table : map (λ op. entry_cells (entry_of op)) (range_with_len 0 256) ≡ map (λ op. line_cells (lines_of op)) (range_with_len 0 256)
unfolding entry_of lines_of one_byte_lines two_byte_lines
one_table = refl

two_table : map (λ op. entry_cells (entry_of op)) (range_with_len 0x0F00 256) ≡ map (λ op. line_cells (lines_of op)) (range_with_len 0x0F00 256)
unfolding entry_of lines_of one_byte_lines two_byte_lines
two_table = refl

one_groups : map (λ op. is_group_entry (entry_of op)) (range_with_len 0 256) ≡ map (λ op. has_group (lines_of op)) (range_with_len 0 256)
unfolding entry_of lines_of one_byte_lines two_byte_lines
one_groups = refl

two_groups : map (λ op. is_group_entry (entry_of op)) (range_with_len 0x0F00 256) ≡ map (λ op. has_group (lines_of op)) (range_with_len 0x0F00 256)
unfolding entry_of lines_of one_byte_lines two_byte_lines
two_groups = refl

one_fit : map (λ op. group_fits (entry_of op)) (range_with_len 0 256) ≡ map (λ _. true) (range_with_len 0 256)
unfolding entry_of
one_fit = refl

two_fit : map (λ op. group_fits (entry_of op)) (range_with_len 0x0F00 256) ≡ map (λ _. true) (range_with_len 0x0F00 256)
unfolding entry_of
two_fit = refl

opcode_cases : (op : ℕ) → IsOpcode op → (op < 256) ⊎ ((0x0F00 ≤ op) × (op < 0x1000))
opcode_cases op is = elim (cases_lt op 256) [
  | inl low ↦ inl low
  | inr high ↦ inr (grind (arith, nat_tests), grind (arith, nat_tests))
]

pub low_entry : (op : ℕ) → op < 256 → in_map ONE_BYTE op ≡ entry_of op
unfolding entry_of
low_entry op low = rw (lt-ltb op 256 low) refl

pub high_entry : (op : ℕ) → 256 ≤ op → in_map TWO_BYTE (op - 0x0F00) ≡ entry_of op
unfolding entry_of
high_entry op high = rw (le-ltb op 256 high) refl

pub by_true : {A : Type 0} (b : Bool) (x y : A) → b ≡ true → cond b x y ≡ x
by_true b x y e = rw e refl

pub by_false : {A : Type 0} (b : Bool) (x y : A) → b ≡ false → cond b x y ≡ y
by_false b x y e = rw e refl

-- two rules that agree on the opcodes of both maps
on_opcodes : {B : Type 0} (f g : ℕ → B) → map f (range_with_len 0 256) ≡ map g (range_with_len 0 256) → map f (range_with_len 0x0F00 256) ≡ map g (range_with_len 0x0F00 256) → (op : ℕ) → IsOpcode op → f op ≡ g op
on_opcodes f g one two op is = elim (opcode_cases op is) [
  | inl low ↦
      let z : 0 + op ≡ op = omega arith in
      ap f (sym z) ∙ agree_at f g 256 0 op one low ∙ ap g z
  | inr high ↦
      let z : 0x0F00 + (op - 0x0F00) ≡ op = omega (arith, high.0) in
      ap f (sym z) ∙ agree_at f g 256 0x0F00 (op - 0x0F00) two (omega (arith, high.0, high.1)) ∙ ap g z
]

pub group_is : (op : ℕ) → IsOpcode op → is_group_entry (entry_of op) ≡ needs_reg op
unfolding needs_reg
group_is op is = on_opcodes (λ o. is_group_entry (entry_of o)) (λ o. has_group (lines_of o)) one_groups two_groups op is

pub group_below : (op group : ℕ) → IsOpcode op → entry_of op ≡ Group group → group < 16
group_below op group is e = ltb-true group 16 (sym (ap group_fits e) ∙ on_opcodes (λ o. group_fits (entry_of o)) (λ _. true) one_fit two_fit op is)

cells_at : (s : MapConditions) (e : MapEntry) (ls : List Line) (reg : ℕ) → reg < 8 → map (λ r. entry_cell s r e) regs ≡ map (λ r. cell_in s r ls) regs → entry_cell s reg e ≡ cell_in s reg ls
cells_at s e ls reg below same =
    let z : 0 + reg ≡ reg = omega arith in
    ap (λ (r : ℕ). entry_cell s r e) (sym z) ∙ agree_at (λ r. entry_cell s r e) (λ r. cell_in s r ls) 8 0 reg same below ∙ ap (λ (r : ℕ). cell_in s r ls) z

at_setting : (long rep rex_b : Bool) (e : MapEntry) (ls : List Line) → entry_cells e ≡ line_cells ls → map (λ r. entry_cell (conditions long rep rex_b) r e) regs ≡ map (λ r. cell_in (conditions long rep rex_b) r ls) regs
at_setting false false false e ls same = ap (λ (t : List (List OpcodeCell)). get_or t 0 []) same
at_setting false false true e ls same = ap (λ (t : List (List OpcodeCell)). get_or t 1 []) same
at_setting false true false e ls same = ap (λ (t : List (List OpcodeCell)). get_or t 2 []) same
at_setting false true true e ls same = ap (λ (t : List (List OpcodeCell)). get_or t 3 []) same
at_setting true false false e ls same = ap (λ (t : List (List OpcodeCell)). get_or t 4 []) same
at_setting true false true e ls same = ap (λ (t : List (List OpcodeCell)). get_or t 5 []) same
at_setting true true false e ls same = ap (λ (t : List (List OpcodeCell)). get_or t 6 []) same
at_setting true true true e ls same = ap (λ (t : List (List OpcodeCell)). get_or t 7 []) same

pub cell_is : (s : MapConditions) (op reg : ℕ) → IsOpcode op → reg < 8 → entry_cell s reg (entry_of op) ≡ cell_at s op reg
unfolding cell_at
cell_is s op reg is below =
    let same : entry_cells (entry_of op) ≡ line_cells (lines_of op) = on_opcodes (λ o. entry_cells (entry_of o)) (λ o. line_cells (lines_of o)) one_table two_table op is in
    cells_at s (entry_of op) (lines_of op) reg below (at_setting s.in_64_bit s.after_f3 s.rex_b (entry_of op) (lines_of op) same)

pub rex_first : (s : MapConditions) (plain rep rex_b : OpcodeCell) (reg : ℕ) → s.rex_b ≡ true → entry_cell s reg (ByRexB plain rep rex_b) ≡ rex_b
rex_first s plain rep rex_b reg e = rw e refl

pub rep_second : (s : MapConditions) (plain rep rex_b : OpcodeCell) (reg : ℕ) → s.rex_b ≡ false → s.after_f3 ≡ true → entry_cell s reg (ByRexB plain rep rex_b) ≡ rep
rep_second s plain rep rex_b reg e f = rw (e, f) refl

pub plain_last : (s : MapConditions) (plain rep rex_b : OpcodeCell) (reg : ℕ) → s.rex_b ≡ false → s.after_f3 ≡ false → entry_cell s reg (ByRexB plain rep rex_b) ≡ plain
plain_last s plain rep rex_b reg e f = rw (e, f) refl

-- ---- what forms have to do with their opcodes

abbrev same : Bool → Bool → Bool
same true b = b
same false b = not b

same_is : (a b : Bool) → same a b ≡ true → a ≡ b
same_is true true e = refl
same_is true false e = cc
same_is false true e = cc
same_is false false e = refl

abbrev cell_fits : ℕ → OpcodeCell → Bool
cell_fits op Outside = true
cell_fits op Invalid = true
cell_fits op (Form s) = same (is_address s.imm) (is_offset op) && serves (need_of s.row op) s.operand

fits_is : (op : ℕ) (c : OpcodeCell) → cell_fits op c ≡ true → IsCellOf op c
fits_is op Outside e = tt
fits_is op Invalid e = tt
fits_is op (Form s) e =
    let parts = and_parts (same (is_address s.imm) (is_offset op)) (serves (need_of s.row op) s.operand) e in
    record { address = same_is (is_address s.imm) (is_offset op) parts.0; serves_row = parts.1 }

abbrev all_fit : ℕ → List Line → Bool
all_fit op lines = list_all (λ l. cell_fits op l.cell) lines

one_fits : map (λ op. all_fit op (lines_of op)) (range_with_len 0 256) ≡ map (λ _. true) (range_with_len 0 256)
unfolding lines_of one_byte_lines two_byte_lines
one_fits = refl

two_fits : map (λ op. all_fit op (lines_of op)) (range_with_len 0x0F00 256) ≡ map (λ _. true) (range_with_len 0x0F00 256)
unfolding lines_of one_byte_lines two_byte_lines
two_fits = refl

lines_fit : (op : ℕ) → IsOpcode op → all_fit op (lines_of op) ≡ true
lines_fit op is = on_opcodes (λ o. all_fit o (lines_of o)) (λ _. true) one_fits two_fits op is

-- ---- each group goes on with some ModRM byte

-- a ModRM byte of a register with which a group has a row or is invalid
abbrev pub way : ℕ → ℕ
way op = if op == 0x0F01 then 0xE0 else (if op == 0x0FC7 then 0xC8 else 0xC0)

pub way_top : (op : ℕ) → way op / 64 ≡ 3
way_top op = by (op == 0x0F01) (op == 0x0FC7)
  where
    by : (a b : Bool) → (if a then 0xE0 else (if b then 0xC8 else 0xC0)) / 64 ≡ 3
    by true b = refl
    by false true = refl
    by false false = refl

abbrev pub takes_registers : OperandKind → Bool
takes_registers Nothing = true
takes_registers Any = true
takes_registers Memory = true
takes_registers MemoryOnly = false
takes_registers FromSegment = true
takes_registers ToSegment = true
takes_registers Control = true

abbrev pub is_live : OpcodeCell → Bool
is_live Outside = false
is_live Invalid = true
is_live (Form s) = takes_registers s.operand

abbrev live_group : MapConditions → ℕ → Bool
live_group s op = not (has_group (lines_of op)) || is_live (group_cell s op (way op))

one_live : (s : MapConditions) → map (λ op. live_group s op) (range_with_len 0 256) ≡ map (λ _. true) (range_with_len 0 256)
unfolding lines_of one_byte_lines two_byte_lines group_cell cell_at
one_live s = refl

two_live : (s : MapConditions) → map (λ op. live_group s op) (range_with_len 0x0F00 256) ≡ map (λ _. true) (range_with_len 0x0F00 256)
unfolding lines_of one_byte_lines two_byte_lines group_cell cell_at
two_live s = refl

all_live : (s : MapConditions) (op : ℕ) → IsOpcode op → live_group s op ≡ true
all_live s op is = on_opcodes (λ o. live_group s o) (λ _. true) (one_live s) (two_live s) op is

pub group_live : (s : MapConditions) (op : ℕ) → IsOpcode op → needs_reg op ≡ true → is_live (group_cell s op (way op)) ≡ true
unfolding needs_reg
group_live s op is group = go (has_group (lines_of op)) group (all_live s op is)
  where
    go : (b : Bool) → b ≡ true → (not b || is_live (group_cell s op (way op))) ≡ true → is_live (group_cell s op (way op)) ≡ true
    go true e live = live
    go false e live = cc

found_fits : (op : ℕ) (p : Line → Bool) (lines : List Line) → all_fit op lines ≡ true → IsCellOf op (cell_of (find p lines))
found_fits op p [] e = tt
found_fits op p (l ∷ lines) e =
    let parts = and_parts (cell_fits op l.cell) (all_fit op lines) e in
    elim (p l) as (λ b. IsCellOf op (cell_of (cond b (Some l) (find p lines)))) [
      | true ↦ fits_is op l.cell parts.0
      | false ↦ found_fits op p lines parts.1
    ]

pub shape_is : (s : MapConditions) (op reg : ℕ) (c : OpcodeCell) → IsOpcode op → c ≡ cell_at s op reg → IsCellOf op c
unfolding cell_at
shape_is s op reg c is e = subst (IsCellOf op) (sym e) (found_fits op (λ l. has_digit reg l.digits && holds s l.when) (lines_of op) (lines_fit op is))
