use Rattle.std.proofs.Common.{lit<, ◌≡◌, ℕ, Bool, true, false, List, [], ◌∷◌, ◌++◌, length, drop, ◌<◌, ◌≤◌, ◌+◌, ◌/◌, ◌%◌, ◌⊎◌, inl, inr, refl, arith, sym, ◌∙◌, ap, subst, cond, append_assoc, length-append, length-drop, take}
use Rattle.std.specs.Prelude.{◌==◌, ◌&&◌, pos}
use Rattle.std.specs.List.{list_all}
use Rattle.std.proofs.lemmas.Bool.{and_parts, cases_lt}
use Rattle.std.proofs.lemmas.Bool.Decides.{nat_tests}
use Rattle.std.proofs.lemmas.List.{append-nil, drop_at, take_all, take-append-drop}
use Rattle.std.proofs.lemmas.List.Elements.{All-nil, All-get_or, All-replicate, All-drop, All-take}
use Rattle.std.proofs.lemmas.List.Folds.{list_all-append}
use Rattle.xe_base.specs.declared.cpu.CodeSize.{CodeSize}
use Rattle.xe_base.specs.declared.cpu.CodeSize.TheVariants.{B16, B32, B64}
use Rattle.xe_modrm.specs.declared.part.Part.{Part}
use Rattle.xe_modrm.specs.declared.part.Part.TheVariants.{Got, More}
use Rattle.xe_modrm.specs.declared.part.Prefixes.{Prefixes}
use Rattle.xe_modrm.specs.declared.part.ModRm.{ModRm}
use Rattle.xe_modrm.specs.Reader.{AreBytes, Decides, ◌>>=◌, given, one_byte, after_bytes, continued}
use Rattle.xe_modrm.specs.Prefix.{is_64_bit, is_prefix, prefixes_of}
use Rattle.xe_modrm.specs.Operand.{operand_of}
use Rattle.xe_modrm.proofs.ReaderLaws.{both_got, after_got, splits, ends, joined_bytes}
use Rattle.xe_modrm.proofs.OperandLaws.{given_empty, after_parts}
use Rattle.xe_opmap.specs.Table.{bad_in_64_bit, needs_reg, cell_at, lines_of, two_byte_lines, IsOpcode}
use Rattle.xe_opmap.specs.Immediate.{first_part, second_part}
use Rattle.xe_opmap.specs.Encoding.{conditions_of, opsize_of, adsize_of, has_modrm, modrm_part, operand_rest, ends_outside, is_wrong, group_cell, instruction, with_len, judged, immediates_part, after_operand, after_modrm, operand_row, row_part, group_rest, group_part, cell_part, after_opcode, after_first_byte}
use Rattle.xe_opmap.specs.Relations.{Reads, Encodes, IsOutside, HasParts, IsListed, CanBeListed, OutsideLeaves, LeavingIsOutside}
use Rattle.xe_opmap.specs.declared.form.OpcodeCell.{OpcodeCell}
use Rattle.xe_opmap.specs.declared.form.OpcodeCell.TheVariants as cell
use Rattle.xe_opmap.specs.declared.form.InsnForm.{InsnForm}
use Rattle.xe_opmap.specs.declared.form.OperandKind.{OperandKind}
use Rattle.xe_opmap.specs.declared.form.OperandKind.TheVariants.{Nothing, Any, Memory, MemoryOnly, FromSegment, ToSegment, Control}
use Rattle.std.specs.Prelude.{Option, Some, None}
use Rattle.xe_opmap.specs.declared.insn.Insn.{Insn}
use Rattle.xe_opmap.specs.declared.insn.Verdict.{Verdict}
use Rattle.xe_opmap.specs.declared.insn.Verdict.TheVariants.{Valid, Invalid, Outside}
use Rattle.xe_opmap.specs.declared.insn.Decoded.{Decoded}
use Rattle.xe_opmap.specs.declared.insn.Decoded.TheVariants as decoded
use Rattle.xe_opmap.proofs.TableLaws.{way, way_top, takes_registers, is_live, group_live}
use Rattle.xe_modrm.proofs.RegisterLaws.{register_rest}
use Rattle.xe_opmap.proofs.OperandLaws.{memory_rest, one_first}
use Rattle.xe_opmap.proofs.DecodeLaws.{immediates_reader, rest_reader}
use Rattle.xe_opmap.proofs.PartsLaws.{parts_from_reads, reads_from_parts}
use Rattle.xe_opmap.proofs.RelationLaws.{apart, cover}

-- Where the table ends: before the last byte of an outside list some list goes on, and after it none.

-- an instruction, or invalid
abbrev is_told : Verdict → Bool
is_told (Valid insn) = true
is_told Invalid = true
is_told Outside = false

-- some bytes let a part of the grammar tell
abbrev Tells : (List ℕ → Part Verdict) → Type 0
Tells f = (ys : List ℕ) × (v : Verdict) × AreBytes ys × Decides f ys v × (is_told v ≡ true)

-- and it wants at least one byte for it
abbrev TellsMore : (List ℕ → Part Verdict) → Type 0
TellsMore f = (y : ℕ) × (ys : List ℕ) × (v : Verdict) × AreBytes (y ∷ ys) × Decides f (y ∷ ys) v × (is_told v ≡ true)

with_byte : (y : ℕ) (ys : List ℕ) → y < 256 → AreBytes ys → AreBytes (y ∷ ys)
with_byte y ys h k = joined_bytes (y ∷ []) ys (All-replicate (λ b. b < 256) 1 y h) k

head_byte : (y : ℕ) (ys : List ℕ) → AreBytes (y ∷ ys) → y < 256
head_byte y ys a = All-get_or (λ b. b < 256) (y ∷ ys) 0 0 (omega arith) a

tail_bytes : (y : ℕ) (ys : List ℕ) → AreBytes (y ∷ ys) → AreBytes ys
tail_bytes y ys a = All-drop (λ b. b < 256) 1 (y ∷ ys) a

judged_told : (b : Bool) (i : Insn) → is_told (cond b Invalid (Valid i)) ≡ true
judged_told true i = refl
judged_told false i = refl

given_is : {A : Type 0} (v w : A) (n : ℕ) → Got v 0 ≡ Got w n → v ≡ w
given_is v w n e = cc

given_length : {A : Type 0} (v w : A) (bs : List ℕ) → Got v 0 ≡ Got w (length bs) → bs ≡ []
given_length v w bs e = (given_empty v w bs e).1

-- one byte more in front
shifted : (v : Verdict) (y : ℕ) (ys : List ℕ) → after_bytes 1 (Got v (length ys)) ≡ Got v (length (y ∷ ys))
shifted v y ys = let sum : 1 + length ys ≡ length (y ∷ ys) = omega arith in ap (Got v) sum

more_none : (v : Verdict) (n : ℕ) → More ≡ Got v n → ⊥
more_none v n e = cc

module _ (size : CodeSize) (pre : Prefixes) (op : ℕ) where
  -- a row reads its ModRM byte first
  row_again : (s : InsnForm) (m : ℕ) (rest : List ℕ) → operand_row size pre op s (m ∷ rest) ≡ after_bytes 1 (after_modrm size pre op s m rest)
  unfolding operand_row modrm_part after_modrm
  row_again s m rest = one_first (operand_rest size pre s.operand) (after_operand size pre op s) (m ∷ rest)

  -- after the immediates an instruction is judged, and never outside
  immediates_tell : (s : InsnForm) (modrm : Option ModRm) (bs : List ℕ) (v : Verdict) (n : ℕ) → immediates_part size pre op s modrm bs ≡ Got v n → is_told v ≡ true
  unfolding immediates_part judged
  immediates_tell s modrm bs v n e =
      let a = both_got (first_part (opsize_of size pre s.size) (adsize_of size pre.adsize) s.imm bs) bs (λ imm. second_part s.imm >>= λ imm2. given (judged size pre op s modrm imm imm2)) v n e in
      let b = both_got (second_part s.imm (drop a.n bs)) (drop a.n bs) (λ imm2. given (judged size pre op s modrm a.first imm2)) v a.m a.then in
      let is : judged size pre op s modrm a.first b.first ≡ v = given_is (judged size pre op s modrm a.first b.first) v b.m b.then in
      ap is_told (sym is) ∙ judged_told (is_wrong pre s modrm) (instruction size pre op s modrm a.first b.first)

  immediates_end : (s : InsnForm) (modrm : Option ModRm) → Tells (immediates_part size pre op s modrm)
  immediates_end s modrm =
      let x = ends (immediates_part size pre op s modrm) (immediates_reader size pre op s modrm) in
      (x.0, x.1, x.2, x.3, immediates_tell s modrm x.0 x.1 (length x.0) x.3)

  -- after a ModRM byte that stands alone, and with which the row goes on, some immediates tell
  lone_ends : (s : InsnForm) (m : ℕ) (modrm : ModRm) → ((bs : List ℕ) → operand_rest size pre s.operand m bs ≡ Got modrm 0) → ends_outside s.operand modrm ≡ false → Tells (after_modrm size pre op s m)
  unfolding after_modrm after_operand
  lone_ends s m modrm lone goes_on =
      let x = immediates_end s (Some modrm) in
      let row : cond (ends_outside s.operand modrm) (given Outside) (immediates_part size pre op s (Some modrm)) x.0 ≡ Got x.1 (length x.0) = rw goes_on x.3 in
      let sum : 0 + length x.0 ≡ length x.0 = omega arith in
      (x.0, x.1, x.2, ap (λ p. continued p x.0 (after_operand size pre op s)) (lone x.0) ∙ ap (after_bytes 0) row ∙ ap (Got x.1) sum, x.4)

  register_lone : (k : OperandKind) (m : ℕ) → m / 64 ≡ 3 → (modrm : ModRm) × ((bs : List ℕ) → operand_rest size pre k m bs ≡ Got modrm 0)
  unfolding operand_rest
  register_lone Nothing m h = (operand_of size pre m 0 (pos 0), λ bs. register_rest size pre m bs h)
  register_lone Any m h = (operand_of size pre m 0 (pos 0), λ bs. register_rest size pre m bs h)
  register_lone Memory m h = (operand_of size pre m 0 (pos 0), λ bs. register_rest size pre m bs h)
  register_lone MemoryOnly m h = (operand_of size pre m 0 (pos 0), λ bs. register_rest size pre m bs h)
  register_lone FromSegment m h = (operand_of size pre m 0 (pos 0), λ bs. register_rest size pre m bs h)
  register_lone ToSegment m h = (operand_of size pre m 0 (pos 0), λ bs. register_rest size pre m bs h)
  register_lone Control m h = (operand_of size pre (192 + m % 64) 0 (pos 0), λ bs. refl)

  register_goes_on : (k : OperandKind) (modrm : ModRm) → takes_registers k ≡ true → ends_outside k modrm ≡ false
  register_goes_on Nothing modrm e = refl
  register_goes_on Any modrm e = refl
  register_goes_on Memory modrm e = refl
  register_goes_on MemoryOnly modrm e = cc
  register_goes_on FromSegment modrm e = refl
  register_goes_on ToSegment modrm e = refl
  register_goes_on Control modrm e = refl

  -- a group goes on
  group_tells : IsOpcode op → needs_reg op ≡ true → TellsMore (group_part size pre op)
  unfolding group_part group_rest
  group_tells is group = go (group_cell (conditions_of size pre) op (way op)) refl (group_live (conditions_of size pre) op is group)
    where
      below : way op < 256
      below = omega (arith, way_top op)

      go : (c : OpcodeCell) → group_cell (conditions_of size pre) op (way op) ≡ c → is_live c ≡ true → TellsMore (group_part size pre op)
      go cell.Outside place live = cc
      go cell.Invalid place live = (way op, [], Invalid, with_byte (way op) [] below (All-nil (λ b. b < 256)), ap (λ c. after_bytes 1 (group_rest size pre op c (way op) [])) place, refl)
      go (cell.Form s) place live =
          let lone = register_lone s.operand (way op) (way_top op) in
          let x = lone_ends s (way op) lone.0 lone.1 (register_goes_on s.operand lone.0 live) in
          (way op, x.0, x.1, with_byte (way op) x.0 below x.2, ap (λ c. after_bytes 1 (group_rest size pre op c (way op) x.0)) place ∙ ap (after_bytes 1) x.3 ∙ shifted x.1 (way op) x.0, x.4)

  -- and so does a row of memory alone
  memory_lone : (k : OperandKind) → takes_registers k ≡ false → (bs : List ℕ) → operand_rest size pre k 0 bs ≡ Got (operand_of size pre 0 0 (pos 0)) 0
  unfolding operand_rest
  memory_lone Nothing e bs = cc
  memory_lone Any e bs = cc
  memory_lone Memory e bs = cc
  memory_lone MemoryOnly e bs = memory_rest size pre bs
  memory_lone FromSegment e bs = cc
  memory_lone ToSegment e bs = cc
  memory_lone Control e bs = cc

  memory_goes_on : (k : OperandKind) → ends_outside k (operand_of size pre 0 0 (pos 0)) ≡ false
  unfolding operand_of
  memory_goes_on Nothing = refl
  memory_goes_on Any = refl
  memory_goes_on Memory = refl
  memory_goes_on MemoryOnly = refl
  memory_goes_on FromSegment = refl
  memory_goes_on ToSegment = refl
  memory_goes_on Control = refl

  memory_tells : (s : InsnForm) → takes_registers s.operand ≡ false → TellsMore (operand_row size pre op s)
  memory_tells s only =
      let x = lone_ends s 0 (operand_of size pre 0 0 (pos 0)) (memory_lone s.operand only) (memory_goes_on s.operand) in
      (0, x.0, x.1, with_byte 0 x.0 (lit< tt) x.2, row_again s 0 x.0 ∙ ap (after_bytes 1) x.3 ∙ shifted x.1 0 x.0, x.4)

  -- ---- where a row is outside, its ModRM byte is the last, and names a register where memory is wanted
  outside_register : (k : OperandKind) (modrm : ModRm) → ends_outside k modrm ≡ true → (takes_registers k ≡ false) × (modrm.md ≡ 3)
  outside_register Nothing modrm e = cc
  outside_register Any modrm e = cc
  outside_register Memory modrm e = cc
  outside_register MemoryOnly modrm e = (refl, grind (arith, nat_tests, e))
  outside_register FromSegment modrm e = cc
  outside_register ToSegment modrm e = cc
  outside_register Control modrm e = cc

  rest_empty : (k : OperandKind) (m : ℕ) (bs : List ℕ) (modrm : ModRm) → takes_registers k ≡ false → modrm.md ≡ 3 → Decides (operand_rest size pre k m) bs modrm → bs ≡ []
  unfolding operand_rest operand_of
  rest_empty Nothing m bs modrm only md e = cc
  rest_empty Any m bs modrm only md e = cc
  rest_empty Memory m bs modrm only md e = cc
  rest_empty FromSegment m bs modrm only md e = cc
  rest_empty ToSegment m bs modrm only md e = cc
  rest_empty Control m bs modrm only md e = cc
  rest_empty MemoryOnly m bs modrm only md e =
      let p = after_parts size pre m bs modrm e in
      let first : m ≡ p.modrm = first_same m p.modrm bs _ p.spelling in
      let top : p.modrm / 64 ≡ 3 = sym (ap (λ (v : ModRm). v.md) p.meaning) ∙ md in
      let lone = register_rest size pre m bs (ap (λ (k : ℕ). k / 64) first ∙ top) in
      given_length (operand_of size pre m 0 (pos 0)) modrm bs (sym lone ∙ e)
    where
      first_same : (x y : ℕ) (xs ys : List ℕ) → x ∷ xs ≡ y ∷ ys → x ≡ y
      first_same x y xs ys same = cc

  modrm_outside : (s : InsnForm) (m : ℕ) (bs : List ℕ) → Decides (after_modrm size pre op s m) bs Outside → (bs ≡ []) × (takes_registers s.operand ≡ false)
  unfolding after_modrm after_operand
  modrm_outside s m bs e =
      let a = splits (operand_rest size pre s.operand m) (after_operand size pre op s) (rest_reader size pre s.operand m) bs Outside e in
      go a.0 a.1 a.2 a.3 a.4 (ends_outside s.operand a.2) refl a.5
    where
      go : (xs ys : List ℕ) (modrm : ModRm) → bs ≡ xs ++ ys → Decides (operand_rest size pre s.operand m) xs modrm → (b : Bool) → ends_outside s.operand modrm ≡ b → Decides (cond b (given Outside) (immediates_part size pre op s (Some modrm))) ys Outside → (bs ≡ []) × (takes_registers s.operand ≡ false)
      go xs ys modrm whole first true ends e =
          let r = outside_register s.operand modrm ends in
          let none : xs ≡ [] = rest_empty s.operand m xs modrm r.0 r.1 first in
          let end : ys ≡ [] = given_length Outside Outside ys e in
          (whole ∙ ap (λ t. t ++ ys) none ∙ end, r.0)
      go xs ys modrm whole first false ends e = absurd (let told : false ≡ true = immediates_tell s (Some modrm) ys Outside (length ys) e in cc)

  row_outside : (s : InsnForm) (bs : List ℕ) → Decides (operand_row size pre op s) bs Outside → (m : ℕ) × (bs ≡ m ∷ []) × (takes_registers s.operand ≡ false)
  unfolding operand_row modrm_part
  row_outside s [] e = absurd (more_none Outside 0 e)
  row_outside s (m ∷ rest) e =
      let a = after_got 1 (length (m ∷ rest)) (after_modrm size pre op s m rest) Outside (sym (row_again s m rest) ∙ e) in
      let len : a.0 ≡ length rest = omega (arith, a.2) in
      let r = modrm_outside s m rest (a.1 ∙ ap (Got Outside) len) in
      (m, ap (λ t. m ∷ t) r.0, r.1)

  -- ---- what is outside after an opcode: nothing more, or one ModRM byte where another would have told
  abbrev Ends : (List ℕ → Part Verdict) → List ℕ → Type 0
  Ends f bs = (bs ≡ []) ⊎ ((m : ℕ) × (bs ≡ m ∷ []) × TellsMore f)

  group_outside : IsOpcode op → needs_reg op ≡ true → (bs : List ℕ) → Decides (group_part size pre op) bs Outside → Ends (group_part size pre op) bs
  unfolding group_part group_rest
  group_outside is group [] e = absurd (more_none Outside 0 e)
  group_outside is group (m ∷ rest) e = go (group_cell (conditions_of size pre) op m) refl
    where
      after : (c : OpcodeCell) → group_cell (conditions_of size pre) op m ≡ c → after_bytes 1 (group_rest size pre op c m rest) ≡ Got Outside (length (m ∷ rest))
      after c place = ap (λ c. after_bytes 1 (group_rest size pre op c m rest)) (sym place) ∙ e

      single : rest ≡ [] → Ends (group_part size pre op) (m ∷ rest)
      single none = inr (m, ap (λ t. m ∷ t) none, group_tells is group)

      go : (c : OpcodeCell) → group_cell (conditions_of size pre) op m ≡ c → Ends (group_part size pre op) (m ∷ rest)
      go cell.Outside place =
          let a = after_got 1 (length (m ∷ rest)) (Got Outside 0) Outside (after cell.Outside place) in
          let len : a.0 ≡ length rest = omega (arith, a.2) in
          single (given_length Outside Outside rest (a.1 ∙ ap (Got Outside) len))
      go cell.Invalid place = absurd (let same : Got Invalid 1 ≡ Got Outside (length (m ∷ rest)) = after cell.Invalid place in cc)
      go (cell.Form s) place =
          let a = after_got 1 (length (m ∷ rest)) (after_modrm size pre op s m rest) Outside (after (cell.Form s) place) in
          let len : a.0 ≡ length rest = omega (arith, a.2) in
          single (modrm_outside s m rest (a.1 ∙ ap (Got Outside) len)).0

  alone_outside : (c : OpcodeCell) (bs : List ℕ) → Decides (cell_part size pre op c) bs Outside → Ends (cell_part size pre op c) bs
  unfolding cell_part row_part
  alone_outside cell.Outside bs e = inl (given_length Outside Outside bs e)
  alone_outside cell.Invalid bs e = absurd (let same : Got Invalid 0 ≡ Got Outside (length bs) = e in cc)
  alone_outside (cell.Form s) bs e = go (has_modrm s.operand) e
    where
      go : (b : Bool) → Decides (cond b (operand_row size pre op s) (immediates_part size pre op s None)) bs Outside → Ends (cond b (operand_row size pre op s) (immediates_part size pre op s None)) bs
      go true e = let r = row_outside s bs e in inr (r.0, r.1, memory_tells s r.2)
      go false e = absurd (let told : false ≡ true = immediates_tell s None bs Outside (length bs) e in cc)

  opcode_outside : IsOpcode op → (bs : List ℕ) → Decides (after_opcode size pre op) bs Outside → Ends (after_opcode size pre op) bs
  unfolding after_opcode
  opcode_outside is bs e = go (is_64_bit size && bad_in_64_bit op) e
    where
      inner : (b : Bool) → needs_reg op ≡ b → Decides (cond b (group_part size pre op) (cell_part size pre op (cell_at (conditions_of size pre) op 0))) bs Outside → Ends (cond b (group_part size pre op) (cell_part size pre op (cell_at (conditions_of size pre) op 0))) bs
      inner true group e = group_outside is group bs e
      inner false group e = alone_outside (cell_at (conditions_of size pre) op 0) bs e

      go : (b : Bool) → Decides (cond b (given Invalid) (cond (needs_reg op) (group_part size pre op) (cell_part size pre op (cell_at (conditions_of size pre) op 0)))) bs Outside → Ends (cond b (given Invalid) (cond (needs_reg op) (group_part size pre op) (cell_part size pre op (cell_at (conditions_of size pre) op 0)))) bs
      go true e = absurd (let same : Got Invalid 0 ≡ Got Outside (length bs) = e in cc)
      go false e = inner (needs_reg op) refl e

low_opcode : (b : ℕ) → b < 256 → IsOpcode b
low_opcode b h = grind (arith, nat_tests)

high_opcode : (c : ℕ) → c < 256 → IsOpcode (0x0F00 + c)
high_opcode c h = grind (arith, nat_tests)

-- 0F 0B is invalid everywhere
two_invalid : (size : CodeSize) (pre : Prefixes) → after_opcode size pre 0x0F0B [] ≡ Got Invalid 0
unfolding after_opcode cell_part cell_at needs_reg lines_of two_byte_lines
two_invalid B16 pre = refl
two_invalid B32 pre = refl
two_invalid B64 pre = refl

first_invalid : (size : CodeSize) (pre : Prefixes) → after_first_byte size pre 0x0F (0x0B ∷ []) ≡ Got Invalid 1
unfolding after_first_byte
first_invalid size pre = ap (after_bytes 1) (two_invalid size pre)

-- no bytes are left of a front of one byte that something follows
none_before : (zs back : List ℕ) (m : ℕ) → zs ++ back ≡ m ∷ [] → 0 < length back → zs ≡ []
none_before [] back m e h = refl
none_before (z ∷ zs) back m e h =
    let rest : zs ++ back ≡ [] = cons_tail z m (zs ++ back) [] e in
    absurd (omega (arith, length-append zs back, ap length rest))
  where
    cons_tail : (x y : ℕ) (xs ys : List ℕ) → x ∷ xs ≡ y ∷ ys → xs ≡ ys
    cons_tail x y xs ys same = cc

-- what follows a front of the bytes after an opcode
opcode_before : (size : CodeSize) (pre : Prefixes) (op : ℕ) → IsOpcode op → (zs back : List ℕ) → Decides (after_opcode size pre op) (zs ++ back) Outside → 0 < length back → (zs ≡ []) × TellsMore (after_opcode size pre op)
opcode_before size pre op is zs back e h = elim (opcode_outside size pre op is (zs ++ back) e) [
  | inl none ↦ absurd (omega (arith, length-append zs back, ap length none))
  | inr x ↦ (none_before zs back x.0 x.1 h, x.2)
]

-- a longer list tells
abbrev LongerTells : (List ℕ → Part Verdict) → List ℕ → Type 0
LongerTells f zs = (y : ℕ) × (ys : List ℕ) × (v : Verdict) × AreBytes (y ∷ ys) × Decides f (zs ++ (y ∷ ys)) v × (is_told v ≡ true)

first_before : (size : CodeSize) (pre : Prefixes) (b : ℕ) → b < 256 → (zs back : List ℕ) → AreBytes (zs ++ back) → Decides (after_first_byte size pre b) (zs ++ back) Outside → 0 < length back → LongerTells (after_first_byte size pre b) zs
unfolding after_first_byte
first_before size pre b low zs back bytes e h = go (b == 0x0F) zs bytes e
  where
    go : (t : Bool) → (zs : List ℕ) → AreBytes (zs ++ back) → Decides (cond t (one_byte >>= λ c. after_opcode size pre (0x0F00 + c)) (after_opcode size pre b)) (zs ++ back) Outside → LongerTells (cond t (one_byte >>= λ c. after_opcode size pre (0x0F00 + c)) (after_opcode size pre b)) zs
    go true [] bytes e = (0x0B, [], Invalid, with_byte 0x0B [] (lit< tt) (All-nil (λ b. b < 256)), ap (after_bytes 1) (two_invalid size pre), refl)
    go true (c ∷ zs) bytes e =
        let a = after_got 1 (length (c ∷ (zs ++ back))) (after_opcode size pre (0x0F00 + c) (zs ++ back)) Outside e in
        let len : a.0 ≡ length (zs ++ back) = omega (arith, a.2) in
        let x = opcode_before size pre (0x0F00 + c) (high_opcode c (head_byte c (zs ++ back) bytes)) zs back (a.1 ∙ ap (Got Outside) len) h in
        let y = x.1 in
        (y.0, y.1, y.2, y.3, ap (λ t. after_bytes 1 (after_opcode size pre (0x0F00 + c) (t ++ (y.0 ∷ y.1)))) x.0 ∙ ap (after_bytes 1) y.4 ∙ shifted y.2 c (y.0 ∷ y.1) ∙ ap (λ t. Got y.2 (length (c ∷ (t ++ (y.0 ∷ y.1))))) (sym x.0), y.5)
    go false zs bytes e =
        let x = opcode_before size pre b (low_opcode b low) zs back e h in
        let y = x.1 in
        (y.0, y.1, y.2, y.3, subst (λ t. Decides (after_opcode size pre b) (t ++ (y.0 ∷ y.1)) y.2) (sym x.0) y.4, y.5)

-- what tells is in the table
listed : (size : CodeSize) (bytes : List ℕ) (v : Verdict) → Reads size bytes v → is_told v ≡ true → IsListed size bytes
listed size bytes (Valid insn) reads told = inl (with_len insn (length bytes), record { parts = insn; reads = reads; whole = refl })
listed size bytes Invalid reads told = inr reads
listed size bytes Outside reads told = cc

no_prefix_byte : (size : CodeSize) → is_prefix size 0x0F ≡ false
no_prefix_byte B16 = refl
no_prefix_byte B32 = refl
no_prefix_byte B64 = refl

-- prefixes alone go on
prefixes_before : (size : CodeSize) (front : List ℕ) → list_all (is_prefix size) front ≡ true → CanBeListed size front
prefixes_before size front all = (
  0x0F ∷ (0x0B ∷ []),
  lit< tt,
  with_byte 0x0F (0x0B ∷ []) (lit< tt) (with_byte 0x0B [] (lit< tt) (All-nil (λ b. b < 256))),
  inr (reads_from_parts size (front ++ (0x0F ∷ (0x0B ∷ []))) Invalid (record { prefix = front; first = 0x0F; rest = 0x0B ∷ []; spelling = refl; all = all; ends = no_prefix_byte size; goes_on = first_invalid size (prefixes_of size front) })),
)

-- two cuts of one list
record Cut (xs ys front back : List ℕ) : Type 0 where
  more : List ℕ
  is : (xs ≡ front ++ more) ⊎ ((front ≡ xs ++ more) × (ys ≡ more ++ back))

cut_of : (xs ys front back : List ℕ) → xs ++ ys ≡ front ++ back → Cut xs ys front back
cut_of [] ys front back e = record { more = front; is = inr (refl, e) }
cut_of (x ∷ xs) ys [] back e = record { more = x ∷ xs; is = inl refl }
cut_of (x ∷ xs) ys (f ∷ front) back e =
    let c = cut_of xs ys front back (cons_tail x f (xs ++ ys) (front ++ back) e) in
    let same : x ≡ f = cons_head x f (xs ++ ys) (front ++ back) e in
    record {
      more = c.more;
      is = elim c.is [
        | inl h ↦ inl (ap (λ (k : ℕ). k ∷ xs) same ∙ ap (λ t. f ∷ t) h)
        | inr h ↦ inr (ap (λ (k : ℕ). k ∷ front) (sym same) ∙ ap (λ t. x ∷ t) h.0, h.1)
      ];
    }
  where
    cons_head : (x y : ℕ) (xs ys : List ℕ) → x ∷ xs ≡ y ∷ ys → x ≡ y
    cons_head x y xs ys same = cc

    cons_tail : (x y : ℕ) (xs ys : List ℕ) → x ∷ xs ≡ y ∷ ys → xs ≡ ys
    cons_tail x y xs ys same = cc

module _ (size : CodeSize) (bytes : List ℕ) (are : AreBytes bytes) (outside : IsOutside size bytes) where
  -- the parts of an outside list
  abbrev parts : HasParts size bytes Outside
  parts = parts_from_reads size bytes Outside outside

  after_prefixes : (zs back : List ℕ) → parts.first ∷ parts.rest ≡ zs ++ back → 0 < length back → CanBeListed size (parts.prefix ++ zs)
  after_prefixes [] back e h = subst (CanBeListed size) (sym (append-nil parts.prefix)) (prefixes_before size parts.prefix parts.all)
  after_prefixes (z ∷ zs) back e h =
      let same : parts.first ≡ z = cons_head parts.first z parts.rest (zs ++ back) e in
      let rest : parts.rest ≡ zs ++ back = cons_tail parts.first z parts.rest (zs ++ back) e in
      let tail : AreBytes (parts.first ∷ parts.rest) = behind parts.prefix (parts.first ∷ parts.rest) (subst AreBytes parts.spelling are) in
      let goes : Decides (after_first_byte size (prefixes_of size parts.prefix) parts.first) (zs ++ back) Outside = subst (λ t. Decides (after_first_byte size (prefixes_of size parts.prefix) parts.first) t Outside) rest parts.goes_on in
      let x = first_before size (prefixes_of size parts.prefix) parts.first (head_byte parts.first parts.rest tail) zs back (subst AreBytes rest (tail_bytes parts.first parts.rest tail)) goes h in
      let told = listed size (parts.prefix ++ parts.first ∷ (zs ++ (x.0 ∷ x.1))) x.2 (reads_from_parts size (parts.prefix ++ parts.first ∷ (zs ++ (x.0 ∷ x.1))) x.2 (record { prefix = parts.prefix; first = parts.first; rest = zs ++ (x.0 ∷ x.1); spelling = refl; all = parts.all; ends = parts.ends; goes_on = x.4 })) x.5 in
      let whole : parts.prefix ++ parts.first ∷ (zs ++ (x.0 ∷ x.1)) ≡ (parts.prefix ++ z ∷ zs) ++ (x.0 ∷ x.1) = ap (λ (k : ℕ). parts.prefix ++ k ∷ (zs ++ (x.0 ∷ x.1))) same ∙ sym (append_assoc parts.prefix (z ∷ zs) (x.0 ∷ x.1)) in
      (x.0 ∷ x.1, omega arith, x.3, subst (IsListed size) whole told)
    where
      cons_head : (x y : ℕ) (xs ys : List ℕ) → x ∷ xs ≡ y ∷ ys → x ≡ y
      cons_head x y xs ys same = cc

      cons_tail : (x y : ℕ) (xs ys : List ℕ) → x ∷ xs ≡ y ∷ ys → xs ≡ ys
      cons_tail x y xs ys same = cc

      behind : (xs ys : List ℕ) → AreBytes (xs ++ ys) → AreBytes ys
      behind xs ys all = subst AreBytes (drop_at xs ys (length xs) refl) (All-drop (λ b. b < 256) (length xs) (xs ++ ys) all)

  before : (front back : List ℕ) → bytes ≡ front ++ back → 0 < length back → CanBeListed size front
  before front back e h =
      let c = cut_of parts.prefix (parts.first ∷ parts.rest) front back (sym parts.spelling ∙ e) in
      elim c.is [
        | inl x ↦
            let all = and_parts (list_all (is_prefix size) front) (list_all (is_prefix size) c.more) (sym (list_all-append (is_prefix size) front c.more) ∙ ap (list_all (is_prefix size)) (sym x) ∙ parts.all) in
            prefixes_before size front all.0
        | inr x ↦ subst (CanBeListed size) (sym x.0) (after_prefixes c.more back x.1 h)
      ]

  never : (more : List ℕ) → AreBytes more → IsListed size (bytes ++ more) → ⊥
  never more are (inl x) = let r = apart size bytes more decoded.Outside (decoded.Insn x.0) outside x.1 in outside_insn x.0 r.1
    where
      outside_insn : (i : Insn) → decoded.Outside ≡ decoded.Insn i → ⊥
      outside_insn i e = cc
  never more are (inr x) = let r = apart size bytes more decoded.Outside (decoded.Invalid (length (bytes ++ more))) outside (x, refl) in outside_invalid (length (bytes ++ more)) r.1
    where
      outside_invalid : (n : ℕ) → decoded.Outside ≡ decoded.Invalid n → ⊥
      outside_invalid n e = cc

pub outside_leaves : OutsideLeaves
outside_leaves size bytes are outside = record { never = never size bytes are outside; before = before size bytes are outside }

-- a list that is in a relation is listed, or outside
either : (size : CodeSize) (bytes : List ℕ) (d : Decoded) → Encodes size bytes d → IsListed size bytes ⊎ IsOutside size bytes
either size bytes (decoded.Insn insn) is = inl (inl (insn, is))
either size bytes (decoded.Invalid n) is = inl (inr is.0)
either size bytes decoded.Outside is = inr is
either size bytes decoded.More is = absurd is

long : (more : List ℕ) → 0 < length more → more ≡ [] → ⊥
long more h none = omega (arith, ap length none)

-- a list that is listed goes on to none that is
listed_ends : (size : CodeSize) (bytes more : List ℕ) → 0 < length more → IsListed size bytes → IsListed size (bytes ++ more) → ⊥
listed_ends size bytes more h (inl x) (inl y) = long more h (apart size bytes more (decoded.Insn x.0) (decoded.Insn y.0) x.1 y.1).0
listed_ends size bytes more h (inl x) (inr y) = long more h (apart size bytes more (decoded.Insn x.0) (decoded.Invalid (length (bytes ++ more))) x.1 (y, refl)).0
listed_ends size bytes more h (inr x) (inl y) = long more h (apart size bytes more (decoded.Invalid (length bytes)) (decoded.Insn y.0) (x, refl) y.1).0
listed_ends size bytes more h (inr x) (inr y) = long more h (apart size bytes more (decoded.Invalid (length bytes)) (decoded.Invalid (length (bytes ++ more))) (x, refl) (y, refl)).0

pub leaving_is_outside : LeavingIsOutside
leaving_is_outside size bytes are leaves = elim (cover size bytes) [
  | inl x ↦ front x.0 x.2 (either size (take x.0 bytes) x.1 x.3)
  | inr x ↦ elim (either size (bytes ++ x.0) x.1 x.4) [
    | inl told ↦ absurd (leaves.never x.0 x.3 told)
    | inr out ↦
        let longer = outside_leaves size (bytes ++ x.0) (joined_bytes bytes x.0 are x.3) out in
        let way = longer.before bytes x.0 refl x.2 in
        absurd (leaves.never way.0 way.2 way.3)
  ]
]
  where
    front : (n : ℕ) → n ≤ length bytes → IsListed size (take n bytes) ⊎ IsOutside size (take n bytes) → IsOutside size bytes
    front n within is = elim (cases_lt n (length bytes)) [
      | inl shorter ↦
          let more : 0 < length (drop n bytes) = omega (arith, length-drop n bytes) in
          let way = leaves.before (take n bytes) (drop n bytes) (sym (take-append-drop n bytes)) more in
          absurd (elim is [
            | inl told ↦ listed_ends size (take n bytes) way.0 way.1 told way.3
            | inr out ↦ never size (take n bytes) (All-take (λ b. b < 256) n bytes are) out way.0 way.2 way.3
          ])
      | inr all ↦
          let whole : take n bytes ≡ bytes = take_all n bytes all in
          elim is [
            | inl told ↦ absurd (leaves.never [] (All-nil (λ b. b < 256)) (subst (IsListed size) (whole ∙ sym (append-nil bytes)) told))
            | inr out ↦ subst (IsOutside size) whole out
          ]
    ]
