use Rattle.std.proofs.Common.{◌≡◌, ℕ, Bool, true, false, List, [], ◌∷◌, ◌++◌, length, ◌+◌, refl, arith, sym, ◌∙◌, ap, subst, cond, Option, Some, None}
use Rattle.std.specs.Prelude.{◌==◌, ◌||◌, ◌&&◌, is_some}
use Rattle.std.proofs.lemmas.List.{append-nil}
use Rattle.xe_base.specs.declared.cpu.CodeSize.{CodeSize}
use Rattle.xe_modrm.specs.declared.part.Part.{Part}
use Rattle.xe_modrm.specs.declared.part.Part.TheVariants.{Got, More}
use Rattle.xe_modrm.specs.declared.part.Prefixes.{Prefixes}
use Rattle.xe_modrm.specs.declared.part.ModRm.{ModRm}
use Rattle.xe_modrm.specs.Reader.{Decides, ◌>>=◌, given, one_byte, after_bytes}
use Rattle.xe_modrm.specs.Prefix.{is_64_bit, prefixes_of}
use Rattle.xe_modrm.proofs.ReaderLaws.{splits, joins, after_got}
use Rattle.xe_modrm.proofs.OperandLaws.{given_empty}
use Rattle.xe_opmap.specs.Table.{bad_in_64_bit, needs_reg, cell_at}
use Rattle.xe_opmap.specs.Immediate.{first_part, second_part}
use Rattle.xe_opmap.specs.Encoding.{conditions_of, opsize_of, adsize_of, has_modrm, modrm_part, operand_rest, ends_outside, is_wrong, group_cell, instruction, with_len, judged, immediates_part, after_operand, after_modrm, operand_row, row_part, group_rest, group_part, cell_part, after_opcode, after_first_byte}
use Rattle.xe_opmap.specs.Parts.{IsOpcodeBytes, head_of, place_of, IsOperand, HasAllParts}
use Rattle.xe_opmap.specs.Relations.{Spells}
use Rattle.xe_opmap.specs.declared.form.OpcodeCell.{OpcodeCell}
use Rattle.xe_opmap.specs.declared.form.OpcodeCell.TheVariants as cell
use Rattle.xe_opmap.specs.declared.form.InsnForm.{InsnForm}
use Rattle.xe_opmap.specs.declared.insn.Insn.{Insn}
use Rattle.xe_opmap.specs.declared.insn.Verdict.{Verdict}
use Rattle.xe_opmap.specs.declared.insn.Verdict.TheVariants.{Valid, Invalid, Outside}
use Rattle.xe_opmap.proofs.OperandLaws.{one_first}
use Rattle.xe_opmap.proofs.DecodeLaws.{first_reader, number_reader, modrm_reader}
use Rattle.xe_opmap.proofs.PartsLaws.{parts_from_reads, reads_from_parts}

-- Whatever reads as an instruction consists of the parts of one.

-- what is judged valid isn't wrong
judged_valid : (b : Bool) (i insn : Insn) → cond b Invalid (Valid i) ≡ Valid insn → (b ≡ false) × (i ≡ insn)
judged_valid true i insn e = cc
judged_valid false i insn e = (refl, cc)

-- the two immediates
record Imms (size : CodeSize) (pre : Prefixes) (op : ℕ) (s : InsnForm) (modrm : Option ModRm) (bs : List ℕ) (insn : Insn) : Type 0 where
  first : List ℕ
  second : List ℕ
  imm : ℕ
  imm2 : ℕ
  spelling : bs ≡ first ++ second
  first_is : Decides (first_part (opsize_of size pre s.size) (adsize_of size pre.adsize) s.imm) first imm
  second_is : Decides (second_part s.imm) second imm2
  right : is_wrong pre s modrm ≡ false
  meaning : instruction size pre op s modrm imm imm2 ≡ insn

imms_of : (size : CodeSize) (pre : Prefixes) (op : ℕ) (s : InsnForm) (modrm : Option ModRm) (bs : List ℕ) (insn : Insn) → Decides (immediates_part size pre op s modrm) bs (Valid insn) → Imms size pre op s modrm bs insn
unfolding immediates_part judged
imms_of size pre op s modrm bs insn e =
    let a = splits (first_part (opsize_of size pre s.size) (adsize_of size pre.adsize) s.imm) (λ imm. second_part s.imm >>= λ imm2. given (judged size pre op s modrm imm imm2)) (first_reader (opsize_of size pre s.size) (adsize_of size pre.adsize) s.imm) bs (Valid insn) e in
    let b = splits (second_part s.imm) (λ imm2. given (judged size pre op s modrm a.2 imm2)) (number_reader _) a.1 (Valid insn) a.5 in
    let g = given_empty (judged size pre op s modrm a.2 b.2) (Valid insn) b.1 b.5 in
    let j = judged_valid (is_wrong pre s modrm) (instruction size pre op s modrm a.2 b.2) insn g.0 in
    record {
      first = a.0;
      second = b.0;
      imm = a.2;
      imm2 = b.2;
      spelling = a.3 ∙ ap (λ t. a.0 ++ t) (b.3 ∙ ap (λ t. b.0 ++ t) g.1 ∙ append-nil b.0);
      first_is = a.4;
      second_is = b.4;
      right = j.0;
      meaning = j.1;
    }

-- an operand and the immediates
record Row (size : CodeSize) (pre : Prefixes) (op : ℕ) (s : InsnForm) (bs : List ℕ) (insn : Insn) : Type 0 where
  operand : List ℕ
  rest : List ℕ
  modrm : Option ModRm
  there : is_some modrm ≡ true
  spelling : bs ≡ operand ++ rest
  operand_is : IsOperand size pre s.operand operand modrm
  imms : Imms size pre op s modrm rest insn

ends_valid : (b : Bool) (f : List ℕ → Part Verdict) (bs : List ℕ) (insn : Insn) → Decides (cond b (given Outside) f) bs (Valid insn) → (b ≡ false) × Decides f bs (Valid insn)
ends_valid true f bs insn e = cc
ends_valid false f bs insn e = (refl, e)

row_of : (size : CodeSize) (pre : Prefixes) (op : ℕ) (s : InsnForm) (bs : List ℕ) (insn : Insn) → Decides (operand_row size pre op s) bs (Valid insn) → Row size pre op s bs insn
unfolding operand_row after_operand
row_of size pre op s bs insn e =
    let a = splits (modrm_part size pre s.operand) (after_operand size pre op s) (modrm_reader size pre s.operand) bs (Valid insn) e in
    let c = ends_valid (ends_outside s.operand a.2) (immediates_part size pre op s (Some a.2)) a.1 insn a.5 in
    record {
      operand = a.0;
      rest = a.1;
      modrm = Some a.2;
      there = refl;
      spelling = a.3;
      operand_is = (a.4, c.0);
      imms = imms_of size pre op s (Some a.2) a.1 insn c.1;
    }

-- what follows an opcode
record After (size : CodeSize) (pre : Prefixes) (op : ℕ) (bs : List ℕ) (insn : Insn) : Type 0 where
  allowed : (is_64_bit size && bad_in_64_bit op) ≡ false
  form : InsnForm
  operand : List ℕ
  rest : List ℕ
  modrm : Option ModRm
  place : place_of size pre op operand ≡ cell.Form form
  there : is_some modrm ≡ (needs_reg op || has_modrm form.operand)
  spelling : bs ≡ operand ++ rest
  operand_is : IsOperand size pre form.operand operand modrm
  imms : Imms size pre op form modrm rest insn

allowed_valid : (b : Bool) (f : List ℕ → Part Verdict) (bs : List ℕ) (insn : Insn) → Decides (cond b (given Invalid) f) bs (Valid insn) → (b ≡ false) × Decides f bs (Valid insn)
allowed_valid true f bs insn e = cc
allowed_valid false f bs insn e = (refl, e)

module _ (size : CodeSize) (pre : Prefixes) (op : ℕ) (insn : Insn) where
  cell_valid : (c : OpcodeCell) (bs : List ℕ) → Decides (cell_part size pre op c) bs (Valid insn) → (s : InsnForm) × (c ≡ cell.Form s) × Decides (row_part size pre op s) bs (Valid insn)
  unfolding cell_part
  cell_valid cell.Outside bs e = cc
  cell_valid cell.Invalid bs e = cc
  cell_valid (cell.Form s) bs e = (s, refl, e)

  group_valid : (c : OpcodeCell) (m k : ℕ) (rest : List ℕ) → after_bytes 1 (group_rest size pre op c m rest) ≡ Got (Valid insn) k → (s : InsnForm) × (c ≡ cell.Form s) × (after_bytes 1 (after_modrm size pre op s m rest) ≡ Got (Valid insn) k)
  unfolding group_rest
  group_valid cell.Outside m k rest e = cc
  group_valid cell.Invalid m k rest e = cc
  group_valid (cell.Form s) m k rest e = (s, refl, e)

  pub again : (s : InsnForm) (m : ℕ) (rest : List ℕ) → operand_row size pre op s (m ∷ rest) ≡ after_bytes 1 (after_modrm size pre op s m rest)
  unfolding operand_row modrm_part after_modrm
  again s m rest = one_first (operand_rest size pre s.operand) (after_operand size pre op s) (m ∷ rest)

  -- an operand isn't empty
  head_is : (s : InsnForm) (m : ℕ) (rest operand rest' : List ℕ) (modrm : Option ModRm) → is_some modrm ≡ true → IsOperand size pre s.operand operand modrm → m ∷ rest ≡ operand ++ rest' → head_of operand ≡ m
  unfolding modrm_part
  head_is s m rest operand rest' None some is e = cc
  head_is s m rest [] rest' (Some v) some is e = absurd (let none : More ≡ Got v 0 = is.0 in cc)
  head_is s m rest (x ∷ xs) rest' (Some v) some is e = cc

  of_group : (s : InsnForm) (m : ℕ) (rest : List ℕ) → (is_64_bit size && bad_in_64_bit op) ≡ false → needs_reg op ≡ true → group_cell (conditions_of size pre) op m ≡ cell.Form s → Decides (operand_row size pre op s) (m ∷ rest) (Valid insn) → After size pre op (m ∷ rest) insn
  of_group s m rest allowed group place e =
      let r = row_of size pre op s (m ∷ rest) insn e in
      let head = head_is s m rest r.operand r.rest r.modrm r.there r.operand_is r.spelling in
      record {
        allowed = allowed;
        form = s;
        operand = r.operand;
        rest = r.rest;
        modrm = r.modrm;
        place = rw group (ap (λ (h : ℕ). group_cell (conditions_of size pre) op h) head ∙ place);
        there = r.there ∙ rw group refl;
        spelling = r.spelling;
        operand_is = r.operand_is;
        imms = r.imms;
      }

  group_after : (bs : List ℕ) → (is_64_bit size && bad_in_64_bit op) ≡ false → needs_reg op ≡ true → Decides (group_part size pre op) bs (Valid insn) → After size pre op bs insn
  unfolding group_part
  group_after [] allowed group e = absurd (let none : More ≡ Got (Valid insn) 0 = e in cc)
  group_after (m ∷ rest) allowed group e =
      let g = group_valid (group_cell (conditions_of size pre) op m) m (length (m ∷ rest)) rest e in
      of_group g.0 m rest allowed group g.1 (again g.0 m rest ∙ g.2)

  alone_after : (s : InsnForm) (bs : List ℕ) → (is_64_bit size && bad_in_64_bit op) ≡ false → needs_reg op ≡ false → cell_at (conditions_of size pre) op 0 ≡ cell.Form s → Decides (row_part size pre op s) bs (Valid insn) → After size pre op bs insn
  unfolding row_part
  alone_after s bs allowed plain place e = go (has_modrm s.operand) refl e
    where
      go : (b : Bool) → has_modrm s.operand ≡ b → Decides (cond b (operand_row size pre op s) (immediates_part size pre op s None)) bs (Valid insn) → After size pre op bs insn
      go true is e =
          let r = row_of size pre op s bs insn e in
          record {
            allowed = allowed;
            form = s;
            operand = r.operand;
            rest = r.rest;
            modrm = r.modrm;
            place = rw plain place;
            there = r.there ∙ rw (plain, is) refl;
            spelling = r.spelling;
            operand_is = r.operand_is;
            imms = r.imms;
          }
      go false is e =
          record {
            allowed = allowed;
            form = s;
            operand = [];
            rest = bs;
            modrm = None;
            place = rw plain place;
            there = rw (plain, is) refl;
            spelling = refl;
            operand_is = refl;
            imms = imms_of size pre op s None bs insn e;
          }

  after_of : (bs : List ℕ) → Decides (after_opcode size pre op) bs (Valid insn) → After size pre op bs insn
  unfolding after_opcode
  after_of bs e =
      let a = allowed_valid (is_64_bit size && bad_in_64_bit op) (cond (needs_reg op) (group_part size pre op) (cell_part size pre op (cell_at (conditions_of size pre) op 0))) bs insn e in
      go (needs_reg op) refl a.0 a.1
    where
      go : (b : Bool) → needs_reg op ≡ b → (is_64_bit size && bad_in_64_bit op) ≡ false → Decides (cond b (group_part size pre op) (cell_part size pre op (cell_at (conditions_of size pre) op 0))) bs (Valid insn) → After size pre op bs insn
      go true is allowed e = group_after bs allowed is e
      go false is allowed e = let c = cell_valid (cell_at (conditions_of size pre) op 0) bs e in alone_after c.0 bs allowed is c.1 c.2

-- what follows the first byte of an opcode
record Opcode (size : CodeSize) (pre : Prefixes) (b : ℕ) (bs : List ℕ) (insn : Insn) : Type 0 where
  op : ℕ
  more : List ℕ
  op_is : IsOpcodeBytes op b more
  rest : List ℕ
  spelling : bs ≡ more ++ rest
  after : After size pre op rest insn

opcode_of : (size : CodeSize) (pre : Prefixes) (b : ℕ) (bs : List ℕ) (insn : Insn) → Decides (after_first_byte size pre b) bs (Valid insn) → Opcode size pre b bs insn
unfolding after_first_byte
opcode_of size pre b bs insn e = go (b == 0x0F) refl bs e
  where
    go : (t : Bool) → (b == 0x0F) ≡ t → (bs : List ℕ) → Decides (cond t (one_byte >>= λ c. after_opcode size pre (0x0F00 + c)) (after_opcode size pre b)) bs (Valid insn) → Opcode size pre b bs insn
    go true is [] e = absurd (let none : More ≡ Got (Valid insn) 0 = e in cc)
    go true is (c ∷ rest) e =
        let a = after_got 1 (length (c ∷ rest)) (after_opcode size pre (0x0F00 + c) rest) (Valid insn) e in
        let len : a.0 ≡ length rest = omega (arith, a.2) in
        record { op = 0x0F00 + c; more = c ∷ []; op_is = (is, refl); rest = rest; spelling = refl; after = after_of size pre (0x0F00 + c) insn rest (a.1 ∙ ap (Got (Valid insn)) len) }
    go false is bs e = record { op = b; more = []; op_is = (is, refl); rest = bs; spelling = refl; after = after_of size pre b insn bs e }

pub all_parts : (size : CodeSize) (bytes : List ℕ) (insn : Insn) → Spells size bytes insn → HasAllParts size bytes insn
all_parts size bytes insn s =
    let p = parts_from_reads size bytes (Valid s.parts) s.reads in
    let o = opcode_of size (prefixes_of size p.prefix) p.first p.rest s.parts p.goes_on in
    let a = o.after in
    let i = a.imms in
    record {
      prefix = p.prefix;
      opcode = p.first;
      opcode_rest = o.more;
      operand = a.operand;
      first = i.first;
      second = i.second;
      spelling = p.spelling ∙ ap (λ t. p.prefix ++ (p.first ∷ t)) (o.spelling ∙ ap (λ t. o.more ++ t) (a.spelling ∙ ap (λ t. a.operand ++ t) i.spelling));
      all = p.all;
      ends = p.ends;
      pre = prefixes_of size p.prefix;
      pre_is = refl;
      op = o.op;
      op_is = o.op_is;
      allowed = a.allowed;
      form = a.form;
      place = a.place;
      modrm = a.modrm;
      there = a.there;
      operand_is = a.operand_is;
      imm = i.imm;
      first_is = i.first_is;
      imm2 = i.imm2;
      second_is = i.second_is;
      right = i.right;
      meaning = s.whole ∙ ap (λ (j : Insn). with_len j (length bytes)) (sym i.meaning);
    }

-- ---- and the other way round

module _ (size : CodeSize) (pre : Prefixes) (op : ℕ) (s : InsnForm) (imm imm2 : ℕ) where
  imms_read : (modrm : Option ModRm) (first second : List ℕ) → Decides (first_part (opsize_of size pre s.size) (adsize_of size pre.adsize) s.imm) first imm → Decides (second_part s.imm) second imm2 → is_wrong pre s modrm ≡ false → Decides (immediates_part size pre op s modrm) (first ++ second) (Valid (instruction size pre op s modrm imm imm2))
  unfolding immediates_part judged
  imms_read modrm first second a b right =
      let is : judged size pre op s modrm imm imm2 ≡ Valid (instruction size pre op s modrm imm imm2) = rw right refl in
      let end : Decides (given (judged size pre op s modrm imm imm2)) [] (Valid (instruction size pre op s modrm imm imm2)) = ap (λ v. Got v 0) is in
      let two = joins (second_part s.imm) (λ imm2. given (judged size pre op s modrm imm imm2)) (number_reader _) second [] imm2 (Valid (instruction size pre op s modrm imm imm2)) b end in
      let tail : Decides (second_part s.imm >>= λ imm2. given (judged size pre op s modrm imm imm2)) second (Valid (instruction size pre op s modrm imm imm2)) = subst (λ t. Decides (second_part s.imm >>= λ imm2. given (judged size pre op s modrm imm imm2)) t (Valid (instruction size pre op s modrm imm imm2))) (append-nil second) two in
      joins (first_part (opsize_of size pre s.size) (adsize_of size pre.adsize) s.imm) (λ imm. second_part s.imm >>= λ imm2. given (judged size pre op s modrm imm imm2)) (first_reader (opsize_of size pre s.size) (adsize_of size pre.adsize) s.imm) first second imm (Valid (instruction size pre op s modrm imm imm2)) a tail

module _ (size : CodeSize) (pre : Prefixes) (op : ℕ) (s : InsnForm) (insn : Insn) where
  row_read : (m : ModRm) (operand rest : List ℕ) → IsOperand size pre s.operand operand (Some m) → Decides (immediates_part size pre op s (Some m)) rest (Valid insn) → Decides (operand_row size pre op s) (operand ++ rest) (Valid insn)
  unfolding operand_row after_operand
  row_read m operand rest is e =
      let after : Decides (after_operand size pre op s m) rest (Valid insn) = rw is.1 e in
      joins (modrm_part size pre s.operand) (after_operand size pre op s) (modrm_reader size pre s.operand) operand rest m (Valid insn) is.0 after

  cell_read : (c : OpcodeCell) (bs : List ℕ) → c ≡ cell.Form s → Decides (row_part size pre op s) bs (Valid insn) → Decides (cell_part size pre op c) bs (Valid insn)
  unfolding cell_part
  cell_read c bs is e = rw is e

  group_read : (bs : List ℕ) → group_cell (conditions_of size pre) op (head_of bs) ≡ cell.Form s → Decides (operand_row size pre op s) bs (Valid insn) → Decides (group_part size pre op) bs (Valid insn)
  unfolding group_part group_rest operand_row modrm_part
  group_read [] is e = absurd (let none : More ≡ Got (Valid insn) 0 = e in cc)
  group_read (m ∷ rest) is e =
      ap (λ c. after_bytes 1 (group_rest size pre op c m rest)) is ∙ sym (again size pre op insn s m rest) ∙ e

  head_front : (m : ModRm) (operand rest : List ℕ) → IsOperand size pre s.operand operand (Some m) → head_of (operand ++ rest) ≡ head_of operand
  unfolding modrm_part
  head_front m [] rest is = absurd (let none : More ≡ Got m 0 = is.0 in cc)
  head_front m (x ∷ xs) rest is = refl

  opcode_read : (bs : List ℕ) → (is_64_bit size && bad_in_64_bit op) ≡ false → (b : Bool) → needs_reg op ≡ b → Decides (cond b (group_part size pre op) (cell_part size pre op (cell_at (conditions_of size pre) op 0))) bs (Valid insn) → Decides (after_opcode size pre op) bs (Valid insn)
  unfolding after_opcode
  opcode_read bs allowed b is e = rw (allowed, is) e

  alone_read : (bs : List ℕ) → (b : Bool) → has_modrm s.operand ≡ b → Decides (cond b (operand_row size pre op s) (immediates_part size pre op s None)) bs (Valid insn) → Decides (row_part size pre op s) bs (Valid insn)
  unfolding row_part
  alone_read bs b is e = rw is e

  -- an operand and the rest of its row, after the opcode
  after_read : (modrm : Option ModRm) (operand rest : List ℕ) → (is_64_bit size && bad_in_64_bit op) ≡ false → place_of size pre op operand ≡ cell.Form s → is_some modrm ≡ (needs_reg op || has_modrm s.operand) → IsOperand size pre s.operand operand modrm → Decides (immediates_part size pre op s modrm) rest (Valid insn) → Decides (after_opcode size pre op) (operand ++ rest) (Valid insn)
  after_read modrm operand rest allowed place there is e = go (needs_reg op) (has_modrm s.operand) refl refl modrm operand place there is e
    where
      go : (g h : Bool) → needs_reg op ≡ g → has_modrm s.operand ≡ h → (modrm : Option ModRm) (operand : List ℕ) → cond g (group_cell (conditions_of size pre) op (head_of operand)) (cell_at (conditions_of size pre) op 0) ≡ cell.Form s → is_some modrm ≡ (g || h) → IsOperand size pre s.operand operand modrm → Decides (immediates_part size pre op s modrm) rest (Valid insn) → Decides (after_opcode size pre op) (operand ++ rest) (Valid insn)
      go true h a b None operand place there is e = cc
      go true h a b (Some m) operand place there is e =
          let row = row_read m operand rest is e in
          let here = ap (λ (k : ℕ). group_cell (conditions_of size pre) op k) (head_front m operand rest is) ∙ place in
          opcode_read (operand ++ rest) allowed true a (group_read (operand ++ rest) here row)
      go false true a b None operand place there is e = cc
      go false true a b (Some m) operand place there is e =
          let row = row_read m operand rest is e in
          opcode_read (operand ++ rest) allowed false a (cell_read (cell_at (conditions_of size pre) op 0) (operand ++ rest) place (alone_read (operand ++ rest) true b row))
      go false false a b None operand place there is e =
          let whole : operand ++ rest ≡ rest = ap (λ t. t ++ rest) is in
          subst (λ t. Decides (after_opcode size pre op) t (Valid insn)) (sym whole) (opcode_read rest allowed false a (cell_read (cell_at (conditions_of size pre) op 0) rest place (alone_read rest false b e)))
      go false false a b (Some m) operand place there is e = cc

first_read : (size : CodeSize) (pre : Prefixes) (op b : ℕ) (more rest : List ℕ) (insn : Insn) → IsOpcodeBytes op b more → Decides (after_opcode size pre op) rest (Valid insn) → Decides (after_first_byte size pre b) (more ++ rest) (Valid insn)
unfolding after_first_byte
first_read size pre op b [] rest insn is e = rw is.0 (subst (λ (o : ℕ). Decides (after_opcode size pre o) rest (Valid insn)) is.1 e)
first_read size pre op b (c ∷ []) rest insn is e =
    let two : after_opcode size pre (0x0F00 + c) rest ≡ Got (Valid insn) (length rest) = subst (λ (o : ℕ). Decides (after_opcode size pre o) rest (Valid insn)) is.1 e in
    let len : 1 + length rest ≡ length (c ∷ rest) = omega arith in
    rw is.0 (ap (after_bytes 1) two ∙ ap (Got (Valid insn)) len)
first_read size pre op b (c ∷ d ∷ bs) rest insn is e = absurd is

pub spelled_from_all : (size : CodeSize) (bytes : List ℕ) (insn : Insn) → HasAllParts size bytes insn → Spells size bytes insn
spelled_from_all size bytes insn p =
    let imms = imms_read size p.pre p.op p.form p.imm p.imm2 p.modrm p.first p.second p.first_is p.second_is p.right in
    let after = after_read size p.pre p.op p.form (instruction size p.pre p.op p.form p.modrm p.imm p.imm2) p.modrm p.operand (p.first ++ p.second) p.allowed p.place p.there p.operand_is imms in
    let opcode = first_read size p.pre p.op p.opcode p.opcode_rest (p.operand ++ (p.first ++ p.second)) (instruction size p.pre p.op p.form p.modrm p.imm p.imm2) p.op_is after in
    let goes_on : Decides (after_first_byte size (prefixes_of size p.prefix) p.opcode) (p.opcode_rest ++ (p.operand ++ (p.first ++ p.second))) (Valid (instruction size p.pre p.op p.form p.modrm p.imm p.imm2)) = subst (λ (q : Prefixes). Decides (after_first_byte size q p.opcode) (p.opcode_rest ++ (p.operand ++ (p.first ++ p.second))) (Valid (instruction size p.pre p.op p.form p.modrm p.imm p.imm2))) p.pre_is opcode in
    record {
      parts = instruction size p.pre p.op p.form p.modrm p.imm p.imm2;
      reads = reads_from_parts size bytes (Valid (instruction size p.pre p.op p.form p.modrm p.imm p.imm2)) (record { prefix = p.prefix; first = p.opcode; rest = p.opcode_rest ++ (p.operand ++ (p.first ++ p.second)); spelling = p.spelling; all = p.all; ends = p.ends; goes_on = goes_on });
      whole = p.meaning;
    }
