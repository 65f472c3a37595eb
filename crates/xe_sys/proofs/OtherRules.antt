use Rattle.std.proofs.Common.{ℕ, ◌≡◌, ◌<◌, ◌/◌, ◌%◌, ◌-◌, ◌^◌, ◌==◌, Bool, true, false, not, ◌&&◌, nat_eq, bit_and, bit_or, refl, ◌∙◌, arith, if◌then◌else◌}
use Rattle.std.proofs.lemmas.Nat.{and_or_apart}
use Rattle.xe_base.specs.Bits.{bit, only, canonical}
use Rattle.xe_base.specs.State.{Valid, needs, pg, lme, lma, is_long, is_base}
use Rattle.xe_base.specs.declared.cpu.Cpu.{Cpu}
use Rattle.xe_base.specs.declared.segment.SegName.{SegName}
use Rattle.xe_base.specs.declared.segment.Table.{Table}
use Rattle.xe_opmap.specs.declared.insn.Insn.{Insn}
use Rattle.xe_ctx.specs.Finishes.{EachGives}
use Rattle.xe_ctx.proofs.Tame.{asked_then}
use Rattle.xe_sys.specs.Msr.{is_efer_allowed, with_efer, msr_written}
use Rattle.xe_sys.specs.Plain.{with_gs_swapped}
use Rattle.xe_sys.specs.Table.{with_table, table_in_memory}
use Rattle.xe_sys.specs.declared.msr.KnownMsr.{KnownMsr}
use Rattle.xe_sys.specs.declared.msr.KnownMsr.TheVariants.{Efer, FsBase, GsBase, KernelGsBase, OfDevice}
use Rattle.xe_sys.specs.declared.table.DescriptorTable.{DescriptorTable}
use Rattle.xe_sys.specs.declared.table.DescriptorTable.TheVariants.{Global, Interrupt}
use Rattle.xe_sys.proofs.BitLaws.{bit_kept, bit_left, bit_right, no-bit, and_apart}
use Rattle.xe_sys.proofs.Guards.{guarded}
use Rattle.xe_sys.proofs.StateRules.{left, right, both, rules_of, valid_by}

-- ---- bases

-- a state with other bases
abbrev rebased : Cpu → ℕ → ℕ → Table → Table → ℕ → Cpu
rebased cpu fs gs gdtr idtr kgs = record cpu { fs = record cpu.fs { base = fs }; gs = record cpu.gs { base = gs }; gdtr = gdtr; idtr = idtr; kgs = kgs }

valid_rebased : (cpu : Cpu) (fs gs : ℕ) (gdtr idtr : Table) (kgs : ℕ) → Valid cpu → is_base cpu fs ≡ true → is_base cpu gs ≡ true → is_base cpu gdtr.base ≡ true → is_base cpu idtr.base ≡ true → is_base cpu kgs ≡ true → Valid (rebased cpu fs gs gdtr idtr kgs)
valid_rebased cpu fs gs gdtr idtr kgs valid f g d i k =
    let r = rules_of cpu valid in
    let b = r.bases in
    valid_by (rebased cpu fs gs gdtr idtr kgs) (record {
      flags = r.flags;
      cr0_ = r.cr0_;
      cr4_ = r.cr4_;
      efer_ = r.efer_;
      paging = r.paging;
      attrs = r.attrs;
      low = r.low;
      bases = record { fs_ = f; gs_ = g; ldtr_ = b.ldtr_; tr_ = b.tr_; gdtr_ = d; idtr_ = i; kgs_ = k };
      level = r.level;
      code = r.code;
      pointer = r.pointer;
    })

pub valid_swapped : (cpu : Cpu) → Valid cpu → Valid (with_gs_swapped cpu)
valid_swapped cpu valid = let b = (rules_of cpu valid).bases in valid_rebased cpu cpu.fs.base cpu.kgs cpu.gdtr cpu.idtr cpu.gs.base valid b.fs_ b.kgs_ b.gdtr_ b.idtr_ b.gs_

valid_fs : (cpu : Cpu) (base : ℕ) → Valid cpu → is_base cpu base ≡ true → Valid (record cpu { fs = record cpu.fs { base = base } })
valid_fs cpu base valid h = let b = (rules_of cpu valid).bases in valid_rebased cpu base cpu.gs.base cpu.gdtr cpu.idtr cpu.kgs valid h b.gs_ b.gdtr_ b.idtr_ b.kgs_

valid_gs : (cpu : Cpu) (base : ℕ) → Valid cpu → is_base cpu base ≡ true → Valid (record cpu { gs = record cpu.gs { base = base } })
valid_gs cpu base valid h = let b = (rules_of cpu valid).bases in valid_rebased cpu cpu.fs.base base cpu.gdtr cpu.idtr cpu.kgs valid b.fs_ h b.gdtr_ b.idtr_ b.kgs_

valid_kgs : (cpu : Cpu) (base : ℕ) → Valid cpu → is_base cpu base ≡ true → Valid (record cpu { kgs = base })
valid_kgs cpu base valid h = let b = (rules_of cpu valid).bases in valid_rebased cpu cpu.fs.base cpu.gs.base cpu.gdtr cpu.idtr base valid b.fs_ b.gs_ b.gdtr_ b.idtr_ h

-- ---- descriptor tables

pub valid_table : (cpu : Cpu) (which : DescriptorTable) (table : Table) → Valid cpu → is_base cpu table.base ≡ true → Valid (with_table cpu which table)
valid_table cpu Global table valid h = let b = (rules_of cpu valid).bases in valid_rebased cpu cpu.fs.base cpu.gs.base table cpu.idtr cpu.kgs valid b.fs_ b.gs_ h b.idtr_ b.kgs_
valid_table cpu Interrupt table valid h = let b = (rules_of cpu valid).bases in valid_rebased cpu cpu.fs.base cpu.gs.base cpu.gdtr table cpu.kgs valid b.fs_ b.gs_ b.gdtr_ h b.kgs_

-- a number of 32 bits is canonical
low-canonical : (x : ℕ) → x < 2 ^ 32 → canonical 48 x ≡ true
low-canonical x h = let z : x / 2 ^ 47 ≡ 0 = omega arith in rw z refl

low-kept : (long short : Bool) (base : ℕ) → long ≡ false → canonical 48 (if long then base % 2 ^ 64 else (if short then base % 2 ^ 24 else base % 2 ^ 32)) ≡ true
low-kept true short base h = cc
low-kept false true base h = low-canonical (base % 2 ^ 24) (omega arith)
low-kept false false base h = low-canonical (base % 2 ^ 32) (omega arith)

-- outside 64-bit code the base that is loaded is canonical by itself
abbrev pub IsLow : Cpu → Table → Type 0
IsLow cpu table = is_long cpu ≡ false → is_base cpu table.base ≡ true

pub table_low : (insn : Insn) (cpu : Cpu) (seg : SegName) (offset : ℕ) → EachGives (IsLow cpu) (table_in_memory insn cpu seg offset)
unfolding table_in_memory
table_low insn cpu seg offset = asked_then (IsLow cpu) _ _ (λ limit. asked_then (IsLow cpu) _ _ (λ base. low-kept (is_long cpu) (insn.opsize == 2) base))

by-need : (a b : Bool) → (a ≡ false → b ≡ true) → needs a b ≡ true → b ≡ true
by-need true b f h = h
by-need false b f h = f refl

pub base_fits : (cpu : Cpu) (table : Table) → IsLow cpu table → needs (is_long cpu) (is_base cpu table.base) ≡ true → is_base cpu table.base ≡ true
base_fits cpu table low h = by-need (is_long cpu) (is_base cpu table.base) low h

-- ---- EFER

is-zero : (x y : ℕ) → x ≡ y → nat_eq y 0 ≡ true → nat_eq x 0 ≡ true
is-zero x y e h = rw e h

efer : ℕ → ℕ → ℕ
efer old value = bit_or (bit_and value 0x901) (bit_and old 0x400)

only-efer : (old value : ℕ) → only 0xD01 (efer old value) ≡ true
unfolding efer
only-efer old value = is-zero _ _ (and_or_apart (2 ^ 64 - 1 - 0xD01) (bit_and value 0x901) (bit_and old 0x400) (and_apart old 0x400 (2 ^ 64 - 1 - 0xD01) refl) ∙ and_apart value 0x901 (2 ^ 64 - 1 - 0xD01) refl) refl

lme-efer : (old value : ℕ) → bit (efer old value) 8 ≡ bit value 8
unfolding efer
lme-efer old value = bit_left (bit_and value 0x901) (bit_and old 0x400) 8 (no-bit old 0x400 8 refl) ∙ bit_kept value 0x901 8 refl

lma-efer : (old value : ℕ) → bit (efer old value) 10 ≡ bit old 10
unfolding efer
lma-efer old value = bit_right (bit_and value 0x901) (bit_and old 0x400) 10 (no-bit value 0x901 10 refl) ∙ bit_kept old 0x400 10 refl

-- LME stays while paging is on: e is LME before and v then, p paging, l LMA
same-lme : (e v p l : Bool) → needs p (if e then v else not v) ≡ true → (if e && p then l else not l) ≡ true → (if v && p then l else not l) ≡ true
same-lme true true p l g h = h
same-lme true false true l g h = cc
same-lme true false false l g h = h
same-lme false true true l g h = cc
same-lme false true false l g h = h
same-lme false false p l g h = h

valid_efer : (cpu : Cpu) (value : ℕ) → Valid cpu → is_efer_allowed cpu value ≡ true → Valid (record cpu { efer = efer cpu.efer value })
valid_efer cpu value valid g =
    let r = rules_of cpu valid in
    let upper = left _ _ r.efer_ in
    let lme8 : bit (efer cpu.efer value) 8 ≡ bit value 8 = lme-efer cpu.efer value in
    let lma10 : bit (efer cpu.efer value) 10 ≡ lma cpu = lma-efer cpu.efer value in
    let matches : (if bit (efer cpu.efer value) 8 && pg cpu then bit (efer cpu.efer value) 10 else not (bit (efer cpu.efer value) 10)) ≡ true =
    rw (lme8, lma10) (same-lme (lme cpu) (bit value 8) (pg cpu) (lma cpu) (right _ _ g) (right _ _ upper)) in
    valid_by (record cpu { efer = efer cpu.efer value }) (record {
      flags = r.flags;
      cr0_ = r.cr0_;
      cr4_ = r.cr4_;
      efer_ = both _ _ (both _ _ (only-efer cpu.efer value) matches) (rw lma10 (right _ _ r.efer_));
      paging = r.paging;
      attrs = r.attrs;
      low = r.low;
      bases = let b = r.bases in record { fs_ = b.fs_; gs_ = b.gs_; ldtr_ = b.ldtr_; tr_ = b.tr_; gdtr_ = b.gdtr_; idtr_ = b.idtr_; kgs_ = b.kgs_ };
      level = r.level;
      code = rw lma10 r.code;
      pointer = rw lma10 r.pointer;
    })

allowed_efer : (cpu : Cpu) (value : ℕ) → Valid cpu → is_efer_allowed cpu value ≡ true → Valid (with_efer cpu value)
unfolding efer
allowed_efer cpu value valid g = valid_efer cpu value valid g

-- ---- WRMSR

pub valid_msr : (cpu : Cpu) (number value : ℕ) (known : KnownMsr) → Valid cpu → EachGives Valid (msr_written cpu number value known)
unfolding msr_written
valid_msr cpu number value Efer valid = guarded Valid cpu _ _ (λ g. allowed_efer cpu value valid g)
valid_msr cpu number value FsBase valid = guarded Valid cpu _ _ (λ g. valid_fs cpu value valid g)
valid_msr cpu number value GsBase valid = guarded Valid cpu _ _ (λ g. valid_gs cpu value valid g)
valid_msr cpu number value KernelGsBase valid = guarded Valid cpu _ _ (λ g. valid_kgs cpu value valid g)
valid_msr cpu number value OfDevice valid = asked_then Valid _ _ (λ u. valid)
