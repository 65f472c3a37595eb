use Rattle.std.proofs.Common.{ℕ, ◌≡◌, Bool, true, false, not, ◌&&◌, if◌then◌else◌, Option, Some, None, refl}
use Rattle.xe_base.specs.State.{Valid, broken, flags_are_valid, cr0_is_valid, cr4_is_valid, efer_is_valid, paging_is_valid, attrs_are_valid, low_bases_are_valid, bases_are_canonical, level_is_valid, code_is_valid, pointer_is_valid, is_base}
use Rattle.xe_base.specs.declared.cpu.Cpu.{Cpu}

-- ---- tests of both

pub left : (a b : Bool) → a && b ≡ true → a ≡ true
left true b h = refl
left false b h = cc

pub right : (a b : Bool) → a && b ≡ true → b ≡ true
right true b h = h
right false b h = cc

pub both : (a b : Bool) → a ≡ true → b ≡ true → a && b ≡ true
both a b g h = rw (g, h) refl

-- ---- the rules of a valid state, each by itself

-- the bases that are canonical
pub record Bases (cpu : Cpu) : Type 0 where
  pub fs_ : is_base cpu cpu.fs.base ≡ true
  pub gs_ : is_base cpu cpu.gs.base ≡ true
  pub ldtr_ : is_base cpu cpu.ldtr.base ≡ true
  pub tr_ : is_base cpu cpu.tr.base ≡ true
  pub gdtr_ : is_base cpu cpu.gdtr.base ≡ true
  pub idtr_ : is_base cpu cpu.idtr.base ≡ true
  pub kgs_ : is_base cpu cpu.kgs ≡ true

pub record Rules (cpu : Cpu) : Type 0 where
  pub flags : flags_are_valid cpu ≡ true
  pub cr0_ : cr0_is_valid cpu ≡ true
  pub cr4_ : cr4_is_valid cpu ≡ true
  pub efer_ : efer_is_valid cpu ≡ true
  pub paging : paging_is_valid cpu ≡ true
  pub attrs : attrs_are_valid cpu ≡ true
  pub low : low_bases_are_valid cpu ≡ true
  pub bases : Bases cpu
  pub level : level_is_valid cpu ≡ true
  pub code : code_is_valid cpu ≡ true
  pub pointer : pointer_is_valid cpu ≡ true

passes : (a : Bool) (n : ℕ) (x : Option ℕ) → (if not a then Some n else x) ≡ None → a ≡ true
passes true n x h = refl
passes false n x h = cc

goes_on : (a : Bool) (n : ℕ) (x : Option ℕ) → (if not a then Some n else x) ≡ None → x ≡ None
goes_on true n x h = h
goes_on false n x h = cc

holds : (a : Bool) (n : ℕ) (x : Option ℕ) → a ≡ true → x ≡ None → (if not a then Some n else x) ≡ None
holds a n x g h = rw g h

bases_of : (cpu : Cpu) → bases_are_canonical cpu ≡ true → Bases cpu
bases_of cpu h =
    let h6 = left _ _ h in
    let h5 = left _ _ h6 in
    let h4 = left _ _ h5 in
    let h3 = left _ _ h4 in
    let h2 = left _ _ h3 in
    record {
      fs_ = left _ _ h2;
      gs_ = right _ _ h2;
      ldtr_ = right _ _ h3;
      tr_ = right _ _ h4;
      gdtr_ = right _ _ h5;
      idtr_ = right _ _ h6;
      kgs_ = right _ _ h;
    }

all_bases : (cpu : Cpu) → Bases cpu → bases_are_canonical cpu ≡ true
all_bases cpu b = both _ _ (both _ _ (both _ _ (both _ _ (both _ _ (both _ _ b.fs_ b.gs_) b.ldtr_) b.tr_) b.gdtr_) b.idtr_) b.kgs_

pub rules_of : (cpu : Cpu) → Valid cpu → Rules cpu
unfolding broken
rules_of cpu h =
    let h2 = goes_on _ 1 _ h in
    let h3 = goes_on _ 2 _ h2 in
    let h4 = goes_on _ 3 _ h3 in
    let h5 = goes_on _ 4 _ h4 in
    let h6 = goes_on _ 5 _ h5 in
    let h7 = goes_on _ 6 _ h6 in
    let h8 = goes_on _ 7 _ h7 in
    let h9 = goes_on _ 8 _ h8 in
    let segments = passes _ 6 _ h6 in
    let upper = left _ _ segments in
    record {
      flags = passes _ 1 _ h;
      cr0_ = passes _ 2 _ h2;
      cr4_ = passes _ 3 _ h3;
      efer_ = passes _ 4 _ h4;
      paging = passes _ 5 _ h5;
      attrs = left _ _ upper;
      low = right _ _ upper;
      bases = bases_of cpu (right _ _ segments);
      level = passes _ 7 _ h7;
      code = passes _ 8 _ h8;
      pointer = passes _ 9 _ h9;
    }

pub valid_by : (cpu : Cpu) → Rules cpu → Valid cpu
unfolding broken
valid_by cpu r =
    holds _ 1 _ r.flags (holds _ 2 _ r.cr0_ (holds _ 3 _ r.cr4_ (holds _ 4 _ r.efer_ (holds _ 5 _ r.paging
    (holds _ 6 _ (both _ _ (both _ _ r.attrs r.low) (all_bases cpu r.bases)) (holds _ 7 _ r.level (holds _ 8 _ r.code (holds _ 9 _ r.pointer refl))))))))
