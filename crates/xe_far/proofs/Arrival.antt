use Rattle.std.proofs.Common.{ℕ, ◌≡◌, ◌<◌, ◌≤◌, ◌+◌, ◌-◌, ◌*◌, ◌/◌, ◌%◌, ◌^◌, ◌==◌, Bool, true, false, not, ◌&&◌, ◌||◌, nat_lt, nat_le, nat_eq, Option, Some, None, Ok, Err, bit_and, bit_or, refl, sym, ap, ◌∙◌, subst, arith, if◌then◌else◌}
use Rattle.std.specs.Int.Bits.{and_zero_r}
use Rattle.std.proofs.lemmas.Bool.{and_from}
use Rattle.std.proofs.lemmas.Bool.Decides.{nat_tests}
use Rattle.std.proofs.lemmas.Nat.{and_or_apart, and_assoc}
use Rattle.xe_base.specs.Bits.{bit, canonical}
use Rattle.xe_base.specs.Calm.{fixed_flags}
use Rattle.xe_base.specs.State.{broken, Valid, is_long, lma, pe, pg, seg_l, seg_db, attr_is_valid, is_low_base, segments_are_valid, level_is_valid, code_is_valid, mode_of, flags_are_valid, cr0_is_valid, cr4_is_valid, efer_is_valid}
use Rattle.xe_base.specs.declared.access.Fault.{Fault}
use Rattle.xe_base.specs.declared.cpu.Cpu.{Cpu}
use Rattle.xe_base.specs.declared.cpu.Mode.TheVariants.{Real, Protected, Compat, Long}
use Rattle.xe_base.specs.declared.segment.Seg.{Seg}
use Rattle.xe_base.proofs.CalmLaws.{calm_keeps_valid}
use Rattle.xe_seg.specs.Descriptors.{base_of, units_of, limit_of, attr_of, l_of, db_of, g_of}
use Rattle.xe_seg.specs.Loads.{null_segment, accessed, loaded, real_segment}
use Rattle.xe_seg.specs.Targets.{target, is_target}
use Rattle.xe_seg.specs.declared.descriptor.Descriptor.{Descriptor}
use Rattle.xe_seg.proofs.DescriptorLaws.{attributes_of}
use Rattle.xe_ctx.specs.Privilege.{is_real_mode}
use Rattle.xe_ctx.proofs.Tame.{Tame}
use Rattle.xe_far.specs.Change.{OnlyFlow}

-- ---- the rules of a valid state, one after another

-- a rule that isn't broken afterwards where it wasn't before
step : (b c : Bool) (n : ℕ) (x y : Option ℕ) → (b ≡ true → c ≡ true) → (x ≡ None → y ≡ None) → (if not b then Some n else x) ≡ None → (if not c then Some n else y) ≡ None
step true c n x y f g h = rw (f refl) (g h)
step false c n x y f g h = cc

passed : (a : Bool) (n : ℕ) (x : Option ℕ) → (if not a then Some n else x) ≡ None → a ≡ true
passed true n x h = refl
passed false n x h = cc

onward : (a : Bool) (n : ℕ) (x : Option ℕ) → (if not a then Some n else x) ≡ None → x ≡ None
onward true n x h = h
onward false n x h = cc

both : (a b c d : Bool) → (a ≡ true → c ≡ true) → (b ≡ true → d ≡ true) → (a && b) ≡ true → (c && d) ≡ true
both true b c d f g h = rw (f refl) (g h)
both false b c d f g h = cc

left_true : (a b : Bool) → (a && b) ≡ true → a ≡ true
left_true true b h = refl
left_true false b h = cc

right_true : (a b : Bool) → (a && b) ≡ true → b ≡ true
right_true true b h = h
right_true false b h = cc

-- ---- segments that keep the rules

-- what a segment register may hold where another segment was before
pub record Fits (old new : Seg) : Type 0 where
  pub attr : attr_is_valid old ≡ true → attr_is_valid new ≡ true
  pub low : is_low_base old ≡ true → is_low_base new ≡ true
  pub base : canonical 48 old.base ≡ true → canonical 48 new.base ≡ true

-- the same of CS and SS
pub record FitsLow (old new : Seg) : Type 0 where
  pub attr : attr_is_valid old ≡ true → attr_is_valid new ≡ true
  pub low : is_low_base old ≡ true → is_low_base new ≡ true

pub fits_same : (s : Seg) → Fits s s
fits_same s = record { attr = λ h. h; low = λ h. h; base = λ h. h }

pub fits_low_same : (s : Seg) → FitsLow s s
fits_low_same s = record { attr = λ h. h; low = λ h. h }

pub fits_left : (lost : Bool) (s : Seg) → Fits s (if lost then null_segment 0 else s)
fits_left true s = record { attr = λ h. refl; low = λ h. refl; base = λ h. refl }
fits_left false s = fits_same s

base_small : (x : ℕ) → x / 2 ^ 16 % 2 ^ 24 + x / 2 ^ 56 % 2 ^ 8 * 2 ^ 24 < 2 ^ 32
base_small x = omega arith

fields_small : (x : ℕ) → x / 2 ^ 40 % 2 ^ 8 + x / 2 ^ 52 % 2 ^ 4 * 2 ^ 8 < 2 ^ 12
fields_small x = omega arith

accessed_small : (a : ℕ) → a < 2 ^ 12 → nat_lt (accessed a) 0x1000 ≡ true
accessed_small a h = grind (arith, nat_tests)

pub below : (x m : ℕ) → x < m → nat_lt x m ≡ true
below x m h = grind (arith, nat_tests)

pub fits_loaded : (old : Seg) (sel : ℕ) (d : Descriptor) → FitsLow old (loaded sel d)
fits_loaded old sel d = record { attr = λ h. accessed_small (attr_of d) (fields_small d.raw); low = λ h. below (base_of d) (2 ^ 32) (base_small d.raw) }

times_16 : (sel : ℕ) → sel < 2 ^ 16 → sel * 16 < 2 ^ 32
times_16 sel h = omega arith

pub fits_real : (old : Seg) (sel : ℕ) → sel < 2 ^ 16 → FitsLow old (real_segment old sel)
fits_real old sel h = record { attr = λ k. k; low = λ k. below (sel * 16) (2 ^ 32) (times_16 sel h) }

-- ---- the state after a far transfer

module _ (cpu : Cpu) (cs ss es ds fs gs : Seg) (rip level : ℕ) where
  abbrev pub moved : Cpu
  moved = record cpu { es = es; cs = cs; ss = ss; ds = ds; fs = fs; gs = gs; rip = rip; cpl = level }

  kept_segments : FitsLow cpu.cs cs → FitsLow cpu.ss ss → Fits cpu.es es → Fits cpu.ds ds → Fits cpu.fs fs → Fits cpu.gs gs → segments_are_valid cpu ≡ true → segments_are_valid moved ≡ true
  kept_segments c s e d f g = both _ _ _ _
      (both _ _ _ _
      (both _ _ _ _ (both _ _ _ _ (both _ _ _ _ (both _ _ _ _ (both _ _ _ _ (both _ _ _ _ (both _ _ _ _ e.attr c.attr) s.attr) d.attr) f.attr) g.attr) (λ h. h)) (λ h. h))
      (both _ _ _ _ (both _ _ _ _ (both _ _ _ _ e.low c.low) s.low) d.low))
      (both _ _ _ _ (both _ _ _ _ (both _ _ _ _ (both _ _ _ _ (both _ _ _ _ (both _ _ _ _ f.base g.base) (λ h. h)) (λ h. h)) (λ h. h)) (λ h. h)) (λ h. h))

  pub valid_moved : FitsLow cpu.cs cs → FitsLow cpu.ss ss → Fits cpu.es es → Fits cpu.ds ds → Fits cpu.fs fs → Fits cpu.gs gs →
      (level_is_valid cpu ≡ true → level_is_valid moved ≡ true) → (code_is_valid cpu ≡ true → code_is_valid moved ≡ true) → (is_long moved || nat_lt rip (2 ^ 32)) ≡ true →
      Valid cpu → Valid moved
  unfolding broken
  valid_moved c s e d f g l k p h =
      step _ _ 1 _ _ (λ x. x) (step _ _ 2 _ _ (λ x. x) (step _ _ 3 _ _ (λ x. x) (step _ _ 4 _ _ (λ x. x) (step _ _ 5 _ _ (λ x. x)
      (step _ _ 6 _ _ (kept_segments c s e d f g) (step _ _ 7 _ _ l (step _ _ 8 _ _ k (step _ _ 9 _ _ (λ x. p) (λ x. x))))))))) h

-- ---- the level

pe_by : (pg pe lme lma l : Bool) → (not pg || pe) ≡ true → (if lme && pg then lma else not lma) ≡ true → is_real_mode (if lma then (if l then Long else Compat) else (if pe then Protected else Real)) ≡ false → pe ≡ true
pe_by pg true lme lma l a b c = refl
pe_by true false lme lma l a b c = cc
pe_by false false true true l a b c = cc
pe_by false false true false l a b c = cc
pe_by false false false true l a b c = cc
pe_by false false false false l a b c = cc

-- outside real mode protection is on
pub protection_on : (cpu : Cpu) → Valid cpu → is_real_mode (mode_of cpu) ≡ false → pe cpu ≡ true
unfolding broken
protection_on cpu valid other =
    let at2 = onward (flags_are_valid cpu) 1 _ valid in
    let cr0 = passed (cr0_is_valid cpu) 2 _ at2 in
    let at3 = onward (cr0_is_valid cpu) 2 _ at2 in
    let at4 = onward (cr4_is_valid cpu) 3 _ at3 in
    let efer = passed (efer_is_valid cpu) 4 _ at4 in
    pe_by (pg cpu) (pe cpu) (bit cpu.efer 8) (lma cpu) (seg_l cpu.cs) (right_true _ _ (left_true _ _ cr0)) (right_true _ _ (left_true _ _ efer)) other

two_bits : (x : ℕ) → nat_le (x % 4) 3 ≡ true
two_bits x = grind (arith, nat_tests)

pub level_fits : (on : Bool) (x : ℕ) → on ≡ true → (nat_le (x % 4) 3 && (not (not on) || x % 4 == 0)) ≡ true
level_fits true x h = and_from (nat_le (x % 4) 3) true (two_bits x) refl
level_fits false x h = cc

-- ---- the code segment

bit_9 : (a : ℕ) → a % 2 < 1 → (a + 1) / 2 ^ 9 ≡ a / 2 ^ 9
bit_9 a h = omega arith

bit_10 : (a : ℕ) → a % 2 < 1 → (a + 1) / 2 ^ 10 ≡ a / 2 ^ 10
bit_10 a h = omega arith

even : (a : ℕ) → nat_eq (a / 2 ^ 0 % 2) 1 ≡ false → a % 2 < 1
even a h = grind (arith, nat_tests)

l_by : (set : Bool) (a : ℕ) → nat_eq (a / 2 ^ 0 % 2) 1 ≡ set → (if set then a else a + 1) / 2 ^ 9 ≡ a / 2 ^ 9
l_by true a h = refl
l_by false a h = bit_9 a (even a h)

db_by : (set : Bool) (a : ℕ) → nat_eq (a / 2 ^ 0 % 2) 1 ≡ set → (if set then a else a + 1) / 2 ^ 10 ≡ a / 2 ^ 10
db_by true a h = refl
db_by false a h = bit_10 a (even a h)

loaded_l : (sel : ℕ) (d : Descriptor) → seg_l (loaded sel d) ≡ l_of d
loaded_l sel d = ap (λ (x : ℕ). nat_eq (x % 2) 1) (l_by _ (attr_of d) refl) ∙ (attributes_of d).l

loaded_db : (sel : ℕ) (d : Descriptor) → seg_db (loaded sel d) ≡ db_of d
loaded_db sel d = ap (λ (x : ℕ). nat_eq (x % 2) 1) (db_by _ (attr_of d) refl) ∙ (attributes_of d).db

one_size : (lma l db : Bool) → (lma && (l && db)) ≡ false → (not (lma && l) || not db) ≡ true
one_size true true true h = cc
one_size true true false h = refl
one_size true false db h = refl
one_size false l db h = refl

-- code of one size
pub code_fits : (cpu : Cpu) (sel : ℕ) (d : Descriptor) → (lma cpu && (l_of d && db_of d)) ≡ false → (not (lma cpu && seg_l (loaded sel d)) || not (seg_db (loaded sel d))) ≡ true
code_fits cpu sel d h = rw (loaded_l sel d, loaded_db sel d) (one_size (lma cpu) (l_of d) (db_of d) h)

-- ---- the instruction pointer

units_small : (x : ℕ) → x / 2 ^ 0 % 2 ^ 16 + x / 2 ^ 48 % 2 ^ 4 * 2 ^ 16 < 2 ^ 20
units_small x = omega arith

scaled_small : (g : Bool) (u : ℕ) → u < 2 ^ 20 → (if g then u * 4096 + 4095 else u) < 2 ^ 32
scaled_small true u h = omega arith
scaled_small false u h = omega arith

pub limit_small : (d : Descriptor) → limit_of d < 2 ^ 32
limit_small d = scaled_small (g_of d) (units_of d) (units_small d.raw)

within : (offset limit : ℕ) → limit < 2 ^ 32 → nat_le offset limit ≡ true → offset < 2 ^ 32
within offset limit small h = grind (arith, nat_tests)

below_by : (long on : Bool) (offset limit : ℕ) → limit < 2 ^ 32 → (if long then on else nat_le offset limit) ≡ true → long ≡ false → offset < 2 ^ 32
below_by true on offset limit small h e = cc
below_by false on offset limit small h e = within offset limit small h

-- code of fewer than 64 bits goes on below 2 ^ 32
pub target_below : (cpu : Cpu) (sel : ℕ) (d : Descriptor) (offset : ℕ) → is_target cpu (loaded sel d) offset ≡ true → is_long (record cpu { cs = loaded sel d }) ≡ false → offset < 2 ^ 32
target_below cpu sel d offset h e = below_by (is_long (record cpu { cs = loaded sel d })) _ offset (limit_of d) (limit_small d) h e

pub pointer_fits : (long : Bool) (rip : ℕ) → (long ≡ false → rip < 2 ^ 32) → (long || nat_lt rip (2 ^ 32)) ≡ true
pointer_fits true rip h = refl
pointer_fits false rip h = below rip (2 ^ 32) (h refl)

target_by : (t : Bool) (f : Fault) (x : Unit {0}) → (if t then Ok tt else Err f) ≡ Ok x → t ≡ true
target_by true f x h = refl
target_by false f x h = cc

pub target_tells : (cpu : Cpu) (cs : Seg) (offset : ℕ) (x : Unit {0}) → target cpu cs offset ≡ Ok x → is_target cpu cs offset ≡ true
unfolding target
target_tells cpu cs offset x h = target_by _ _ x h

-- ---- arrival

-- a transfer led to a valid state, at no more privilege, and changed the flow alone
pub record Arrives (old new : Cpu) : Type 0 where
  pub valid : Valid new
  pub only : OnlyFlow old new
  pub flags : fixed_flags new.rflags ≡ fixed_flags old.rflags
  pub level : old.cpl ≤ new.cpl
  pub pointer : is_long new ≡ false → new.rip < 2 ^ 32

-- it may write general registers and flags besides
pub arrives : (old mid new : Cpu) → Valid mid → OnlyFlow old mid → old.cpl ≤ mid.cpl → (is_long mid ≡ false → mid.rip < 2 ^ 32) → fixed_flags mid.rflags ≡ fixed_flags old.rflags → Tame mid new → Arrives old new
arrives old mid new valid only level pointer flags t =
    let at : new.rip ≡ mid.rip = ap (λ (c : Cpu). c.rip) t.rest in
    let same : new.cpl ≡ mid.cpl = ap (λ (c : Cpu). c.cpl) t.rest in
    let long : is_long new ≡ is_long mid = ap (λ (c : Cpu). is_long c) t.rest in
    let rest : new ≡ record mid { gpr = new.gpr; rip = new.rip; rflags = new.rflags } = t.rest ∙ ap (λ (r : ℕ). record mid { gpr = new.gpr; rip = r; rflags = new.rflags }) (sym at) in
    let goes : is_long mid ≡ false → new.rip < 2 ^ 32 = (λ h. rw at (pointer h)) in
    let written : OnlyFlow old (record mid { gpr = new.gpr; rflags = new.rflags }) = ap (λ (c : Cpu). record c { gpr = new.gpr; rflags = new.rflags }) only in
    record {
      valid = calm_keeps_valid mid new valid (record { rest = rest; flags = t.flags; pointer = goes });
      only = subst (λ (c : Cpu). OnlyFlow old c) (sym t.rest) written;
      flags = t.flags ∙ flags;
      level = rw same level;
      pointer = λ h. goes (sym long ∙ h);
    }

-- and then other flags
pub arrives_with : (old new : Cpu) (f : ℕ) → Arrives old new → fixed_flags f ≡ fixed_flags old.rflags → Arrives old (record new { rflags = f })
arrives_with old new f a same = record {
  valid = calm_keeps_valid new (record new { rflags = f }) a.valid (record { rest = refl; flags = same ∙ sym a.flags; pointer = a.pointer });
  only = ap (λ (c : Cpu). record c { rflags = f }) a.only;
  flags = same;
  level = a.level;
  pointer = a.pointer;
}
