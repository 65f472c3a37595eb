use Rattle.std.proofs.Common.{ℕ, ◌≡◌, ◌-◌, ◌^◌, ◌==◌, Bool, true, false, not, ◌&&◌, nat_lt, nat_le, nat_eq, bit_and, bit_or, refl, ◌∙◌, if◌then◌else◌}
use Rattle.std.specs.Int.{bit_at}
use Rattle.std.proofs.lemmas.Nat.{and_or_apart}
use Rattle.xe_base.specs.Bits.{bit, only}
use Rattle.xe_base.specs.State.{Valid, broken, needs, pe, pg, lme, lma, pae, seg_l, is_long}
use Rattle.xe_base.specs.declared.cpu.Cpu.{Cpu}
use Rattle.xe_ctx.specs.Finishes.{EachGives}
use Rattle.xe_ctx.proofs.Tame.{asked_then}
use Rattle.xe_sys.specs.Control.{cr0_of, has_small_tss, is_cr0_allowed, with_lma, with_cr0, cr0_written, is_cr4_allowed, control_written, with_status_word, without_ts}
use Rattle.xe_sys.specs.declared.control.ControlRegister.{ControlRegister}
use Rattle.xe_sys.specs.declared.control.ControlRegister.TheVariants.{Cr0, Cr2, Cr3, Cr4, Cr8}
use Rattle.xe_sys.proofs.BitLaws.{bit_kept, bit_dropped, bit_added, bit_left, no-bit, bit_joined, and_apart, and_within}
use Rattle.xe_sys.proofs.Guards.{guarded}
use Rattle.xe_sys.proofs.StateRules.{left, right, both, rules_of, valid_by}

-- ---- tests

needs-more : (a b c : Bool) → (b ≡ true → c ≡ true) → needs a b ≡ true → needs a c ≡ true
needs-more true b c f h = f h
needs-more false b c f h = refl

needs-true : (a b : Bool) → b ≡ true → needs a b ≡ true
needs-true true b h = h
needs-true false b h = refl

-- what paging does to long mode: e is LME, p and q paging before and after, l LMA before
record Turned (e q l s a : Bool) : Type 0 where
  pae_ : needs (e && q) a ≡ true
  long : (e && q) && s ≡ l && s

turned : (e p q l s a t : Bool) → (if e && p then l else not l) ≡ true → needs l a ≡ true → needs (q && not p && e) (a && not s && not t) ≡ true → needs (p && (l && s)) q ≡ true → Turned e q l s a
turned false p q true s a t h k m n = cc
turned false p q false s a t h k m n = record { pae_ = refl; long = refl }
turned true true q false s a t h k m n = cc
turned true true true true s a t h k m n = record { pae_ = k; long = refl }
turned true true false true true a t h k m n = cc
turned true true false true false a t h k m n = record { pae_ = refl; long = refl }
turned true false q true s a t h k m n = cc
turned true false false false s a t h k m n = record { pae_ = refl; long = refl }
turned true false true false true true t h k m n = cc
turned true false true false true false t h k m n = cc
turned true false true false false true t h k m n = record { pae_ = refl; long = refl }
turned true false true false false false t h k m n = cc

-- ---- EFER after a write of CR0

bit-lma : (efer : ℕ) (a : Bool) → bit (with_lma efer a) 10 ≡ a
bit-lma efer true = bit_added efer 0x400 10 refl
bit-lma efer false = bit_dropped efer (2 ^ 64 - 1 - 0x400) 10 refl

bit-lme : (efer : ℕ) (a : Bool) → bit (with_lma efer a) 8 ≡ bit efer 8
bit-lme efer true = bit_left efer 0x400 8 refl
bit-lme efer false = bit_kept efer (2 ^ 64 - 1 - 0x400) 8 refl

is-zero : (x y : ℕ) → x ≡ y → nat_eq y 0 ≡ true → nat_eq x 0 ≡ true
is-zero x y e h = rw e h

only-lma : (efer : ℕ) (a : Bool) → only 0xD01 efer ≡ true → only 0xD01 (with_lma efer a) ≡ true
only-lma efer true h = is-zero _ _ (and_or_apart (2 ^ 64 - 1 - 0xD01) efer 0x400 refl) h
only-lma efer false h = is-zero _ _ (and_within efer (2 ^ 64 - 1 - 0x400) (2 ^ 64 - 1 - 0xD01) refl) h

same-test : (a b : Bool) → a ≡ b → (if b then a else not a) ≡ true
same-test true b e = rw (← e) refl
same-test false b e = rw (← e) refl

-- ---- the level: at level 0 no protection is needed

level-0 : (cpl : ℕ) (pe : Bool) → (cpl == 0) ≡ true → nat_le cpl 3 ≡ true → nat_le cpl 3 && needs (not pe) (cpl == 0) ≡ true
level-0 cpl pe z h = both _ _ h (needs-true (not pe) _ z)

-- ---- CR0

only-cr0 : (value : ℕ) → only 0xE005003F (cr0_of value) ≡ true
only-cr0 value = is-zero _ _ (and_or_apart (2 ^ 64 - 1 - 0xE005003F) (bit_and value 0xE005003F) 0x10 refl ∙ and_apart value 0xE005003F (2 ^ 64 - 1 - 0xE005003F) refl) refl

et-cr0 : (value : ℕ) → bit (cr0_of value) 4 ≡ true
et-cr0 value = bit_added (bit_and value 0xE005003F) 0x10 4 refl

record Allowed (b c d e : Bool) : Type 0 where
  paged : b ≡ true
  cached : c ≡ true
  enters : d ≡ true
  stays : e ≡ true

allowed_parts : (a b c d e : Bool) → a && b && c && d && e ≡ true → Allowed b c d e
allowed_parts true true true true true h = record { paged = refl; cached = refl; enters = refl; stays = refl }
allowed_parts true true true true false h = cc
allowed_parts true true true false e h = cc
allowed_parts true true false d e h = cc
allowed_parts true false c d e h = cc
allowed_parts false b c d e h = cc

pub valid_cr0 : (cpu : Cpu) (value c : ℕ) → Valid cpu → (cpu.cpl == 0) ≡ true → only 0xE005003F c ≡ true → bit c 4 ≡ true → is_cr0_allowed cpu value c ≡ true → Valid (with_cr0 cpu c)
valid_cr0 cpu value c valid z known et allowed =
    let r = rules_of cpu valid in
    let g = allowed_parts _ _ _ _ _ allowed in
    let active : Bool = lme cpu && bit c 31 in
    let lma10 : bit (with_lma cpu.efer active) 10 ≡ active = bit-lma cpu.efer active in
    let lme8 : bit (with_lma cpu.efer active) 8 ≡ lme cpu = bit-lme cpu.efer active in
    let upper = left _ _ r.efer_ in
    let t = turned (lme cpu) (pg cpu) (bit c 31) (lma cpu) (seg_l cpu.cs) (pae cpu) (has_small_tss cpu) (right _ _ upper) (right _ _ r.efer_) g.enters g.stays in
    let same : bit (with_lma cpu.efer active) 10 && seg_l cpu.cs ≡ is_long cpu = rw lma10 t.long in
    let follows : bit (with_lma cpu.efer active) 10 ≡ bit (with_lma cpu.efer active) 8 && bit c 31 = rw (lma10, lme8) refl in
    let matches : (if bit (with_lma cpu.efer active) 8 && bit c 31 then bit (with_lma cpu.efer active) 10 else not (bit (with_lma cpu.efer active) 10)) ≡ true = same-test (bit (with_lma cpu.efer active) 10) (bit (with_lma cpu.efer active) 8 && bit c 31) follows in
    let pae_ : needs (bit (with_lma cpu.efer active) 10) (pae cpu) ≡ true = rw lma10 t.pae_ in
    valid_by (with_cr0 cpu c) (record {
      flags = r.flags;
      cr0_ = both _ _ (both _ _ (both _ _ known et) g.paged) g.cached;
      cr4_ = r.cr4_;
      efer_ = both _ _ (both _ _ (only-lma cpu.efer active (left _ _ upper)) matches) pae_;
      paging = r.paging;
      attrs = r.attrs;
      low = r.low;
      bases = let b = r.bases in record { fs_ = b.fs_; gs_ = b.gs_; ldtr_ = b.ldtr_; tr_ = b.tr_; gdtr_ = b.gdtr_; idtr_ = b.idtr_; kgs_ = b.kgs_ };
      level = level-0 cpu.cpl (bit c 0) z (left _ _ r.level);
      code = rw same r.code;
      pointer = rw same r.pointer;
    })

-- a write of CR0 that leaves paging as it is
same_paging : (cpu : Cpu) (c : ℕ) → Valid cpu → (cpu.cpl == 0) ≡ true → only 0xE005003F c ≡ true → bit c 4 ≡ true → bit c 31 ≡ pg cpu → (pe cpu ≡ true → bit c 0 ≡ true) → bit c 29 ≡ bit cpu.cr0 29 → bit c 30 ≡ bit cpu.cr0 30 → Valid (record cpu { cr0 = c })
same_paging cpu c valid z known et p e nw cd =
    let r = rules_of cpu valid in
    let c3 = left _ _ r.cr0_ in
    let paged : needs (bit c 31) (bit c 0) ≡ true = rw p (needs-more (pg cpu) (pe cpu) (bit c 0) e (right _ _ c3)) in
    let cached : needs (bit c 29) (bit c 30) ≡ true = rw (nw, cd) (right _ _ r.cr0_) in
    valid_by (record cpu { cr0 = c }) (record {
      flags = r.flags;
      cr0_ = both _ _ (both _ _ (both _ _ known et) paged) cached;
      cr4_ = r.cr4_;
      efer_ = rw p r.efer_;
      paging = r.paging;
      attrs = r.attrs;
      low = r.low;
      bases = let b = r.bases in record { fs_ = b.fs_; gs_ = b.gs_; ldtr_ = b.ldtr_; tr_ = b.tr_; gdtr_ = b.gdtr_; idtr_ = b.idtr_; kgs_ = b.kgs_ };
      level = level-0 cpu.cpl (bit c 0) z (left _ _ r.level);
      code = r.code;
      pointer = r.pointer;
    })

-- LMSW: the bits of the number are the lowest four, and of CR0 all but three stay
status : ℕ → ℕ → ℕ
status cr0 value = bit_or (bit_and cr0 (2 ^ 64 - 1 - 0xE)) (bit_and value 0xF)

only-status : (cr0 value : ℕ) → only 0xE005003F cr0 ≡ true → only 0xE005003F (status cr0 value) ≡ true
unfolding status
only-status cr0 value h = is-zero _ _ (and_or_apart (2 ^ 64 - 1 - 0xE005003F) (bit_and cr0 (2 ^ 64 - 1 - 0xE)) (bit_and value 0xF) (and_apart value 0xF (2 ^ 64 - 1 - 0xE005003F) refl) ∙ and_within cr0 (2 ^ 64 - 1 - 0xE) (2 ^ 64 - 1 - 0xE005003F) refl) h

bit-status : (cr0 value k : ℕ) → bit_at (2 ^ 64 - 1 - 0xE) k ≡ 1 → bit_at 0xF k ≡ 0 → bit (status cr0 value) k ≡ bit cr0 k
unfolding status
bit-status cr0 value k e f = bit_left (bit_and cr0 (2 ^ 64 - 1 - 0xE)) (bit_and value 0xF) k (no-bit value 0xF k f) ∙ bit_kept cr0 (2 ^ 64 - 1 - 0xE) k e

pe-status : (cr0 value : ℕ) → bit cr0 0 ≡ true → bit (status cr0 value) 0 ≡ true
unfolding status
pe-status cr0 value h = bit_joined (bit_and cr0 (2 ^ 64 - 1 - 0xE)) (bit_and value 0xF) 0 (bit_kept cr0 (2 ^ 64 - 1 - 0xE) 0 refl ∙ h)

pub valid_status_word : (cpu : Cpu) (value : ℕ) → Valid cpu → (cpu.cpl == 0) ≡ true → Valid (with_status_word cpu value)
unfolding status
valid_status_word cpu value valid z =
    let r = rules_of cpu valid in
    let c3 = left _ _ r.cr0_ in
    let c2 = left _ _ c3 in
    same_paging cpu (status cpu.cr0 value) valid z (only-status cpu.cr0 value (left _ _ c2)) (bit-status cpu.cr0 value 4 refl refl ∙ right _ _ c2) (bit-status cpu.cr0 value 31 refl refl) (pe-status cpu.cr0 value) (bit-status cpu.cr0 value 29 refl refl) (bit-status cpu.cr0 value 30 refl refl)

-- CLTS
pub valid_without_ts : (cpu : Cpu) → Valid cpu → (cpu.cpl == 0) ≡ true → Valid (without_ts cpu)
valid_without_ts cpu valid z =
    let r = rules_of cpu valid in
    let c3 = left _ _ r.cr0_ in
    let c2 = left _ _ c3 in
    let m : ℕ = 2 ^ 64 - 1 - 8 in
    let known : only 0xE005003F (bit_and cpu.cr0 (2 ^ 64 - 1 - 8)) ≡ true = is-zero _ _ (and_within cpu.cr0 (2 ^ 64 - 1 - 8) (2 ^ 64 - 1 - 0xE005003F) refl) (left _ _ c2) in
    same_paging cpu (bit_and cpu.cr0 (2 ^ 64 - 1 - 8)) valid z known (bit_kept cpu.cr0 (2 ^ 64 - 1 - 8) 4 refl ∙ right _ _ c2) (bit_kept cpu.cr0 (2 ^ 64 - 1 - 8) 31 refl) (λ h. bit_kept cpu.cr0 (2 ^ 64 - 1 - 8) 0 refl ∙ h) (bit_kept cpu.cr0 (2 ^ 64 - 1 - 8) 29 refl) (bit_kept cpu.cr0 (2 ^ 64 - 1 - 8) 30 refl)

-- ---- MOV to a control register

valid_cr2 : (cpu : Cpu) (value : ℕ) → Valid cpu → Valid (record cpu { cr2 = value })
unfolding broken
valid_cr2 cpu value h = h

valid_paging : (cpu : Cpu) (cr3 cr8 : ℕ) → Valid cpu → nat_lt cr3 (2 ^ 40) ≡ true → nat_le cr8 15 ≡ true → Valid (record cpu { cr3 = cr3; cr8 = cr8 })
valid_paging cpu cr3 cr8 valid g k =
    let r = rules_of cpu valid in
    valid_by (record cpu { cr3 = cr3; cr8 = cr8 }) (record {
      flags = r.flags;
      cr0_ = r.cr0_;
      cr4_ = r.cr4_;
      efer_ = r.efer_;
      paging = both _ _ g k;
      attrs = r.attrs;
      low = r.low;
      bases = let b = r.bases in record { fs_ = b.fs_; gs_ = b.gs_; ldtr_ = b.ldtr_; tr_ = b.tr_; gdtr_ = b.gdtr_; idtr_ = b.idtr_; kgs_ = b.kgs_ };
      level = r.level;
      code = r.code;
      pointer = r.pointer;
    })

valid_cr4 : (cpu : Cpu) (value : ℕ) → Valid cpu → is_cr4_allowed cpu value ≡ true → Valid (record cpu { cr4 = value })
valid_cr4 cpu value valid g =
    let r = rules_of cpu valid in
    let known : only 0x3006FC value ≡ true = left (only 0x3006FC value) (needs (lma cpu) (bit value 5)) g in
    let extended : needs (lma cpu) (bit value 5) ≡ true = right (only 0x3006FC value) (needs (lma cpu) (bit value 5)) g in
    let matches : only 0xD01 cpu.efer && (if lme cpu && pg cpu then lma cpu else not (lma cpu)) ≡ true = left _ (needs (lma cpu) (pae cpu)) r.efer_ in
    valid_by (record cpu { cr4 = value }) (record {
      flags = r.flags;
      cr0_ = r.cr0_;
      cr4_ = known;
      efer_ = both _ _ matches extended;
      paging = r.paging;
      attrs = r.attrs;
      low = r.low;
      bases = let b = r.bases in record { fs_ = b.fs_; gs_ = b.gs_; ldtr_ = b.ldtr_; tr_ = b.tr_; gdtr_ = b.gdtr_; idtr_ = b.idtr_; kgs_ = b.kgs_ };
      level = r.level;
      code = r.code;
      pointer = r.pointer;
    })

written_cr0 : (cpu : Cpu) (value : ℕ) → Valid cpu → (cpu.cpl == 0) ≡ true → EachGives Valid (cr0_written cpu value (cr0_of value))
unfolding cr0_written
written_cr0 cpu value valid z = asked_then Valid _ _ (λ u. guarded Valid cpu _ _ (λ g. valid_cr0 cpu value (cr0_of value) valid z (only-cr0 value) (et-cr0 value) g))

pub valid_control : (cpu : Cpu) (c : ControlRegister) (value : ℕ) → Valid cpu → (cpu.cpl == 0) ≡ true → EachGives Valid (control_written cpu c value)
unfolding control_written
valid_control cpu Cr0 value valid z = written_cr0 cpu value valid z
valid_control cpu Cr2 value valid z = valid_cr2 cpu value valid
valid_control cpu Cr3 value valid z = guarded Valid cpu _ _ (λ g. valid_paging cpu value cpu.cr8 valid g (right _ _ (rules_of cpu valid).paging))
valid_control cpu Cr4 value valid z = guarded Valid cpu _ _ (λ g. valid_cr4 cpu value valid g)
valid_control cpu Cr8 value valid z = guarded Valid cpu _ _ (λ g. valid_paging cpu cpu.cr3 value valid (left _ _ (rules_of cpu valid).paging) g)
