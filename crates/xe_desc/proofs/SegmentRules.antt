use Rattle.std.proofs.Common.{ℕ, ◌≡◌, ◌<◌, ◌^◌, Bool, true, false, not, ◌&&◌, nat_lt, if◌then◌else◌, Option, Some, None, refl, arith}
use Rattle.std.proofs.lemmas.Bool.{false≢true}
use Rattle.std.proofs.lemmas.Bool.Decides.{nat_tests}
use Rattle.xe_base.specs.Bits.{canonical}
use Rattle.xe_base.specs.Registers.{next_rip, segment}
use Rattle.xe_base.specs.State.{Valid, broken, segments_are_valid, attr_is_valid, is_base}
use Rattle.xe_base.specs.declared.cpu.Cpu.{Cpu}
use Rattle.xe_base.specs.declared.segment.Seg.{Seg}
use Rattle.xe_base.specs.declared.segment.SegName.{SegName}
use Rattle.xe_base.specs.declared.segment.SegName.TheVariants.{Es, Cs, Ss, Ds, Fs, Gs}
use Rattle.xe_ctx.proofs.Rules.{keep}
use Rattle.xe_desc.specs.Load.{with_segment}
use Rattle.xe_desc.specs.Task.{with_ldtr, with_tr}

-- A valid state with another segment register stays valid.

-- a segment of 32 bits that any register can hold
pub record Fits (s : Seg) : Type 0 where
  pub attr : attr_is_valid s ≡ true
  pub base : s.base < 2 ^ 32

-- one that LDTR and TR can hold
pub record FitsSystem (cpu : Cpu) (s : Seg) : Type 0 where
  pub attr : attr_is_valid s ≡ true
  pub base : is_base cpu s.base ≡ true

low-base : (x : ℕ) → x < 2 ^ 32 → nat_lt x (2 ^ 32) ≡ true
low-base x h = grind (arith, nat_tests)

low-canonical : (x : ℕ) → x < 2 ^ 32 → canonical 48 x ≡ true
low-canonical x h = grind (arith, nat_tests)

-- ---- one of several tests that hold

before : (a a' b : Bool) → (a ≡ true → a' ≡ true) → (a && b) ≡ true → (a' && b) ≡ true
before true true b f h = h
before true false b f h = absurd (false≢true (f refl))
before false a' b f h = absurd (false≢true h)

last : (a b b' : Bool) → b' ≡ true → (a && b) ≡ true → (a && b') ≡ true
last true b b' p h = p
last false b b' p h = h

front : (a b : Bool) → (a && b) ≡ true → a ≡ true
front true b h = refl
front false b h = h

back : (a b : Bool) → (a && b) ≡ true → b ≡ true
back true b h = h
back false b h = absurd (false≢true h)

both : (a a' b b' : Bool) → (a ≡ true → a' ≡ true) → (b ≡ true → b' ≡ true) → (a && b) ≡ true → (a' && b') ≡ true
both a a' b b' f g h = last a' b b' (g (back a b h)) (before a a' b f h)

-- ---- the rule of segments among the others

six : (s s' : Bool) (rest : Option ℕ) → (s ≡ true → s' ≡ true) → (if not s then Some 6 else rest) ≡ None → (if not s' then Some 6 else rest) ≡ None
six true true rest f h = h
six true false rest f h = absurd (false≢true (f refl))
six false s' rest f h = cc

passed : (a : Bool) (n : ℕ) (x : Option ℕ) → (if not a then Some n else x) ≡ None → a ≡ true
passed true n x h = refl
passed false n x h = cc

onward : (a : Bool) (n : ℕ) (x : Option ℕ) → (if not a then Some n else x) ≡ None → x ≡ None
onward true n x h = h
onward false n x h = cc

sixth : (a b c d e s s' : Bool) (rest : Option ℕ) → (s ≡ true → s' ≡ true) →
    (if not a then Some 1 else (if not b then Some 2 else (if not c then Some 3 else (if not d then Some 4 else (if not e then Some 5 else (if not s then Some 6 else rest)))))) ≡ None →
    (if not a then Some 1 else (if not b then Some 2 else (if not c then Some 3 else (if not d then Some 4 else (if not e then Some 5 else (if not s' then Some 6 else rest)))))) ≡ None
sixth a b c d e s s' rest f h = keep a 1 _ _ (keep b 2 _ _ (keep c 3 _ _ (keep d 4 _ _ (keep e 5 _ _ (six s s' rest f))))) h

sixth_holds : (a b c d e s : Bool) (rest : Option ℕ) →
    (if not a then Some 1 else (if not b then Some 2 else (if not c then Some 3 else (if not d then Some 4 else (if not e then Some 5 else (if not s then Some 6 else rest)))))) ≡ None → s ≡ true
sixth_holds a b c d e s rest h = passed s 6 rest (onward e 5 _ (onward d 4 _ (onward c 3 _ (onward b 2 _ (onward a 1 _ h)))))

segments_hold : (c : Cpu) → Valid c → segments_are_valid c ≡ true
unfolding broken
segments_hold c h = sixth_holds _ _ _ _ _ _ _ h

-- the attributes that a register has
pub attr_holds : (c : Cpu) (seg : SegName) → Valid c → attr_is_valid (segment c seg) ≡ true
attr_holds c Es h = front _ _ (front _ _ (front _ _ (front _ _ (front _ _ (front _ _ (front _ _ (front _ _ (front _ _ (segments_hold c h)))))))))
attr_holds c Cs h = back _ _ (front _ _ (front _ _ (front _ _ (front _ _ (front _ _ (front _ _ (front _ _ (front _ _ (segments_hold c h)))))))))
attr_holds c Ss h = back _ _ (front _ _ (front _ _ (front _ _ (front _ _ (front _ _ (front _ _ (front _ _ (segments_hold c h))))))))
attr_holds c Ds h = back _ _ (front _ _ (front _ _ (front _ _ (front _ _ (front _ _ (front _ _ (segments_hold c h)))))))
attr_holds c Fs h = back _ _ (front _ _ (front _ _ (front _ _ (front _ _ (front _ _ (segments_hold c h))))))
attr_holds c Gs h = back _ _ (front _ _ (front _ _ (front _ _ (front _ _ (segments_hold c h)))))

pub ldtr_base_holds : (c : Cpu) → Valid c → is_base c c.ldtr.base ≡ true
ldtr_base_holds c h = back _ _ (front _ _ (front _ _ (front _ _ (front _ _ (back _ _ (segments_hold c h))))))

-- ---- each register

module _ (c : Cpu) (s : Seg) where
  es_fits : Fits s → segments_are_valid c ≡ true → segments_are_valid (record c { es = s }) ≡ true
  es_fits f h =
      let a = f.attr in
      let l = low-base s.base f.base in
      before _ _ _ (both _ _ _ _ (before _ _ _ (before _ _ _ (before _ _ _ (before _ _ _ (before _ _ _ (before _ _ _ (before _ _ _ (λ _. a)))))))) (before _ _ _ (before _ _ _ (before _ _ _ (λ _. l))))) h

  es_valid : Fits s → Valid c → Valid (record c { es = s })
  unfolding broken
  es_valid f h = sixth _ _ _ _ _ _ _ _ (es_fits f) h

  ss_fits : Fits s → segments_are_valid c ≡ true → segments_are_valid (record c { ss = s }) ≡ true
  ss_fits f h =
      let a = f.attr in
      let l = low-base s.base f.base in
      before _ _ _ (both _ _ _ _ (before _ _ _ (before _ _ _ (before _ _ _ (before _ _ _ (before _ _ _ (last _ _ _ a)))))) (before _ _ _ (last _ _ _ l))) h

  ss_valid : Fits s → Valid c → Valid (record c { ss = s })
  unfolding broken
  ss_valid f h = sixth _ _ _ _ _ _ _ _ (ss_fits f) h

  ds_fits : Fits s → segments_are_valid c ≡ true → segments_are_valid (record c { ds = s }) ≡ true
  ds_fits f h =
      let a = f.attr in
      let l = low-base s.base f.base in
      before _ _ _ (both _ _ _ _ (before _ _ _ (before _ _ _ (before _ _ _ (before _ _ _ (last _ _ _ a))))) (last _ _ _ l)) h

  ds_valid : Fits s → Valid c → Valid (record c { ds = s })
  unfolding broken
  ds_valid f h = sixth _ _ _ _ _ _ _ _ (ds_fits f) h

  fs_fits : Fits s → segments_are_valid c ≡ true → segments_are_valid (record c { fs = s }) ≡ true
  fs_fits f h =
      let a = f.attr in
      let k = low-canonical s.base f.base in
      both _ _ _ _ (before _ _ _ (before _ _ _ (before _ _ _ (before _ _ _ (last _ _ _ a))))) (before _ _ _ (before _ _ _ (before _ _ _ (before _ _ _ (before _ _ _ (before _ _ _ (λ _. k))))))) h

  fs_valid : Fits s → Valid c → Valid (record c { fs = s })
  unfolding broken
  fs_valid f h = sixth _ _ _ _ _ _ _ _ (fs_fits f) h

  gs_fits : Fits s → segments_are_valid c ≡ true → segments_are_valid (record c { gs = s }) ≡ true
  gs_fits f h =
      let a = f.attr in
      let k = low-canonical s.base f.base in
      both _ _ _ _ (before _ _ _ (before _ _ _ (before _ _ _ (last _ _ _ a)))) (before _ _ _ (before _ _ _ (before _ _ _ (before _ _ _ (before _ _ _ (last _ _ _ k)))))) h

  gs_valid : Fits s → Valid c → Valid (record c { gs = s })
  unfolding broken
  gs_valid f h = sixth _ _ _ _ _ _ _ _ (gs_fits f) h

  ldtr_fits : FitsSystem c s → segments_are_valid c ≡ true → segments_are_valid (with_ldtr c s) ≡ true
  ldtr_fits f h =
      let a = f.attr in
      let k = f.base in
      both _ _ _ _ (before _ _ _ (before _ _ _ (last _ _ _ a))) (before _ _ _ (before _ _ _ (before _ _ _ (before _ _ _ (last _ _ _ k))))) h

  pub ldtr_valid : FitsSystem c s → Valid c → Valid (with_ldtr c s)
  unfolding broken
  ldtr_valid f h = sixth _ _ _ _ _ _ _ _ (ldtr_fits f) h

  tr_fits : FitsSystem c s → segments_are_valid c ≡ true → segments_are_valid (with_tr c s) ≡ true
  tr_fits f h =
      let a = f.attr in
      let k = f.base in
      both _ _ _ _ (before _ _ _ (last _ _ _ a)) (before _ _ _ (before _ _ _ (before _ _ _ (last _ _ _ k)))) h

  pub tr_valid : FitsSystem c s → Valid c → Valid (with_tr c s)
  unfolding broken
  tr_valid f h = sixth _ _ _ _ _ _ _ _ (tr_fits f) h

-- behind an instruction
pub segment_valid : (c : Cpu) (seg : SegName) (s : Seg) (len : ℕ) → Fits s → Valid (record c { rip = next_rip c len }) → Valid (record (with_segment c seg s) { rip = next_rip (with_segment c seg s) len })
segment_valid c Es s len f h = es_valid (record c { rip = next_rip c len }) s f h
segment_valid c Cs s len f h = h
segment_valid c Ss s len f h = ss_valid (record c { rip = next_rip c len }) s f h
segment_valid c Ds s len f h = ds_valid (record c { rip = next_rip c len }) s f h
segment_valid c Fs s len f h = fs_valid (record c { rip = next_rip c len }) s f h
segment_valid c Gs s len f h = gs_valid (record c { rip = next_rip c len }) s f h
