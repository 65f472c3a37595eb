use Rattle.std.proofs.Common.{ℕ, ◌≡◌, ◌<◌, ◌≤◌, ◌+◌, ◌%◌, ◌^◌, ◌⊎◌, ◌↔◌, Bool, true, false, not, ◌&&◌, ◌||◌, nat_lt, nat_le, Result, Ok, Err, refl, sym, ap, ◌∙◌, arith, if◌then◌else◌, inl, inr}
use Rattle.std.proofs.lemmas.Bool.Decides.{nat_tests}
use Rattle.xe_base.specs.Bits.{bit, canonical}
use Rattle.xe_base.specs.Exceptions.{exception, stack_fault, general_protection}
use Rattle.xe_base.specs.Registers.{segment}
use Rattle.xe_base.specs.State.{mode_of, is_long, is_canonical, seg_db, seg_l, lma, pe}
use Rattle.xe_base.specs.declared.access.Fault.{Fault}
use Rattle.xe_base.specs.declared.cpu.Cpu.{Cpu}
use Rattle.xe_base.specs.declared.cpu.Mode.{Mode}
use Rattle.xe_base.specs.declared.cpu.Mode.TheVariants.{Real, Protected, Compat, Long}
use Rattle.xe_base.specs.declared.segment.Seg.{Seg}
use Rattle.xe_base.specs.declared.segment.SegName.{SegName}
use Rattle.xe_base.specs.declared.segment.SegName.TheVariants.{Es, Cs, Ss, Ds, Fs, Gs}
use Rattle.xe_seg.specs.Accesses.{access, access_in, counted_base, linear_address, segment_vector, protected_access, segment_fault, protection_fault, is_inside}
use Rattle.xe_seg.specs.Attributes.{is_present, is_expand_down, allows}
use Rattle.xe_seg.specs.Each.{each}
use Rattle.xe_seg.specs.Passing.{LiesIn, Passes, ProtectedAccesses, RealAccesses, LongAccesses, CanonicalAddresses, FailedAccesses, TargetsPass}
use Rattle.xe_seg.specs.Targets.{target, is_target}
use Rattle.xe_seg.proofs.CanonicalLaws.{ends, low_end, high_end}
use Rattle.xe_seg.proofs.EachLaws.{each_decides, each_at}

pub false_true : false ≡ true → ⊥
false_true h = cc

pub true_false : true ≡ false → ⊥
true_false h = cc

-- the check of a mode
in_mode : (m : Mode) (cpu : Cpu) (seg : SegName) (offset n : ℕ) (write : Bool) → mode_of cpu ≡ m → access cpu seg offset n write ≡ access_in m cpu seg offset n write
unfolding access
in_mode m cpu seg offset n write h = ap (λ k. access_in k cpu seg offset n write) h

-- ---- one test, and a chain of three

one_passes : (a : Bool) (f : Fault) (x : ℕ) → (if not a then Err f else Ok x) ≡ Ok x → a ≡ true
one_passes true f x h = refl
one_passes false f x h = cc

one_holds : (a : Bool) (f : Fault) (x : ℕ) → a ≡ true → (if not a then Err f else Ok x) ≡ Ok x
one_holds true f x h = refl
one_holds false f x h = cc

abbrev chain : Bool → Bool → Bool → Fault → Fault → ℕ → Result ℕ Fault
chain a b e f g x = if not a then Err f else (if not b then Err g else (if not e then Err f else Ok x))

chain_passes : (a b e : Bool) (f g : Fault) (x : ℕ) → chain a b e f g x ≡ Ok x → (a ≡ true) × (b ≡ true) × (e ≡ true)
chain_passes true true true f g x h = (refl, refl, refl)
chain_passes true true false f g x h = cc
chain_passes true false e f g x h = cc
chain_passes false b e f g x h = cc

chain_holds : (a b e : Bool) (f g : Fault) (x : ℕ) → a ≡ true → b ≡ true → e ≡ true → chain a b e f g x ≡ Ok x
chain_holds true true true f g x p q r = refl
chain_holds true true false f g x p q r = cc
chain_holds true false e f g x p q r = cc
chain_holds false b e f g x p q r = cc

-- ---- canonical addresses

pub canonical_addresses : CanonicalAddresses
canonical_addresses cpu x small = ((λ h. ends x h), (λ h. elim h [ inl l ↦ low_end x l | inr u ↦ high_end x u small ]))

-- ---- tests and what they tell

le_tells : (a b : ℕ) → nat_le a b ≡ true → a ≤ b
le_tells a b h = grind (arith, nat_tests)

le_told : (a b : ℕ) → a ≤ b → nat_le a b ≡ true
le_told a b h = grind (arith, nat_tests)

between_tells : (low high x : ℕ) → (nat_lt low x && nat_le x high) ≡ true → (low < x) × (x ≤ high)
between_tells low high x h = grind (arith, nat_tests)

between_told : (low high x : ℕ) → low < x → x ≤ high → (nat_lt low x && nat_le x high) ≡ true
between_told low high x l h = grind (arith, nat_tests)

-- ---- real mode

pub real_accesses : RealAccesses
real_accesses cpu seg offset n write h =
    let e = in_mode Real cpu seg offset n write h in
    let test : ℕ → Bool = λ i. nat_le (offset + i) (segment cpu seg).limit in
    let f = segment_fault cpu seg in
    let la = linear_address cpu seg offset in (
      (λ ok i l. le_tells (offset + i) (segment cpu seg).limit (each_at n test i (one_passes (each n test) f la (sym e ∙ ok)) l)),
      (λ all. e ∙ one_holds (each n test) f la ((each_decides n test).1 (λ k l. le_told (offset + k) (segment cpu seg).limit (all k l)))),
    )

-- ---- 64-bit mode

long_of : (a b c : Bool) → (if a then (if b then Long else Compat) else (if c then Protected else Real)) ≡ Long → (a && b) ≡ true
long_of true true c h = refl
long_of true false c h = cc
long_of false b true h = cc
long_of false b false h = cc

pub is_long_in : (cpu : Cpu) → mode_of cpu ≡ Long → is_long cpu ≡ true
is_long_in cpu h = long_of (lma cpu) (seg_l cpu.cs) (pe cpu) h

wide : (cpu : Cpu) (seg : SegName) (offset : ℕ) → is_long cpu ≡ true → linear_address cpu seg offset ≡ (counted_base cpu seg + offset) % 2 ^ 64
wide cpu seg offset h = ap (λ (b : Bool). (counted_base cpu seg + offset) % 2 ^ (if b then 64 else 32)) h

wrapped_twice : (b o i : ℕ) → (b + (o + i)) % 2 ^ 64 ≡ ((b + o) % 2 ^ 64 + i) % 2 ^ 64
wrapped_twice b o i = omega arith

along : (cpu : Cpu) (seg : SegName) (offset i : ℕ) → is_long cpu ≡ true → linear_address cpu seg (offset + i) ≡ (linear_address cpu seg offset + i) % 2 ^ 64
along cpu seg offset i h =
    wide cpu seg (offset + i) h ∙ (wrapped_twice (counted_base cpu seg) offset i ∙ ap (λ (x : ℕ). (x + i) % 2 ^ 64) (sym (wide cpu seg offset h)))

below_64 : (x : ℕ) → x % 2 ^ 64 < 2 ^ 64
below_64 x = omega arith

pub long_accesses : LongAccesses
long_accesses cpu seg offset n write h =
    let e = in_mode Long cpu seg offset n write h in
    let test : ℕ → Bool = λ i. is_canonical cpu (linear_address cpu seg (offset + i)) in
    let f = segment_fault cpu seg in
    let la = linear_address cpu seg offset in
    let long = is_long_in cpu h in
    let same = λ (i : ℕ). ap (λ (x : ℕ). is_canonical cpu x) (along cpu seg offset i long) in (
      (λ ok i l. (canonical_addresses cpu ((la + i) % 2 ^ 64) (below_64 (la + i))).0 (sym (same i) ∙ each_at n test i (one_passes (each n test) f la (sym e ∙ ok)) l)),
      (λ all. e ∙ one_holds (each n test) f la ((each_decides n test).1 (λ k l. same k ∙ (canonical_addresses cpu ((la + k) % 2 ^ 64) (below_64 (la + k))).1 (all k l)))),
    )

-- ---- protected and compatibility mode

inside_lies : (down db : Bool) (limit o : ℕ) → (if down then (nat_lt limit o && nat_le o (if db then 0xFFFFFFFF else 0xFFFF)) else nat_le o limit) ≡ true →
    (down ≡ false → o ≤ limit) × (down ≡ true → limit < o) × (down ≡ true → o < 2 ^ (if db then 32 else 16))
inside_lies false db limit o h = ((λ e. le_tells o limit h), (λ e. absurd (false_true e)), (λ e. absurd (false_true e)))
inside_lies true true limit o h = let b = between_tells limit 0xFFFFFFFF o h in ((λ e. absurd (true_false e)), (λ e. b.0), (λ e. omega (arith, b.1)))
inside_lies true false limit o h = let b = between_tells limit 0xFFFF o h in ((λ e. absurd (true_false e)), (λ e. b.0), (λ e. omega (arith, b.1)))

lies_inside : (down db : Bool) (limit o : ℕ) → (down ≡ false → o ≤ limit) → (down ≡ true → limit < o) → (down ≡ true → o < 2 ^ (if db then 32 else 16)) →
    (if down then (nat_lt limit o && nat_le o (if db then 0xFFFFFFFF else 0xFFFF)) else nat_le o limit) ≡ true
lies_inside false db limit o up low wide = le_told o limit (up refl)
lies_inside true true limit o up low wide = let w = wide refl in between_told limit 0xFFFFFFFF o (low refl) (omega (arith, w))
lies_inside true false limit o up low wide = let w = wide refl in between_told limit 0xFFFF o (low refl) (omega (arith, w))

lies : (s : Seg) (o : ℕ) → is_inside s o ≡ true → LiesIn s o
lies s o h = let p = inside_lies (is_expand_down s.attr) (seg_db s) s.limit o h in record { up = p.0; down = p.1; width = p.2 }

inside : (s : Seg) (o : ℕ) → LiesIn s o → is_inside s o ≡ true
inside s o l = lies_inside (is_expand_down s.attr) (seg_db s) s.limit o l.up l.down l.width

allowed : (code one write : Bool) → (if write then (not code && one) else (not code || one)) ≡ true →
    (write ≡ true → code ≡ false) × (write ≡ true → one ≡ true) × (write ≡ false → code ≡ true → one ≡ true)
allowed true true true h = absurd (false_true h)
allowed true false true h = absurd (false_true h)
allowed false true true h = ((λ e. refl), (λ e. refl), (λ e k. refl))
allowed false false true h = absurd (false_true h)
allowed true true false h = ((λ e. absurd (false_true e)), (λ e. refl), (λ e k. refl))
allowed true false false h = absurd (false_true h)
allowed false true false h = ((λ e. refl), (λ e. refl), (λ e k. refl))
allowed false false false h = ((λ e. refl), (λ e. absurd (false_true e)), (λ e k. absurd (false_true k)))

allowing : (code one write : Bool) → (write ≡ true → code ≡ false) → (write ≡ true → one ≡ true) → (write ≡ false → code ≡ true → one ≡ true) →
    (if write then (not code && one) else (not code || one)) ≡ true
allowing true one true p q r = absurd (true_false (p refl))
allowing false one true p q r = q refl
allowing true one false p q r = r refl refl
allowing false one false p q r = refl

protected_passes : (cpu : Cpu) (seg : SegName) (offset n : ℕ) (write : Bool) →
    (protected_access cpu seg offset n write ≡ Ok (linear_address cpu seg offset)) ↔ Passes (segment cpu seg) offset n write
protected_passes cpu seg offset n write =
    let s = segment cpu seg in
    let test : ℕ → Bool = λ i. is_inside s (offset + i) in
    let f = segment_fault cpu seg in
    let g = protection_fault cpu in
    let la = linear_address cpu seg offset in (
      (λ ok.
          let p = chain_passes (is_present s.attr) (allows s.attr write) (each n test) f g la ok in
          let a = allowed (bit s.attr 3) (bit s.attr 1) write p.1 in
          record { present = p.0; data_written = a.0; writable = a.1; readable = a.2; inside = λ i l. lies s (offset + i) (each_at n test i p.2 l) }),
      (λ p. chain_holds (is_present s.attr) (allows s.attr write) (each n test) f g la p.present
          (allowing (bit s.attr 3) (bit s.attr 1) write p.data_written p.writable p.readable)
          ((each_decides n test).1 (λ k l. inside s (offset + k) (p.inside k l)))),
    )

pub protected_accesses : ProtectedAccesses
protected_accesses cpu seg offset n write h =
    let w = protected_passes cpu seg offset n write in
    elim h [
      | inl p ↦ let e = in_mode Protected cpu seg offset n write p in ((λ ok. w.0 (sym e ∙ ok)), (λ q. e ∙ w.1 q))
      | inr p ↦ let e = in_mode Compat cpu seg offset n write p in ((λ ok. w.0 (sym e ∙ ok)), (λ q. e ∙ w.1 q))
    ]

-- ---- what fails

one_fails : (a : Bool) (f r : Fault) (x : ℕ) → (if not a then Err f else Ok x) ≡ Err r → r ≡ f
one_fails true f r x h = cc
one_fails false f r x h = cc

chain_fails : (a b e : Bool) (f g r : Fault) (x : ℕ) → chain a b e f g x ≡ Err r → (r ≡ f) ⊎ (r ≡ g)
chain_fails true true true f g r x h = cc
chain_fails true true false f g r x h = inl (cc)
chain_fails true false e f g r x h = inr (cc)
chain_fails false b e f g r x h = inl (cc)

failed_in : (m : Mode) (cpu : Cpu) (seg : SegName) (offset n : ℕ) (write : Bool) (r : Fault) → access_in m cpu seg offset n write ≡ Err r →
    (r ≡ segment_fault cpu seg) ⊎ (r ≡ protection_fault cpu)
failed_in Real cpu seg offset n write r h =
    inl (one_fails (each n (λ i. nat_le (offset + i) (segment cpu seg).limit)) (segment_fault cpu seg) r (linear_address cpu seg offset) h)
failed_in Protected cpu seg offset n write r h =
    chain_fails (is_present (segment cpu seg).attr) (allows (segment cpu seg).attr write) (each n (λ i. is_inside (segment cpu seg) (offset + i)))
    (segment_fault cpu seg) (protection_fault cpu) r (linear_address cpu seg offset) h
failed_in Compat cpu seg offset n write r h =
    chain_fails (is_present (segment cpu seg).attr) (allows (segment cpu seg).attr write) (each n (λ i. is_inside (segment cpu seg) (offset + i)))
    (segment_fault cpu seg) (protection_fault cpu) r (linear_address cpu seg offset) h
failed_in Long cpu seg offset n write r h =
    inl (one_fails (each n (λ i. is_canonical cpu (linear_address cpu seg (offset + i)))) (segment_fault cpu seg) r (linear_address cpu seg offset) h)

by_name : (m : Mode) (seg : SegName) (r : Fault) → r ≡ exception m (segment_vector seg) 0 →
    (r ≡ exception m general_protection 0) ⊎ ((seg ≡ Ss) × (r ≡ exception m stack_fault 0))
by_name m Es r h = inl h
by_name m Cs r h = inl h
by_name m Ss r h = inr (refl, h)
by_name m Ds r h = inl h
by_name m Fs r h = inl h
by_name m Gs r h = inl h

pub failed_accesses : FailedAccesses
failed_accesses cpu seg offset n write r h =
    elim (failed_in (mode_of cpu) cpu seg offset n write r (sym (in_mode (mode_of cpu) cpu seg offset n write refl) ∙ h)) [
      | inl f ↦ by_name (mode_of cpu) seg r f
      | inr g ↦ inl g
    ]

-- ---- targets

ends_well : (t : Bool) (f : Fault) → (if t then Ok (tt {0}) else Err f) ≡ Ok (tt {0}) → t ≡ true
ends_well true f h = refl
ends_well false f h = cc

goes_well : (t : Bool) (f : Fault) → t ≡ true → (if t then Ok (tt {0}) else Err f) ≡ Ok (tt {0})
goes_well true f h = refl
goes_well false f h = absurd (false_true h)

target_tells : (long canonical : Bool) (offset limit : ℕ) → (if long then canonical else nat_le offset limit) ≡ true → (long ≡ true → canonical ≡ true) × (long ≡ false → offset ≤ limit)
target_tells true canonical offset limit h = ((λ e. h), (λ e. absurd (true_false e)))
target_tells false canonical offset limit h = ((λ e. absurd (false_true e)), (λ e. le_tells offset limit h))

target_told : (long canonical : Bool) (offset limit : ℕ) → (long ≡ true → canonical ≡ true) → (long ≡ false → offset ≤ limit) → (if long then canonical else nat_le offset limit) ≡ true
target_told true canonical offset limit p q = p refl
target_told false canonical offset limit p q = le_told offset limit (q refl)

pub targets_pass : TargetsPass
unfolding target
targets_pass cpu cs offset small =
    let long = is_long (record cpu { cs = cs }) in
    let c = is_canonical cpu offset in
    let w = canonical_addresses cpu offset small in
    let f = protection_fault cpu in (
      (λ ok. let t = target_tells long c offset cs.limit (ends_well (is_target cpu cs offset) f ok) in record { long = λ e. w.0 (t.0 e); other = t.1 }),
      (λ r. goes_well (is_target cpu cs offset) f (target_told long c offset cs.limit (λ e. w.1 (r.long e)) r.other)),
    )
