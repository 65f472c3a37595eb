use Rattle.std.proofs.Common.{ℕ, ◌≡◌, ◌<◌, ◌≤◌, ◌+◌, ◌-◌, ◌*◌, ◌%◌, ◌^◌, ◌==◌, Bool, true, false, not, ◌&&◌, ◌||◌, nat_lt, Option, Some, None, Result, Ok, Err, IfOk, refl, ap, subst, arith, lit≤, if◌then◌else◌, inl, inr}
use Rattle.std.proofs.lemmas.Bool.Decides.{nat_tests}
use Rattle.std.proofs.lemmas.Bool.{or_cases, eqb-true}
use Rattle.std.proofs.lemmas.Nat.{pow_pos}
use Rattle.xe_base.specs.State.{Valid, is_long, lma, pe, seg_l, seg_db, mode_of, level_is_valid}
use Rattle.xe_base.specs.declared.access.Fault.{Fault}
use Rattle.xe_base.specs.declared.cpu.Cpu.{Cpu}
use Rattle.xe_base.specs.declared.cpu.CodeSize.TheVariants.{B16, B32, B64}
use Rattle.xe_base.specs.declared.cpu.Mode.TheVariants.{Real, Protected, Compat, Long}
use Rattle.xe_base.specs.declared.segment.Seg.{Seg}
use Rattle.xe_base.specs.declared.segment.SegName.{SegName}
use Rattle.xe_base.specs.declared.segment.SegName.TheVariants.{Ss}
use Rattle.xe_modrm.specs.Prefix.{is_64_bit}
use Rattle.xe_modrm.specs.declared.part.ModRm.{ModRm}
use Rattle.xe_opmap.specs.Encoding.{IsSize}
use Rattle.xe_opmap.specs.declared.insn.Insn.{Insn}
use Rattle.xe_opmap.specs.declared.row.Row.{Row}
use Rattle.xe_opmap.specs.declared.row.Row.TheVariants as row
use Rattle.xe_base.specs.Exceptions.{segment_not_present}
use Rattle.xe_seg.specs.Attributes.{is_code}
use Rattle.xe_seg.specs.Descriptors.{attr_of, s_of, present_of}
use Rattle.xe_seg.specs.Loads.{rpl_of, loaded, load, real_segment, selector_fault}
use Rattle.xe_seg.specs.Targets.{target, is_target}
use Rattle.xe_seg.specs.declared.descriptor.Descriptor.{Descriptor}
use Rattle.xe_seg.proofs.LoadLaws.{loads_keep_rules}
use Rattle.xe_ctx.specs.Finishes.{EachGives, IsSound}
use Rattle.xe_ctx.specs.Is.{Sight, Is}
use Rattle.xe_ctx.specs.Operand.{IsOf, operand_of}
use Rattle.xe_ctx.specs.Privilege.{is_real_mode}
use Rattle.xe_ctx.specs.Runs.{finished}
use Rattle.xe_ctx.specs.Stack.{stack_size, stack_register, with_stack_pointer, released, push}
use Rattle.xe_ctx.specs.Tree.{Tree, ◌>>=◌}
use Rattle.xe_ctx.specs.declared.operand.Operand.{Operand}
use Rattle.xe_ctx.specs.declared.operand.Operand.TheVariants.{Register, Memory}
use Rattle.xe_ctx.specs.declared.stop.End.{End}
use Rattle.xe_ctx.specs.declared.stop.Finish.{Finish}
use Rattle.xe_ctx.specs.declared.stop.Stop.{Stop}
use Rattle.xe_ctx.proofs.FinishLaws.{each_then, each_implies, gives_of}
use Rattle.xe_ctx.proofs.Tame.{Tame, tame_same, tame_register, asked_then, each_if}
use Rattle.xe_far.specs.Change.{Transfers}
use Rattle.xe_far.specs.CodeSegment.{or_raise, refused, may_call, may_run_at, mixes_sizes, check_called, called_segment, code_to_call, check_returned, code_to_return_to}
use Rattle.xe_far.specs.Outer.{lands, is_lost, without_lost, with_data_left, with_stack, return_with_stack}
use Rattle.xe_far.specs.Pointer.{pointer_of, load_pointer, pointer_at, pointer_or, far_pointer, pop_pointer}
use Rattle.xe_far.specs.Return.{real_return, return_on_stack, protected_return, far_return, retf_row, is_to_vm86, interrupt_return, iret_row}
use Rattle.xe_far.specs.Rows.{row_at, or_undefined, row_of, is_row}
use Rattle.xe_far.specs.Transfer.{goes_to, ends_at, push_return, real_jump, protected_jump, jump, jmpf_row, real_call, protected_call, call, callf_row}
use Rattle.xe_far.specs.declared.pointer.FarPointer.{FarPointer}
use Rattle.xe_flow.proofs.CalmRows.{fixed_popped}
use Rattle.xe_far.proofs.Arrival.{Fits, FitsLow, fits_same, fits_low_same, fits_left, fits_loaded, fits_real, below, moved, valid_moved, protection_on, level_fits, code_fits, target_below, target_tells, pointer_fits, Arrives, arrives, arrives_with}

-- ---- checks

-- what goes on after a check knows that it passed
each_raise : {T : Type 0} (P : T → Type 0) (r : Result T Fault) → ((x : T) → r ≡ Ok x → P x) → EachGives P (or_raise r)
unfolding or_raise
each_raise P (Ok x) h = h x refl
each_raise P (Err f) h = tt

raised_then : {A T : Type 0} (P : T → Type 0) (r : Result A Fault) (f : A → Tree T) → ((x : A) → r ≡ Ok x → EachGives P (f x)) → EachGives P (or_raise r >>= f)
raised_then P r f h = each_then P (λ x. r ≡ Ok x) (or_raise r) f (each_raise (λ x. r ≡ Ok x) r (λ x e. e)) h

-- ---- pointers

-- a selector of 16 bits, and an offset of n bytes
record IsPointer (n : ℕ) (p : FarPointer) : Type 0 where
  sel : p.sel < 2 ^ 16
  offset : p.offset < 2 ^ (8 * n)

cut_below : (x m : ℕ) → 0 < m → x % m < m
cut_below x m h = omega arith

is_pointer : (n offset sel : ℕ) → IsPointer n (pointer_of n offset sel)
is_pointer n offset sel = record { sel = cut_below sel (2 ^ 16) (lit≤ tt); offset = cut_below offset (2 ^ (8 * n)) (pow_pos (8 * n)) }

loaded_pointer : (insn : Insn) (seg : SegName) (offset : ℕ) → EachGives (IsPointer insn.opsize) (load_pointer insn seg offset)
unfolding load_pointer
loaded_pointer insn seg offset = asked_then (IsPointer insn.opsize) _ _ (λ x. asked_then (IsPointer insn.opsize) _ _ (λ y. is_pointer insn.opsize x y))

pointer_there : (insn : Insn) (operand : Operand) → EachGives (IsPointer insn.opsize) (pointer_at insn operand)
pointer_there insn (Register r) = tt
pointer_there insn (Memory seg offset) = loaded_pointer insn seg offset

pointer_given : (insn : Insn) (cpu : Cpu) (o : Option ModRm) → EachGives (IsPointer insn.opsize) (pointer_or insn cpu o)
pointer_given insn cpu None = is_pointer insn.opsize insn.imm insn.imm2
pointer_given insn cpu (Some m) = pointer_there insn (operand_of insn cpu)

pointed : (insn : Insn) (cpu : Cpu) → EachGives (IsPointer insn.opsize) (far_pointer insn cpu)
unfolding far_pointer
pointed insn cpu = pointer_given insn cpu insn.modrm

popped : (insn : Insn) (cpu : Cpu) (above : ℕ) → EachGives (IsPointer insn.opsize) (pop_pointer insn cpu above)
unfolding pop_pointer
popped insn cpu above = asked_then (IsPointer insn.opsize) _ _ (λ x. asked_then (IsPointer insn.opsize) _ _ (λ y. is_pointer insn.opsize x y))

-- ---- the stack pointer

tame_stack : {old new : Cpu} (offset : ℕ) → Tame old new → Tame old (with_stack_pointer new offset)
unfolding with_stack_pointer
tame_stack {old} {new} offset t = tame_register (stack_size new) true stack_register offset t

tame_released : (cpu : Cpu) (n : ℕ) → Tame cpu (released cpu n)
tame_released cpu n = tame_stack _ (tame_same cpu)

tame_push : (old new : Cpu) (n value : ℕ) → Tame old new → EachGives (Tame old) (push new n value)
unfolding push
tame_push old new n value t = asked_then (Tame old) _ _ (λ u. tame_stack _ t)

tame_return : (insn : Insn) (cpu : Cpu) → EachGives (Tame cpu) (push_return insn cpu)
unfolding push_return
tame_return insn cpu = each_then (Tame cpu) (Tame cpu) (push cpu insn.opsize cpu.cs.sel) _ (tame_push cpu cpu _ _ (tame_same cpu)) (λ pushed t. tame_push cpu pushed _ _ t)

-- what was written in the old state stands in the new one
tame_goes : (cpu new : Cpu) (cs : Seg) (offset : ℕ) → Tame cpu new → Tame (goes_to cpu cs offset) (goes_to new cs offset)
tame_goes cpu new cs offset t = record { rest = ap (λ (c : Cpu). goes_to c cs offset) t.rest; flags = t.flags }

tame_lands : (cpu new : Cpu) (p : FarPointer) (d : Descriptor) → Tame cpu new → Tame (lands cpu p d) (lands new p d)
tame_lands cpu new p d t = record { rest = ap (λ (c : Cpu). lands c p d) t.rest; flags = t.flags }

-- ---- real mode

real_long : (a b c : Bool) → is_real_mode (if a then (if b then Long else Compat) else (if c then Protected else Real)) ≡ true → a ≡ false
real_long true true c h = cc
real_long true false c h = cc
real_long false b c h = refl

no_lma : (cpu : Cpu) → is_real_mode (mode_of cpu) ≡ true → lma cpu ≡ false
no_lma cpu h = real_long (lma cpu) (seg_l cpu.cs) (pe cpu) h

not_64 : (a b db : Bool) → a ≡ false → is_64_bit (if a && b then B64 else (if db then B32 else B16)) ≡ false
not_64 true b db h = cc
not_64 false b true h = refl
not_64 false b false h = refl

cut_32 : (n x : ℕ) → IsSize n → n ≤ 4 → x < 2 ^ (8 * n) → x < 2 ^ 32
cut_32 n x size small h =
    elim (or_cases (n == 2 || n == 4) (n == 8) size) [
      | inl s ↦ elim (or_cases (n == 2) (n == 4) s) [
        | inl e ↦ let k : x < 2 ^ (8 * 2) = subst (λ (m : ℕ). x < 2 ^ (8 * m)) (eqb-true n 2 e) h in omega arith
        | inr e ↦ let k : x < 2 ^ (8 * 4) = subst (λ (m : ℕ). x < 2 ^ (8 * m)) (eqb-true n 4 e) h in omega arith
      ]
      | inr e ↦ let k : n ≡ 8 = eqb-true n 8 e in absurd (omega arith)
    ]

-- in real mode an offset has at most 32 bits
real_offset : (insn : Insn) (cpu : Cpu) (p : FarPointer) → IsOf cpu insn → is_real_mode (mode_of cpu) ≡ true → IsPointer insn.opsize p → p.offset < 2 ^ 32
real_offset insn cpu p of_ real q = cut_32 insn.opsize p.offset of_.parts.opsize (of_.parts.opsize_below (not_64 (lma cpu) (seg_l cpu.cs) (seg_db cpu.cs) (no_lma cpu real))) q.offset

valid_real : (cpu : Cpu) (sel offset : ℕ) → sel < 2 ^ 16 → offset < 2 ^ 32 → Valid cpu → Valid (goes_to cpu (real_segment cpu.cs sel) offset)
valid_real cpu sel offset s o valid =
    valid_moved cpu (real_segment cpu.cs sel) cpu.ss cpu.es cpu.ds cpu.fs cpu.gs offset cpu.cpl (fits_real cpu.cs sel s) (fits_low_same cpu.ss)
    (fits_same cpu.es) (fits_same cpu.ds) (fits_same cpu.fs) (fits_same cpu.gs) (λ h. h) (λ h. h) (pointer_fits (is_long cpu) offset (λ h. o)) valid

le_self : (x : ℕ) → x ≤ x
le_self x = omega arith

arrives_real : (cpu new : Cpu) (p : FarPointer) → p.sel < 2 ^ 16 → p.offset < 2 ^ 32 → Valid cpu → Tame cpu new → Arrives cpu (goes_to new (real_segment cpu.cs p.sel) p.offset)
arrives_real cpu new p s o valid t =
    arrives cpu (goes_to cpu (real_segment cpu.cs p.sel) p.offset) _ (valid_real cpu p.sel p.offset s o valid) refl (le_self cpu.cpl) (λ h. o) refl (tame_goes cpu new (real_segment cpu.cs p.sel) p.offset t)

-- ---- calls and jumps outside real mode

-- a code segment of one size, at whose target code can go on
record IsCode (cpu : Cpu) (sel : ℕ) (offset : ℕ) (d : Descriptor) : Type 0 where
  size : mixes_sizes cpu d ≡ false
  at : is_target cpu (loaded sel d) offset ≡ true

called_by : (a b c m : Bool) (f g h k : Fault) (x : Unit {0}) → (if not a then Err f else (if not b then Err g else (if not c then Err h else (if m then Err k else Ok tt)))) ≡ Ok x → m ≡ false
called_by false b c m f g h k x e = cc
called_by true false c m f g h k x e = cc
called_by true true false m f g h k x e = cc
called_by true true true true f g h k x e = cc
called_by true true true false f g h k x e = refl

called_size : (cpu : Cpu) (sel : ℕ) (d : Descriptor) (x : Unit {0}) → check_called cpu sel d ≡ Ok x → mixes_sizes cpu d ≡ false
called_size cpu sel d x e =
    called_by (is_code (attr_of d)) (may_call cpu sel d) (present_of d) (mixes_sizes cpu d)
    (refused cpu sel) (refused cpu sel) (selector_fault cpu segment_not_present sel) (refused cpu sel) x e

code_called : (cpu : Cpu) (p : FarPointer) → EachGives (IsCode cpu (p.sel - rpl_of p.sel + cpu.cpl % 4) p.offset) (code_to_call cpu p)
unfolding code_to_call
code_called cpu p =
    let Q = IsCode cpu (p.sel - rpl_of p.sel + cpu.cpl % 4) p.offset in
    asked_then Q _ _ (λ d. asked_then Q _ _ (λ u.
    raised_then Q (check_called cpu p.sel d) _ (λ x e.
    raised_then Q (target cpu (called_segment cpu p.sel d) p.offset) _ (λ y t.
    record { size = called_size cpu p.sel d x e; at = target_tells cpu (called_segment cpu p.sel d) p.offset y t }))))

valid_called : (cpu : Cpu) (sel offset : ℕ) (d : Descriptor) → IsCode cpu sel offset d → Valid cpu → Valid (goes_to cpu (loaded sel d) offset)
valid_called cpu sel offset d q valid =
    valid_moved cpu (loaded sel d) cpu.ss cpu.es cpu.ds cpu.fs cpu.gs offset cpu.cpl (fits_loaded cpu.cs sel d) (fits_low_same cpu.ss)
    (fits_same cpu.es) (fits_same cpu.ds) (fits_same cpu.fs) (fits_same cpu.gs) (λ h. h) (λ h. code_fits cpu sel d q.size)
    (pointer_fits _ offset (target_below cpu sel d offset q.at)) valid

arrives_called : (cpu new : Cpu) (p : FarPointer) (d : Descriptor) → IsCode cpu (p.sel - rpl_of p.sel + cpu.cpl % 4) p.offset d → Valid cpu → Tame cpu new → Arrives cpu (goes_to new (called_segment cpu p.sel d) p.offset)
arrives_called cpu new p d q valid t =
    let sel = p.sel - rpl_of p.sel + cpu.cpl % 4 in
    arrives cpu (goes_to cpu (called_segment cpu p.sel d) p.offset) _ (valid_called cpu sel p.offset d q valid) refl (le_self cpu.cpl) (target_below cpu sel d p.offset q.at) refl
    (tame_goes cpu new (called_segment cpu p.sel d) p.offset t)

module _ (insn : Insn) (cpu : Cpu) (p : FarPointer) (of_ : IsOf cpu insn) (valid : Valid cpu) (q : IsPointer insn.opsize p) where
  real_jumps : is_real_mode (mode_of cpu) ≡ true → EachGives (Arrives cpu) (real_jump cpu p)
  unfolding real_jump
  real_jumps real = asked_then (Arrives cpu) _ _ (λ u. arrives_real cpu cpu p q.sel (real_offset insn cpu p of_ real q) valid (tame_same cpu))

  jumps_protected : EachGives (Arrives cpu) (protected_jump cpu p)
  unfolding protected_jump
  jumps_protected = each_then (Arrives cpu) _ (code_to_call cpu p) _ (code_called cpu p) (λ d c. asked_then (Arrives cpu) _ _ (λ u. arrives_called cpu cpu p d c valid (tame_same cpu)))

  jump_in : (real : Bool) → is_real_mode (mode_of cpu) ≡ real → EachGives (Arrives cpu) (if real then real_jump cpu p else protected_jump cpu p)
  jump_in true e = real_jumps e
  jump_in false e = jumps_protected

  jumps : EachGives (Arrives cpu) (jump cpu p)
  unfolding jump
  jumps = jump_in (is_real_mode (mode_of cpu)) refl

  real_calls : is_real_mode (mode_of cpu) ≡ true → EachGives (Arrives cpu) (real_call insn cpu p)
  unfolding real_call
  real_calls real = asked_then (Arrives cpu) _ _ (λ u. each_then (Arrives cpu) (Tame cpu) (push_return insn cpu) _ (tame_return insn cpu) (λ pushed t. arrives_real cpu pushed p q.sel (real_offset insn cpu p of_ real q) valid t))

  calls_protected : EachGives (Arrives cpu) (protected_call insn cpu p)
  unfolding protected_call
  calls_protected =
      each_then (Arrives cpu) _ (code_to_call cpu p) _ (code_called cpu p) (λ d c.
      each_then (Arrives cpu) (Tame cpu) (push_return insn cpu) _ (tame_return insn cpu) (λ pushed t.
      asked_then (Arrives cpu) _ _ (λ u. arrives_called cpu pushed p d c valid t)))

  call_in : (real : Bool) → is_real_mode (mode_of cpu) ≡ real → EachGives (Arrives cpu) (if real then real_call insn cpu p else protected_call insn cpu p)
  call_in true e = real_calls e
  call_in false e = calls_protected

  calls : EachGives (Arrives cpu) (call insn cpu p)
  unfolding call
  calls = call_in (is_real_mode (mode_of cpu)) refl

  real_returns : (taken : ℕ) → is_real_mode (mode_of cpu) ≡ true → EachGives (Arrives cpu) (real_return cpu p taken)
  unfolding real_return
  real_returns taken real = asked_then (Arrives cpu) _ _ (λ u. arrives_real cpu _ p q.sel (real_offset insn cpu p of_ real q) valid (tame_released cpu taken))

-- ---- returns outside real mode

returned_by : (a b c e m : Bool) (f g h i k : Fault) (x : Unit {0}) → (if a then Err f else (if b then Err g else (if not c then Err h else (if not e then Err i else (if m then Err k else Ok tt))))) ≡ Ok x → (b ≡ false) × (m ≡ false)
returned_by true b c e m f g h i k x o = cc
returned_by false true c e m f g h i k x o = cc
returned_by false false false e m f g h i k x o = cc
returned_by false false true false m f g h i k x o = cc
returned_by false false true true true f g h i k x o = cc
returned_by false false true true false f g h i k x o = (refl, refl)

-- code of one size, at no more privilege
record IsReturn (cpu : Cpu) (sel : ℕ) (d : Descriptor) : Type 0 where
  size : mixes_sizes cpu d ≡ false
  level : cpu.cpl ≤ rpl_of sel

not_above : (a b : ℕ) → nat_lt a b ≡ false → b ≤ a
not_above a b h = grind (arith, nat_tests)

is_return : (cpu : Cpu) (sel : ℕ) (d : Descriptor) (x : Unit {0}) → check_returned cpu sel d ≡ Ok x → IsReturn cpu sel d
is_return cpu sel d x e =
    let t = returned_by (not (s_of d) || not (is_code (attr_of d))) (nat_lt (rpl_of sel) cpu.cpl) (may_run_at (rpl_of sel) d) (present_of d) (mixes_sizes cpu d)
    (refused cpu sel) (refused cpu sel) (refused cpu sel) (selector_fault cpu segment_not_present sel) (refused cpu sel) x e in
    record { size = t.1; level = not_above (rpl_of sel) cpu.cpl t.0 }

code_returned : (cpu : Cpu) (sel : ℕ) → EachGives (IsReturn cpu sel) (code_to_return_to cpu sel)
unfolding code_to_return_to
code_returned cpu sel = asked_then (IsReturn cpu sel) _ _ (λ d. raised_then (IsReturn cpu sel) (check_returned cpu sel d) _ (λ x e. is_return cpu sel d x e))

-- the new level is one, since protection is on
level_lands : (cpu : Cpu) (sel : ℕ) → Valid cpu → is_real_mode (mode_of cpu) ≡ false → level_is_valid (record cpu { cpl = rpl_of sel }) ≡ true
level_lands cpu sel valid other = level_fits (pe cpu) sel (protection_on cpu valid other)

module _ (cpu : Cpu) (p : FarPointer) (d : Descriptor) (valid : Valid cpu) (other : is_real_mode (mode_of cpu) ≡ false) (up : cpu.cpl ≤ rpl_of p.sel) (q : IsCode cpu p.sel p.offset d) where
  lands_with : (ss es ds fs gs : Seg) → FitsLow cpu.ss ss → Fits cpu.es es → Fits cpu.ds ds → Fits cpu.fs fs → Fits cpu.gs gs → Valid (moved cpu (loaded p.sel d) ss es ds fs gs p.offset (rpl_of p.sel))
  lands_with ss es ds fs gs s e a f g =
      valid_moved cpu (loaded p.sel d) ss es ds fs gs p.offset (rpl_of p.sel) (fits_loaded cpu.cs p.sel d) s e a f g
      (λ h. level_lands cpu p.sel valid other) (λ h. code_fits cpu p.sel d q.size) (pointer_fits _ p.offset (target_below cpu p.sel d p.offset q.at)) valid

  valid_lands : Valid (lands cpu p d)
  valid_lands = lands_with cpu.ss cpu.es cpu.ds cpu.fs cpu.gs (fits_low_same cpu.ss) (fits_same cpu.es) (fits_same cpu.ds) (fits_same cpu.fs) (fits_same cpu.gs)

  arrives_lands : (new : Cpu) → Tame cpu new → Arrives cpu (lands new p d)
  arrives_lands new t = arrives cpu (lands cpu p d) _ valid_lands refl up (target_below cpu p.sel d p.offset q.at) refl (tame_lands cpu new p d t)

  arrives_stack : (less : Bool) (ss : Seg) (offset extra : ℕ) → FitsLow cpu.ss ss → Arrives cpu (with_stack (if less then without_lost (lands cpu p d) else lands cpu p d) ss offset extra)
  arrives_stack true ss offset extra s =
      let level = rpl_of p.sel in
      let left : Cpu = record (without_lost (lands cpu p d)) { ss = ss } in
      arrives cpu left _
      (lands_with ss _ _ _ _ s (fits_left (is_lost level cpu.es) cpu.es) (fits_left (is_lost level cpu.ds) cpu.ds) (fits_left (is_lost level cpu.fs) cpu.fs) (fits_left (is_lost level cpu.gs) cpu.gs))
      refl up (target_below cpu p.sel d p.offset q.at) refl (tame_stack _ (tame_same left))
  arrives_stack false ss offset extra s =
      let left : Cpu = record (lands cpu p d) { ss = ss } in
      arrives cpu left _
      (lands_with ss cpu.es cpu.ds cpu.fs cpu.gs s (fits_same cpu.es) (fits_same cpu.ds) (fits_same cpu.fs) (fits_same cpu.gs))
      refl up (target_below cpu p.sel d p.offset q.at) refl (tame_stack _ (tame_same left))

  arrives_left : (ss : Seg) (offset extra : ℕ) → FitsLow cpu.ss ss → Arrives cpu (with_stack (with_data_left cpu.cpl (lands cpu p d)) ss offset extra)
  unfolding with_data_left
  arrives_left ss offset extra s = arrives_stack (nat_lt cpu.cpl (rpl_of p.sel)) ss offset extra s

fits_stack : (cpu at : Cpu) (sel : ℕ) (e : Descriptor) (ss : Seg) → at.ss ≡ cpu.ss → sel < 2 ^ 16 → load at Ss sel e ≡ Ok ss → FitsLow cpu.ss ss
fits_stack cpu at sel e ss same small ok =
    let k = loads_keep_rules at Ss sel e ss small ok in
    record { attr = λ h. k.attr (rw same h); low = λ h. below ss.base (2 ^ 32) k.base }

module _ (insn : Insn) (cpu : Cpu) (p : FarPointer) (valid : Valid cpu) (other : is_real_mode (mode_of cpu) ≡ false) where
  on_stack : (d : Descriptor) (taken : ℕ) → IsReturn cpu p.sel d → EachGives (Arrives cpu) (return_on_stack cpu p d taken)
  unfolding return_on_stack
  on_stack d taken r =
      raised_then (Arrives cpu) (target cpu (loaded p.sel d) p.offset) _ (λ x t. asked_then (Arrives cpu) _ _ (λ u.
      arrives_lands cpu p d valid other r.level (record { size = r.size; at = target_tells cpu (loaded p.sel d) p.offset x t }) _ (tame_released cpu taken)))

  on_new_stack : (d : Descriptor) (taken extra : ℕ) → IsReturn cpu p.sel d → EachGives (Arrives cpu) (return_with_stack insn cpu p d taken extra)
  unfolding return_with_stack
  on_new_stack d taken extra r =
      each_then (Arrives cpu) (IsPointer insn.opsize) (pop_pointer insn cpu (taken + extra)) _ (popped insn cpu (taken + extra)) (λ stack s.
      asked_then (Arrives cpu) _ _ (λ e.
      raised_then (Arrives cpu) (load (lands cpu p d) Ss stack.sel e) _ (λ ss l.
      raised_then (Arrives cpu) (target cpu (loaded p.sel d) p.offset) _ (λ x t.
      asked_then (Arrives cpu) _ _ (λ u. asked_then (Arrives cpu) _ _ (λ v.
      arrives_left cpu p d valid other r.level (record { size = r.size; at = target_tells cpu (loaded p.sel d) p.offset x t }) ss stack.offset extra
      (fits_stack cpu (lands cpu p d) stack.sel e ss refl s.sel l)))))))

  protected_returns : (always : Bool) (taken extra : ℕ) → EachGives (Arrives cpu) (protected_return insn cpu always p taken extra)
  unfolding protected_return
  protected_returns always taken extra =
      each_then (Arrives cpu) (IsReturn cpu p.sel) (code_to_return_to cpu p.sel) _ (code_returned cpu p.sel) (λ d r.
      each_if (Arrives cpu) (always || nat_lt cpu.cpl (rpl_of p.sel)) _ _ (on_new_stack d taken extra r) (on_stack d (taken + extra) r))

module _ (insn : Insn) (cpu : Cpu) (p : FarPointer) (of_ : IsOf cpu insn) (valid : Valid cpu) (q : IsPointer insn.opsize p) where
  return_in : (real : Bool) (always : Bool) (a b c : ℕ) → is_real_mode (mode_of cpu) ≡ real → EachGives (Arrives cpu) (if real then real_return cpu p a else protected_return insn cpu always p b c)
  return_in true always a b c e = real_returns insn cpu p of_ valid q a e
  return_in false always a b c e = protected_returns insn cpu p valid e always b c

  far_returns : EachGives (Arrives cpu) (far_return insn cpu p)
  unfolding far_return
  far_returns = return_in (is_real_mode (mode_of cpu)) false _ _ _ refl

  interrupt_in : (real to_vm86 : Bool) (h : Tree Cpu) (always : Bool) (a b c : ℕ) → EachGives (Arrives cpu) h → is_real_mode (mode_of cpu) ≡ real →
      EachGives (Arrives cpu) (if real then real_return cpu p a else (if to_vm86 then h else protected_return insn cpu always p b c))
  interrupt_in true to_vm86 h always a b c g e = real_returns insn cpu p of_ valid q a e
  interrupt_in false true h always a b c g e = g
  interrupt_in false false h always a b c g e = protected_returns insn cpu p valid e always b c

  interrupt_returns : (flags : ℕ) → EachGives (Arrives cpu) (interrupt_return insn cpu p flags)
  unfolding interrupt_return
  interrupt_returns flags = interrupt_in (is_real_mode (mode_of cpu)) (is_to_vm86 insn cpu flags) _ _ _ _ _ tt refl

-- ---- the rows

-- how each of them ends
record Ends (cpu : Cpu) (f : Finish) : Type 0 where
  sound : IsSound f
  transfers : Transfers cpu f

ends : (cpu after : Cpu) → Arrives cpu after → Ends cpu (ends_at after)
ends cpu after a = record {
  sound = record { valid = a.valid; retire = lit≤ tt };
  transfers = record { only = a.only; flags = a.flags; level = a.level; more = refl; retire = refl };
}

module _ (insn : Insn) (cpu : Cpu) (of_ : IsOf cpu insn) (valid : Valid cpu) where
  ends_jmpf : EachGives (Ends cpu) (jmpf_row insn cpu)
  ends_jmpf = each_then (Ends cpu) (IsPointer insn.opsize) (far_pointer insn cpu) _ (pointed insn cpu) (λ p q. each_then (Ends cpu) (Arrives cpu) (jump cpu p) _ (jumps insn cpu p of_ valid q) (λ after a. ends cpu after a))

  ends_callf : EachGives (Ends cpu) (callf_row insn cpu)
  ends_callf = each_then (Ends cpu) (IsPointer insn.opsize) (far_pointer insn cpu) _ (pointed insn cpu) (λ p q. each_then (Ends cpu) (Arrives cpu) (call insn cpu p) _ (calls insn cpu p of_ valid q) (λ after a. ends cpu after a))

  ends_retf : EachGives (Ends cpu) (retf_row insn cpu)
  ends_retf = each_then (Ends cpu) (IsPointer insn.opsize) (pop_pointer insn cpu 0) _ (popped insn cpu 0) (λ p q. each_then (Ends cpu) (Arrives cpu) (far_return insn cpu p) _ (far_returns insn cpu p of_ valid q) (λ after a. ends cpu after a))

  ends_iret : EachGives (Ends cpu) (iret_row insn cpu)
  ends_iret =
      asked_then (Ends cpu) _ _ (λ u. asked_then (Ends cpu) _ _ (λ v.
      each_then (Ends cpu) (IsPointer insn.opsize) (pop_pointer insn cpu 0) _ (popped insn cpu 0) (λ p q. asked_then (Ends cpu) _ _ (λ flags.
      each_then (Ends cpu) (Arrives cpu) (interrupt_return insn cpu p flags) _ (interrupt_returns insn cpu p of_ valid q flags) (λ after a.
      ends cpu _ (arrives_with cpu after _ a (fixed_popped cpu insn.opsize flags)))))))

  ends_by_row : (r : Row) → EachGives (Ends cpu) (or_undefined (row_at r) insn cpu)
  ends_by_row row.Callf = ends_callf
  ends_by_row row.Jmpf = ends_jmpf
  ends_by_row row.Retf = ends_retf
  ends_by_row row.Iret = ends_iret
  ends_by_row other = tt

-- the laws of the whole crate
rows_end : (insn : Insn) (cpu : Cpu) → IsOf cpu insn → Valid cpu → EachGives (Ends cpu) (row_of insn cpu)
rows_end insn cpu of_ valid = ends_by_row insn cpu of_ valid insn.row

pub rows_sound : (insn : Insn) (cpu : Cpu) → is_row insn.row ≡ true → IsOf cpu insn → Valid cpu → EachGives IsSound (row_of insn cpu)
rows_sound insn cpu built of_ valid = each_implies (Ends cpu) IsSound (λ f e. e.sound) (row_of insn cpu) (rows_end insn cpu of_ valid)

pub rows_transfer : (insn : Insn) (cpu : Cpu) → is_row insn.row ≡ true → IsOf cpu insn → Valid cpu → EachGives (Transfers cpu) (row_of insn cpu)
rows_transfer insn cpu built of_ valid = each_implies (Ends cpu) (Transfers cpu) (λ f e. e.transfers) (row_of insn cpu) (rows_end insn cpu of_ valid)

-- an instruction that finishes leaves a valid state
pub finish_sound : (insn : Insn) (cpu after : Cpu) (res : Result End Stop) (old new : Sight) → is_row insn.row ≡ true → IsOf cpu insn → Is (row_of insn cpu) old (finished res after) new → Valid cpu → IfOk (finished res after) IsSound
finish_sound insn cpu after (Ok e) old new built of_ ran valid = gives_of IsSound (row_of insn cpu) _ old new (rows_sound insn cpu built of_ valid) ran
finish_sound insn cpu after (Err s) old new built of_ ran valid = tt
