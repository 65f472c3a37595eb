use Rattle.std.proofs.Common.{ℕ, ◌≡◌, Bool, true, false, not, Option, Some, None, refl, if◌then◌else◌, ◌&&◌}
use Rattle.xe_base.specs.State.{Valid, broken, lma, lme, pg, is_long, flags_are_valid, cr0_is_valid, cr4_is_valid, efer_is_valid, paging_is_valid, segments_are_valid, level_is_valid, code_is_valid, pointer_is_valid}
use Rattle.xe_base.specs.declared.cpu.Cpu.{Cpu}

-- the rules as answers
abbrev chain : Bool → Bool → Bool → Bool → Bool → Bool → Bool → Bool → Bool → Option ℕ
chain a b c d e f g h i = if not a then Some 1 else (if not b then Some 2 else (if not c then Some 3 else (if not d then Some 4 else (if not e then Some 5 else (if not f then Some 6 else (if not g then Some 7 else (if not h then Some 8 else (if not i then Some 9 else None))))))))

-- what holds where none is broken
no-rule : (a b c d e f g h i : Bool) → chain a b c d e f g h i ≡ None → (d ≡ true)
no-rule false b c d e f g h i n = cc
no-rule true false c d e f g h i n = cc
no-rule true true false d e f g h i n = cc
no-rule true true true false e f g h i n = cc
no-rule true true true true false f g h i n = cc
no-rule true true true true true false g h i n = cc
no-rule true true true true true true false h i n = cc
no-rule true true true true true true true false i n = cc
no-rule true true true true true true true true false n = cc
no-rule true true true true true true true true true n = refl

efer-of : (cpu : Cpu) → Valid cpu → efer_is_valid cpu ≡ true
unfolding broken
efer-of cpu h = no-rule (flags_are_valid cpu) (cr0_is_valid cpu) (cr4_is_valid cpu) (efer_is_valid cpu) (paging_is_valid cpu) (segments_are_valid cpu) (level_is_valid cpu) (code_is_valid cpu) (pointer_is_valid cpu) h

both-off : (x paging : Bool) → paging ≡ false → x && paging ≡ false
both-off true paging h = h
both-off false paging h = refl

active : (a x active_ c : Bool) → x ≡ false → a && (if x then active_ else not active_) && c ≡ true → active_ ≡ false
active a x false c e h = refl
active a true true c e h = cc
active true false true c e h = cc
active false false true c e h = cc

-- without paging long mode isn't active
pub unpaged_not_active : (cpu : Cpu) → Valid cpu → pg cpu ≡ false → lma cpu ≡ false
unpaged_not_active cpu h p = active _ _ (lma cpu) _ (both-off (lme cpu) (pg cpu) p) (efer-of cpu h)

-- so there is no 64-bit mode either
pub unpaged_not_long : (cpu : Cpu) → Valid cpu → pg cpu ≡ false → is_long cpu ≡ false
unpaged_not_long cpu h p = let l = unpaged_not_active cpu h p in rw l refl
