use Rattle.std.proofs.Common.{ℕ, ◌≡◌, ◌+◌, ◌%◌, ◌^◌, List, Bool, true, false, not, ◌&&◌, nat_lt, if◌then◌else◌, Option, Some, None, refl, arith}
use Rattle.std.proofs.lemmas.Bool.Decides.{nat_tests}
use Rattle.xe_base.specs.State.{broken, Valid, pointer_is_valid, lma, seg_l, seg_db}
use Rattle.xe_base.specs.Registers.{next_rip}
use Rattle.xe_base.specs.declared.cpu.Cpu.{Cpu}

-- a rule that stays
pub keep : (b : Bool) (n : ℕ) (x y : Option ℕ) → (x ≡ None → y ≡ None) → (if not b then Some n else x) ≡ None → (if not b then Some n else y) ≡ None
keep true n x y f h = f h
keep false n x y f h = cc

-- a rule that holds now
pub replace : (b c : Bool) (n : ℕ) (x : Option ℕ) → c ≡ true → (if not b then Some n else x) ≡ None → (if not c then Some n else x) ≡ None
replace true c n x t h = rw t h
replace false c n x t h = cc

-- other general registers, and an instruction pointer that fits, keep a state valid
pub valid_moved : (cpu : Cpu) (gpr : List ℕ) (rip : ℕ) → pointer_is_valid (record cpu { gpr = gpr; rip = rip }) ≡ true → Valid cpu → Valid (record cpu { gpr = gpr; rip = rip })
unfolding broken
valid_moved cpu gpr rip p h =
    keep _ 1 _ _ (keep _ 2 _ _ (keep _ 3 _ _ (keep _ 4 _ _ (keep _ 5 _ _ (keep _ 6 _ _ (keep _ 7 _ _ (keep _ 8 _ _ (replace _ _ 9 _ p)))))))) h

pub below-32 : (x : ℕ) → nat_lt (x % 2 ^ 32) (2 ^ 32) ≡ true
below-32 x = grind (arith, nat_tests)

fits : (long wide : Bool) (cpu : Cpu) (gpr : List ℕ) (len : ℕ) → lma cpu && seg_l cpu.cs ≡ long → seg_db cpu.cs ≡ wide → pointer_is_valid (record cpu { gpr = gpr; rip = next_rip cpu len }) ≡ true
fits true wide cpu gpr len h d = rw h refl
fits false true cpu gpr len h d = rw (h, d) (below-32 (cpu.rip + len))
fits false false cpu gpr len h d = rw (h, d) (below-32 (cpu.rip + len))

-- behind an instruction the instruction pointer fits
pub valid_next : (cpu : Cpu) (gpr : List ℕ) (len : ℕ) → Valid cpu → Valid (record cpu { gpr = gpr; rip = next_rip cpu len })
valid_next cpu gpr len h = valid_moved cpu gpr (next_rip cpu len) (fits _ _ cpu gpr len refl refl) h
