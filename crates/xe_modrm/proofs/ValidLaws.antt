use Rattle.std.proofs.Common.{◌≡◌, ℕ, zero, suc, Bool, true, false, ◌||◌, ◌<◌, ◌*◌, ◌%◌, ◌^◌, refl, arith, cond, Some, None}
use Rattle.std.specs.Prelude.{◌==◌, IsTrue}
use Rattle.std.proofs.lemmas.Bool.Decides.{nat_tests}
use Rattle.xe_base.specs.declared.cpu.CodeSize.{CodeSize}
use Rattle.xe_modrm.specs.declared.part.Prefixes.{Prefixes}
use Rattle.xe_modrm.specs.Prefix.{is_rep, is_rex, prefixes_then}
use Rattle.xe_modrm.specs.Valid.{rex_fits, IsPrefixes}

-- a scale is a power of 2 of two bits
pub scale_fits : (k : ℕ) → k < 4 → IsTrue (1 * 2 ^ k % 256 == 1 || 1 * 2 ^ k % 256 == 2 || 1 * 2 ^ k % 256 == 4 || 1 * 2 ^ k % 256 == 8)
scale_fits zero h = refl
scale_fits (suc zero) h = refl
scale_fits (suc (suc zero)) h = refl
scale_fits (suc (suc (suc zero))) h = refl
scale_fits (suc (suc (suc (suc k)))) h = absurd (omega arith)

rep_then : (b r : ℕ) (t : Bool) → is_rep b ≡ t → IsTrue (r == 0 || r == 0xF2 || r == 0xF3) → IsTrue (cond t b r == 0 || cond t b r == 0xF2 || cond t b r == 0xF3)
rep_then b r true e h = grind (arith, nat_tests)
rep_then b r false e h = h

rex_then : (size : CodeSize) (b : ℕ) (t : Bool) → is_rex size b ≡ t → IsTrue (rex_fits size (cond t (Some b) None))
rex_then size b true e = e
rex_then size b false e = refl

-- one more prefix byte keeps the ranges
pub then_valid : (size : CodeSize) (pre : Prefixes) (b : ℕ) → IsPrefixes size pre → IsPrefixes size (prefixes_then size pre b)
then_valid size pre b is = record { rep = rep_then b pre.rep (is_rep b) refl is.rep; rex = rex_then size b (is_rex size b) refl }

pub start_valid : (size : CodeSize) → IsPrefixes size (record { lock = false; rep = 0; seg = None; opsize = false; adsize = false; rex = None })
start_valid size = record { rep = refl; rex = refl }
