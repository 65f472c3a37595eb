-- A run of the machine in C's struct is the library's.
use Rattle.std.proofs.Common.{◌≡◌, ℕ, subst}
use Rattle.std.specs.Prelude.{Option, Some, None, false}
use Rattle.xe_core.specs.Step.{is_diverged}
use Rattle.x86emu_c.specs.Emulated.{Emulated}
use Rattle.x86emu_c.specs.Ran.{Ran, HasRun}
use Rattle.x86emu_c.specs.Told.{Told}
use Rattle.x86emu_c.specs.declared.report.X86emuReport.{X86emuReport}

some-inj : {A : Type 0} {x y : A} → Some x ≡ Some y → x ≡ y
some-inj e = cc

pub has_run : (n : ℕ) (e old new : Emulated) (left held : Option Emulated) (told : X86emuReport) → held ≡ Some e → held ≡ Some old → Ran n old new → (is_diverged new.report.outcome ≡ false → new.posted ≡ None) → Told new.report told → left ≡ Some new
    → HasRun n e told left
has_run n e old new left held told h k ran taken is_told is =
    let same : old ≡ e = cc in record { new = new; new_is = is; ran = subst (λ (o : Emulated). Ran n o new) same ran; told_ = is_told; taken = taken }
