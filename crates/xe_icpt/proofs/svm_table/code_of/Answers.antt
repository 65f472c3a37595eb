use Rattle.std.proofs.Common.{refl}
use Rattle.bitflags.specs.Sets.{find_row}
use Rattle.xe_icpt.specs.SvmNames.{svm_code}
use Rattle.xe_icpt.proofs.SvmRows.{code-read, code-write}
use Rattle.xe_icpt.proofs.svm_table.code_of.Goals as goal

pub returns-in-CrRead : goal.returns-in-CrRead
returns-in-CrRead c = let r = rw c.in-CrRead.is at c.requires in rw c.in-CrRead.is (code-read c.in-CrRead.n r.0)

pub returns-in-CrWrite : goal.returns-in-CrWrite
returns-in-CrWrite c = let r = rw c.in-CrWrite.is at c.requires in rw c.in-CrWrite.is (code-write c.in-CrWrite.n r.0)

pub returns-in-Cr0Sel : goal.returns-in-Cr0Sel
unfolding svm_code find_row
returns-in-Cr0Sel c = rw c.in-Cr0Sel.is refl

pub returns-in-Rdtsc : goal.returns-in-Rdtsc
unfolding svm_code find_row
returns-in-Rdtsc c = rw c.in-Rdtsc.is refl

pub returns-in-Pushf : goal.returns-in-Pushf
unfolding svm_code find_row
returns-in-Pushf c = rw c.in-Pushf.is refl

pub returns-in-Popf : goal.returns-in-Popf
unfolding svm_code find_row
returns-in-Popf c = rw c.in-Popf.is refl

pub returns-in-Cpuid : goal.returns-in-Cpuid
unfolding svm_code find_row
returns-in-Cpuid c = rw c.in-Cpuid.is refl

pub returns-in-Iret : goal.returns-in-Iret
unfolding svm_code find_row
returns-in-Iret c = rw c.in-Iret.is refl

pub returns-in-Swint : goal.returns-in-Swint
unfolding svm_code find_row
returns-in-Swint c = rw c.in-Swint.is refl

pub returns-in-Invd : goal.returns-in-Invd
unfolding svm_code find_row
returns-in-Invd c = rw c.in-Invd.is refl

pub returns-in-Pause : goal.returns-in-Pause
unfolding svm_code find_row
returns-in-Pause c = rw c.in-Pause.is refl

pub returns-in-Hlt : goal.returns-in-Hlt
unfolding svm_code find_row
returns-in-Hlt c = rw c.in-Hlt.is refl

pub returns-in-Invlpg : goal.returns-in-Invlpg
unfolding svm_code find_row
returns-in-Invlpg c = rw c.in-Invlpg.is refl

pub returns-in-Io : goal.returns-in-Io
unfolding svm_code find_row
returns-in-Io c = rw c.in-Io.is refl

pub returns-in-Msr : goal.returns-in-Msr
unfolding svm_code find_row
returns-in-Msr c = rw c.in-Msr.is refl

pub returns-in-Wbinvd : goal.returns-in-Wbinvd
unfolding svm_code find_row
returns-in-Wbinvd c = rw c.in-Wbinvd.is refl
